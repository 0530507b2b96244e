-- The forecast of a table by a width that is a number, as it crosses to C (document 02, request 5).
use Rattle.std.specs.Prelude.{ℕ, List, [], Result}
use Rattle.base.specs.Choice.{pick}
use Rattle.field.specs.Field.{field_size}
use Rattle.entry.specs.Entry.{entries_of}
use Rattle.forecast_sums.specs.Forecast.{forecast_of, forecast_chunk}
use Rattle.forecast_sums.specs.declared.Forecast.{Forecast}
use Rattle.raw.specs.Raw.{width_of, is_width}
use Rattle.refusal.specs.declared.Refusal.{Refusal}

-- of a number that is no width there is no entry
unfoldable pub forecast_raw : List ℕ → ℕ → List ℕ → Result Forecast Refusal
forecast_raw t n names = forecast_of forecast_chunk (pick (is_width n) (entries_of (field_size (width_of n)) t) []) names
