-- Number and values tell the answers of a forecast apart: each is found again from them. Assumes nothing.
use Rattle.std.proofs.Common.{◌≡◌, get_or, refl}
use Rattle.std.specs.Prelude.{Result}
use Rattle.refusal.specs.declared.Refusal.{Refusal}
use Rattle.refusal.proofs.Laws.{result_apart}
use Rattle.forecast_sums.specs.declared.Forecast.{Forecast}
use Rattle.forecast_sums.specs.Forecast.{needs, needs_told, forecast_told}

pub forecast_apart : (x y : Result Forecast Refusal) → forecast_told x ≡ forecast_told y → x ≡ y
forecast_apart =
    result_apart needs_told (λ t. needs (get_or t.values 0 0) (get_or t.values 1 0) (get_or t.values 2 0)) (λ _. refl) (λ _. refl)
