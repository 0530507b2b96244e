-- A table entry, an image range, a check, a built packet, the answers of a region sheet and of a tidying and a forecast as plain numbers, as they cross to C
-- and Rust. Where something is refused, `refused` is its number in document 01, "Refusals", of a sheet in document 02, request 4, of a forecast in its request
-- 5, of a tidying in its request 6, and every other number is 0; no refusal has the number 0.
use Rattle.std.specs.Prelude.{ℕ, replicate, Option, Some, None, Result, Ok, Err}
use Rattle.entry.specs.declared.RamdumpTable64.{RamdumpTable64}
use Rattle.forecast_sums.specs.declared.Forecast.{Forecast}
use Rattle.raw_records.specs.declared.RawEntry.{RawEntry}
use Rattle.raw_records.specs.declared.RawRange.{RawRange}
use Rattle.raw_records.specs.declared.RawSheet.{RawSheet}
use Rattle.raw_records.specs.declared.RawForecast.{RawForecast}
use Rattle.raw_records.specs.declared.RawTidied.{RawTidied}
use Rattle.refusal.specs.Refusal.{refusal_number}
use Rattle.refusal.specs.declared.Refusal.{Refusal}

-- of an answer the refusal alone
abbrev pub refused_number : {A : Type 0} → Result A Refusal → ℕ
refused_number (Ok a) = 0
refused_number (Err why) = refusal_number why

-- an entry; `there` is 0 beside an entry of zeros where the table has none
abbrev pub raw_entry : Option RamdumpTable64 → RawEntry
raw_entry (Some e) =
    record { save_pref = e.save_pref; base = e.base; len = e.len; description = e.description; filename = e.filename; there = 1 }
raw_entry None = record { save_pref = 0; base = 0; len = 0; description = replicate 20 0; filename = replicate 20 0; there = 0 }

abbrev pub raw_range : Result (ℕ × ℕ) Refusal → RawRange
raw_range (Ok (start, len)) = record { start = start; len = len; refused = 0 }
raw_range (Err why) = record { start = 0; len = 0; refused = refusal_number why }

abbrev pub raw_sheet : Result ℕ Refusal → RawSheet
raw_sheet (Ok k) = record { written = k; refused = 0 }
raw_sheet (Err why) = record { written = 0; refused = refusal_number why }

abbrev pub raw_forecast : Result Forecast Refusal → RawForecast
raw_forecast (Ok f) = record { regions = f.regions; bytes = f.bytes; reads = f.reads; refused = 0 }
raw_forecast (Err why) = record { regions = 0; bytes = 0; reads = 0; refused = refusal_number why }

abbrev pub raw_tidied : Result ℕ Refusal → RawTidied
raw_tidied (Ok k) = record { len = k; refused = 0 }
raw_tidied (Err why) = record { len = 0; refused = refusal_number why }

-- what a check tells, and a building
abbrev pub checked_number : Result Unit Refusal → ℕ
checked_number = refused_number

abbrev pub built_number : Result ℕ Refusal → ℕ
built_number = refused_number
