-- The sums while a list is gone through: before the first entry, with one more, and with a list more. These are the words of the functions that
-- `forecast::forecast` and `forecast_table` share; that they come to `forecast_of` is `sums_are` of proofs/Laws.
use Rattle.std.specs.Prelude.{ℕ, ◌+◌, ◌%◌, ◌^◌, false, List, [], ◌∷◌, Result, Ok, Err}
use Rattle.base.specs.Choice.{pick}
use Rattle.bundle.specs.Bundle.{well_formed}
use Rattle.entry.specs.declared.RamdumpTable64.{RamdumpTable64}
use Rattle.verdict.specs.Opening.{chunks_in}
use Rattle.refusal.specs.declared.Refusal.{Refusal}
use Rattle.forecast_sums.specs.declared.Forecast.{Forecast}
use Rattle.forecast_sums.specs.Forecast.{is_selected, passes, needs}

-- the table's read, and no region; 26
abbrev pub start_of : List ℕ → Result Forecast Refusal
start_of names = pick (well_formed false names) (Ok (needs 0 0 1)) (Err Refusal.ForecastNames)

-- with a selected region more, of this length; 27. What is refused stays so. The regions modulo 2^64, which no list that is lent comes to
abbrev pub more_of : ℕ → Result Forecast Refusal → ℕ → Result Forecast Refusal
more_of c (Ok f) len =
    pick (passes (f.bytes + len)) (Err Refusal.ForecastSum)
    (pick (passes (f.reads + chunks_in c len)) (Err Refusal.ForecastSum)
    (Ok (needs ((f.regions + 1) % 2 ^ 64) (f.bytes + len) (f.reads + chunks_in c len))))
more_of c (Err why) len = Err why

-- with any entry more
abbrev pub add_of : ℕ → List ℕ → Result Forecast Refusal → RamdumpTable64 → Result Forecast Refusal
add_of c names sums e = pick (is_selected names e) (more_of c sums e.len) sums

unfoldable pub add_all : ℕ → List ℕ → Result Forecast Refusal → List RamdumpTable64 → Result Forecast Refusal
add_all c names sums [] = sums
add_all c names sums (e ∷ es) = add_all c names (add_of c names sums e) es
