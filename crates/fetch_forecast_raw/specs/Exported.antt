-- The forecast that C asks for, held against what a run of C calls comes to: from the promise of `worgesli_forecast_table` (worgesli/src), lent the first
-- `count` bytes of the run's table buffer, the `width` of the session's own numbers and the run's names, to the regions, the bytes and the memory reads of
-- the run. The theorem is `foretold_exported` of proofs/Exported; `foretold_ensured` beside it begins at the function's contract itself.
use Rattle.std.specs.Prelude.{ℕ, ◌⊎◌, ◌≡◌, List, ◌∷◌, ◌++◌, take}
use Rattle.raw.specs.declared.RawSession.{RawSession}
use Rattle.raw_records.specs.Records.{raw_forecast}
use Rattle.raw_records.specs.declared.RawForecast.{RawForecast}
use Rattle.verdict.specs.declared.Finish.TheVariants as Finish
use Rattle.steps.specs.Steps.{final, Throughout}
use Rattle.raw_forecast.specs.RawForecast.{forecast_raw}
use Rattle.fetch.specs.Plain.{Report, finished, Setting}
use Rattle.fetch.specs.Device.{Lent, World, start, next}
use Rattle.fetch.specs.Claim.{reports}
use Rattle.fetch_raw.specs.Calls.{Call, Called, calling}
use Rattle.fetch_forecast.specs.Claim.{Lends, Comes}

-- a session's numbers tell that it has its table: between regions (4), or in one (5)
abbrev pub HasTable : RawSession → Type 0
HasTable r = (r.phase ≡ 4) ⊎ (r.phase ≡ 5)

-- what `worgesli_forecast_table(table, count, width, names)` promises, count and width being those of the session's numbers, table the run's buffer
abbrev pub promised_for : RawSession → List ℕ → List ℕ → RawForecast
promised_for r table names = raw_forecast (forecast_raw (take r.count table) r.width names)

-- the run behind some of its steps
abbrev pub behind : (ℕ → Call) → Setting → List Lent → World Called
behind choice c ls = final (next (calling choice) c) (start (calling choice) c) ls

-- an answer x is true of the run of these steps: it refuses, or a run that finishes with the memory dumped (3) comes to its numbers
abbrev pub TrueOf : (ℕ → Call) → Setting → List Lent → RawForecast → Type 0
TrueOf choice c ls x =
    x.refused ≡ 0
    → (l m : List Report) (k : ℕ)
    → reports (calling choice) c (start (calling choice) c) ls ≡ l ++ (finished Finish.Dumped k ∷ m)
    → Comes x.regions x.bytes x.reads k (reports (calling choice) c (start (calling choice) c) ls)

-- of every run of calls, each step lent as `Lends` says, and every place in it where the session has its table: the answer promised there is true of the
-- whole run
abbrev pub ForetellsExported : (ℕ → Call) → Type 0
ForetellsExported choice =
    (c : Setting) (before after : List Lent)
    → Throughout (next (calling choice) c) (Lends (calling choice) c) (start (calling choice) c) (before ++ after)
    → HasTable (behind choice c before).state.numbers
    → (x : RawForecast)
    → x ≡ promised_for (behind choice c before).state.numbers (behind choice c before).table c.names
    → TrueOf choice c (before ++ after) x
