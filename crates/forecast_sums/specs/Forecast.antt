-- How large a fetch will be. Document 02, request 5: "From a lent list of decoded entries and the names, give how many regions are selected, their bytes and
-- the memory reads including the table's. .. 26 when the names are malformed, checked first. 27 when the bytes or the memory reads pass 2^64 - 1, second."
-- Entries are decoded, their numbers widened: no width is asked for. c is the most that one memory read asks for. What a session comes to is held against
-- this in fetch_forecast/specs/Claim.
use Rattle.std.specs.Prelude.{ℕ, ◌+◌, ◌-◌, ◌^◌, Bool, false, not, ◌||◌, List, [], ◌∷◌, Result, Ok, Err, length, nat_lt}
use Rattle.base.specs.Choice.{pick}
use Rattle.base.specs.Told.{Told, told}
use Rattle.bundle.specs.Bundle.{well_formed}
use Rattle.entry.specs.declared.RamdumpTable64.{RamdumpTable64}
use Rattle.selection.specs.Selection.{selected_by}
use Rattle.verdict.specs.Opening.{chunks_in}
use Rattle.forecast_sums.specs.declared.Forecast.{Forecast}
use Rattle.refusal.specs.Refusal.{result_told}
use Rattle.refusal.specs.declared.Refusal.{Refusal}

-- an entry is selected
unfoldable pub is_selected : List ℕ → RamdumpTable64 → Bool
is_selected names e = selected_by names e.save_pref e.filename

-- those of a list that are
unfoldable pub selected_of : List ℕ → List RamdumpTable64 → List RamdumpTable64
selected_of names [] = []
selected_of names (e ∷ es) = pick (is_selected names e) (e ∷ selected_of names es) (selected_of names es)

-- a number of each entry, summed
unfoldable pub summed : (RamdumpTable64 → ℕ) → List RamdumpTable64 → ℕ
summed n [] = 0
summed n (e ∷ es) = n e + summed n es

-- "how many regions are selected, their bytes and the memory reads including the table's": one for the table, and one for each chunk of a region
abbrev pub regions_needed : List ℕ → List RamdumpTable64 → ℕ
regions_needed names es = length (selected_of names es)

abbrev pub bytes_needed : List ℕ → List RamdumpTable64 → ℕ
bytes_needed names es = summed (λ e. e.len) (selected_of names es)

abbrev pub reads_needed : ℕ → List ℕ → List RamdumpTable64 → ℕ
reads_needed c names es = 1 + summed (λ e. chunks_in c e.len) (selected_of names es)

-- a number "pass[es] 2^64 - 1"
abbrev pub passes : ℕ → Bool
passes n = nat_lt (2 ^ 64 - 1) n

-- 26, 27, or the three numbers. (The regions are no more than the list's entries)
abbrev pub needs : ℕ → ℕ → ℕ → Forecast
needs regions bytes reads = record { regions = regions; bytes = bytes; reads = reads }

unfoldable pub forecast_of : ℕ → List RamdumpTable64 → List ℕ → Result Forecast Refusal
forecast_of c es names =
    pick (not (well_formed false names)) (Err Refusal.ForecastNames)
    (pick (passes (bytes_needed names es) || passes (reads_needed c names es)) (Err Refusal.ForecastSum)
    (Ok (needs (regions_needed names es) (bytes_needed names es) (reads_needed c names es))))

-- what every promise of a forecast takes for c, no session being at hand there: the chunk of each session, whatever it is opened with (`chunk_is` of
-- proofs/Laws)
unfoldable pub forecast_chunk : ℕ
forecast_chunk = 4096

-- what the answer tells: an operation that accepts tells go, here with the three numbers
abbrev pub needs_told : Forecast → Told
needs_told f = told 0 (f.regions ∷ f.bytes ∷ f.reads ∷ [])

abbrev pub forecast_told : Result Forecast Refusal → Told
forecast_told = result_told needs_told
