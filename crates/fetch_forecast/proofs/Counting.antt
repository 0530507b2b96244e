-- Counts of reports, and the forecast's sums by places in a table: the selected entries are those that the plain host chooses. By induction. Assumes nothing.
use mathlib.Core.Path.{◌≡◌, refl}
use mathlib.Core.List.{List, [], ◌∷◌, map}
use Prim.Native.Nat.{ℕ, zero, suc}
use native.Mathlib.Omega.{arith}
use lib.ListN.{length}
use Rattle.base.proofs.Ranges.{by_test}
use Rattle.entry.specs.Entry.{entry_in, entries_from}
use Rattle.selection.specs.Selection.{selected}
use Rattle.verdict.specs.Opening.{chunks_in, chunk_of}
use Rattle.verdict.specs.declared.Opening.{Opening}
use Rattle.forecast_sums.specs.Forecast.{is_selected, selected_of, summed}
use Rattle.fetch.specs.Plain.{byte, chosen}
use Rattle.fetch.specs.Claim.{region_bytes, region_reads}
use Rattle.fetch.specs.Meaning.{how_many}
use Rattle.fetch_forecast.specs.Claim.{is_byte}

-- ---- bytes, each reported alone

pub bytes_bytes : (l : List ℕ) → how_many is_byte (map byte l) ≡ length l
unfolding how_many
bytes_bytes [] = refl
bytes_bytes (b ∷ l) = rw (bytes_bytes l) (omega arith)

-- ---- the entries of a table, f bytes a number, from i on

module _ (f : ℕ) (names t : List ℕ) where
  -- the selected ones are those at the places chosen
  pub selected_chosen : (k i : ℕ) → selected_of names (entries_from f t k i) ≡ map (entry_in f t) (chosen f names t k i)
  unfolding selected_of is_selected entries_from chosen selected
  selected_chosen zero i = refl
  selected_chosen (suc k) i =
      by_test (is_selected names (entry_in f t i))
      (λ e. rw (e, selected_chosen k (suc i)) refl)
      (λ e. rw (e, selected_chosen k (suc i)) refl)

-- their bytes and their memory reads
pub summed_bytes : (f : ℕ) (t is : List ℕ) → summed (λ e. e.len) (map (entry_in f t) is) ≡ region_bytes f t is
unfolding summed region_bytes
summed_bytes f t [] = refl
summed_bytes f t (i ∷ is) = rw (summed_bytes f t is) refl

pub summed_reads : (f : ℕ) (u : Opening) (t is : List ℕ) → summed (λ e. chunks_in (chunk_of u) e.len) (map (entry_in f t) is) ≡ region_reads f u t is
unfolding summed region_reads
summed_reads f u t [] = refl
summed_reads f u t (i ∷ is) = rw (summed_reads f u t is) refl
