-- The sums of a table's entries, the selected ones searched for: what is passed over adds nothing, so the sums so far, with the entries from the next
-- selected one on, are the sums of them all. c is the chunk; the table t has f bytes a number. By induction on the entries left. Assumes nothing.
use Rattle.std.proofs.Common.{◌≡◌, ℕ, zero, suc, ◌+◌, ◌-◌, ◌≤◌, ◌<◌, true, false, List, length, drop, drop_of_length-le, refl, sym, ap, subst, ◌∙◌, add-one, arith, lt-ltb}
use native.Mathlib.Nat.{sub-zero}
use Rattle.std.specs.Prelude.{Result, Ok, Err}
use Rattle.base.proofs.Ranges.{by_test}
use Rattle.refusal.specs.declared.Refusal.{Refusal}
use Rattle.entry.specs.Entry.{entries_in, entry_in, entries_from, entries_of}
use Rattle.entry.specs.declared.RamdumpTable64.{RamdumpTable64}
use Rattle.entry.proofs.Laws.{there_below, entry_found, length_entries}
use Rattle.selection.specs.Selection.{selected, selected_at, next_of}
use Rattle.selection.proofs.Laws.{next_here, next_on, next_none, next_selected, next_from}
use Rattle.forecast_sums.specs.Forecast.{is_selected}
use Rattle.forecast_sums.specs.Sums.{more_of, add_all}
use Rattle.forecast_sums.specs.declared.Forecast.{Forecast}
use Rattle.forecast_sums.proofs.Laws.{stays, add_yes, add_no, sums_are}

module _ (c : ℕ) (names : List ℕ) (f : ℕ) (t : List ℕ) where
  none_more : (i : ℕ) (s : Result Forecast Refusal) → add_all c names s (entries_from f t 0 i) ≡ s
  unfolding add_all entries_from
  none_more i s = refl

  -- an entry that is there is selected or not, decoded or by its place
  selected_alike : (i : ℕ) → i < entries_in f (length t) → selected_at f names t i ≡ is_selected names (entry_in f t i)
  unfolding selected is_selected
  selected_alike i h = rw (there_below f t i, lt-ltb i (entries_in f (length t)) h) refl

  -- one more, that is selected
  one_taken : (k i : ℕ) (s : Forecast) → is_selected names (entry_in f t i) ≡ true
      → add_all c names (more_of c (Ok s) (entry_in f t i).len) (entries_from f t k (suc i)) ≡ add_all c names (Ok s) (entries_from f t (suc k) i)
  unfolding entries_from
  one_taken k i s h = sym (add_yes c names (entry_in f t i) (entries_from f t k (suc i)) (Ok s) h)

  one_passed : (k i : ℕ) (s : Forecast) → is_selected names (entry_in f t i) ≡ false
      → add_all c names (Ok s) (entries_from f t (suc k) i) ≡ add_all c names (Ok s) (entries_from f t k (suc i))
  unfolding entries_from
  one_passed k i s h = add_no c names (entry_in f t i) (entries_from f t k (suc i)) (Ok s) h

  -- up to the next selected one nothing is added: of k entries from i on
  passed : (k i : ℕ) (s : Forecast) → i + k ≤ entries_in f (length t)
      → add_all c names (Ok s) (entries_from f t k i)
      ≡ add_all c names (Ok s) (entries_from f t (i + k - next_of f names t k i) (next_of f names t k i))
  passed zero i s h =
      let e : i + 0 - i ≡ 0 = omega arith in
      rw (next_none f names t i, e) refl
  passed (suc k) i s h =
      let q : selected_at f names t i ≡ is_selected names (entry_in f t i) = selected_alike i (omega arith) in
      by_test (is_selected names (entry_in f t i))
      (λ j.
      let e : i + suc k - i ≡ suc k = omega arith in
      rw (next_here f names t k i (q ∙ j), e) refl)
      (λ j.
      let e : i + suc k ≡ suc i + k = omega arith in
      rw (next_on f names t k i (q ∙ j), e) (one_passed k i s j ∙ passed k (suc i) s (omega arith)))

  -- behind the last
  pub finished : (n i : ℕ) (s : Result Forecast Refusal) → n ≤ i → add_all c names s (entries_from f t (n - i) i) ≡ s
  finished n i s h =
      let e : n - i ≡ 0 = omega arith in
      rw e (none_more i s)

  -- where the search begins, and where it goes on: at n, or at a selected entry, and the sums with what is left are the same
  pub record Searched (n i : ℕ) (s whole : Result Forecast Refusal) : Type 0 where
    pub here : i < n → selected_at f names t i ≡ true
    pub same : add_all c names s (entries_from f t (n - i) i) ≡ whole

  -- a search from k on, to n
  sought : (n k i : ℕ) (s : Forecast) → n ≤ entries_in f (length t) → k ≤ n → i ≡ next_of f names t (n - k) k
      → Searched n i (Ok s) (add_all c names (Ok s) (entries_from f t (n - k) k))
  sought n k i s h b e =
      let j : ℕ = next_of f names t (n - k) k in
      let m : k + (n - k) ≡ n = omega arith in
      record {
        here = λ l. rw e (next_selected f names t (n - k) k (omega (arith, e, l)));
        same =
            subst (λ (x : ℕ). add_all c names (Ok s) (entries_from f t (n - x) x) ≡ add_all c names (Ok s) (entries_from f t (n - k) k)) (sym e)
            (sym (passed (n - k) k s (omega arith) ∙ ap (λ (x : ℕ). add_all c names (Ok s) (entries_from f t (x - j) j)) m));
      }

  pub begins : (n i : ℕ) (s : Forecast) (r : Result Forecast Refusal) → n ≡ entries_in f (length t) → i ≡ next_of f names t (n - 0) 0 → r ≡ Ok s
      → Searched n i (Ok s) (add_all c names r (entries_of f t))
  begins n i s r h e q =
      let m : add_all c names (Ok s) (entries_from f t (n - 0) 0) ≡ add_all c names r (entries_of f t) =
      rw q (ap (λ (x : ℕ). add_all c names (Ok s) (entries_from f t x 0)) (sub-zero n ∙ h)) in
      subst (λ (x : Result Forecast Refusal). Searched n i (Ok s) x) m (sought n 0 i s (omega arith) (omega arith) e)

  -- a selected entry is taken, and what is left behind it
  taken : (n i : ℕ) (s : Forecast) (whole : Result Forecast Refusal) → n ≤ entries_in f (length t) → i < n → Searched n i (Ok s) whole
      → add_all c names (more_of c (Ok s) (entry_in f t i).len) (entries_from f t (n - (i + 1)) (i + 1)) ≡ whole
  taken n i s whole h l g =
      let k : n - i ≡ suc (n - (i + 1)) = omega arith in
      let e : is_selected names (entry_in f t i) ≡ true = sym (selected_alike i (omega arith)) ∙ g.here l in
      rw (← g.same, k, add-one i) (one_taken (n - suc i) i s e)

  pub goes_on : (n i j : ℕ) (s z : Forecast) (whole : Result Forecast Refusal) → n ≤ entries_in f (length t) → i < n → Searched n i (Ok s) whole
      → more_of c (Ok s) (entry_in f t i).len ≡ Ok z → j ≡ next_of f names t (n - (i + 1)) (i + 1) → Searched n j (Ok z) whole
  goes_on n i j s z whole h l g e k =
      let w : add_all c names (Ok z) (entries_from f t (n - (i + 1)) (i + 1)) ≡ whole = rw (← e) (taken n i s whole h l g) in
      subst (λ (x : Result Forecast Refusal). Searched n j (Ok z) x) w (sought n (i + 1) j z h (omega arith) k)

  -- an entry that is refused refuses them all
  pub refused : (n i : ℕ) (s : Forecast) (whole : Result Forecast Refusal) (why : Refusal) → n ≤ entries_in f (length t) → i < n
      → Searched n i (Ok s) whole → more_of c (Ok s) (entry_in f t i).len ≡ Err why → whole ≡ Err why
  refused n i s whole why h l g e = sym (taken n i s whole h l g) ∙ rw e (stays c names (entries_from f t (n - (i + 1)) (i + 1)) why)

-- ---- a list, one entry after the other

-- behind the last entry none is left
pub none_left : (c : ℕ) (names : List ℕ) (es : List RamdumpTable64) (i : ℕ) (s : Result Forecast Refusal) → length es ≤ i
    → add_all c names s (drop i es) ≡ s
unfolding add_all
none_left c names es i s h = rw drop_of_length-le refl

-- behind the last entry of a list the sums are its forecast
pub ruleset of_a_list = (none_left, sums_are)

-- an entry of a table that is searched for is there, the search goes on, and behind the last one the sums are the table's forecast
pub ruleset of_a_table = (finished, entry_found, length_entries, next_from, sums_are)
