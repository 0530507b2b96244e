-- Laws of the forecast: which chunk it counts with, what an answer that is no refusal tells, and that the sums of the functions come to the definition's.
-- Assumes nothing.
use Rattle.std.proofs.Common.{◌≡◌, ℕ, suc, ◌+◌, ◌-◌, ◌%◌, ◌^◌, ◌<◌, ◌≤◌, true, false, not, ◌||◌, List, [], ◌∷◌, length, sym, ap, refl, ◌∙◌, add-zero, add_assoc, mod-eq_of_lt, zero-add, arith, ltb-true, lt-ltb}
use Rattle.base.specs.Choice.{pick}
use Rattle.base.proofs.Ranges.{by_test, by_else}
use Rattle.bundle.specs.Bundle.{well_formed}
use Rattle.entry.specs.declared.RamdumpTable64.{RamdumpTable64}
use Rattle.verdict.specs.Opening.{chunks_in, chunk_of}
use Rattle.verdict.specs.declared.Opening.{Opening}
use Rattle.forecast_sums.specs.Forecast.{is_selected, selected_of, summed, regions_needed, bytes_needed, reads_needed, passes, needs, forecast_of, forecast_chunk}
use Rattle.forecast_sums.specs.Sums.{start_of, more_of, add_all}
use Rattle.forecast_sums.specs.declared.Forecast.{Forecast}
use Rattle.std.specs.Prelude.{Result, Ok, Err}
use Rattle.refusal.specs.declared.Refusal.{Refusal}

-- ---- the chunk

-- the promises count with the chunk of every session
pub chunk_is : (u : Opening) → forecast_chunk ≡ chunk_of u
unfolding forecast_chunk chunk_of
chunk_is u = refl

-- ---- 27, or the numbers

abbrev judged : ℕ → ℕ → ℕ → Result Forecast Refusal
judged n b r = pick (passes b || passes r) (Err Refusal.ForecastSum) (Ok (needs n b r))

-- a number that is not less passes too
passes_more : (a b : ℕ) → passes a ≡ true → a ≤ b → passes b ≡ true
passes_more a b e h = lt-ltb (2 ^ 64 - 1) b (omega (arith, ltb-true (2 ^ 64 - 1) a e))

judged_bytes : (n b r : ℕ) → passes b ≡ true → judged n b r ≡ Err Refusal.ForecastSum
judged_bytes n b r e = rw e refl

judged_reads : (n b r : ℕ) → passes r ≡ true → judged n b r ≡ Err Refusal.ForecastSum
judged_reads n b r e = by_test (passes b) (λ h. rw h refl) (λ h. rw (h, e) refl)

-- ---- an answer that is no refusal

needs_refused : (why : Refusal) (n b r : ℕ) → Err why ≡ Ok (needs n b r) → ⊥
needs_refused why n b r e = let z : ◌≡◌ {A = ℕ} 0 1 = cc in omega arith

pub needs_are : (c : ℕ) (es : List RamdumpTable64) (names : List ℕ) (n b r : ℕ) → forecast_of c es names ≡ Ok (needs n b r)
    → (n ≡ regions_needed names es) × (b ≡ bytes_needed names es) × (r ≡ reads_needed c names es)
unfolding forecast_of
needs_are c es names n b r e =
    let x = by_else (not (well_formed false names)) _ _ (needs_refused _ n b r) e in
    let y = by_else (passes (bytes_needed names es) || passes (reads_needed c names es)) _ _ (needs_refused _ n b r) x.1 in
    let z : needs n b r ≡ needs (regions_needed names es) (bytes_needed names es) (reads_needed c names es) = cc in
    (ap (λ (f : Forecast). f.regions) z, ap (λ (f : Forecast). f.bytes) z, ap (λ (f : Forecast). f.reads) z)

-- ---- the sums

module _ (c : ℕ) (names : List ℕ) where
  abbrev reads : List RamdumpTable64 → ℕ
  reads es = summed (λ e. chunks_in c e.len) (selected_of names es)

  -- what is refused stays so
  pub stays : (es : List RamdumpTable64) (why : Refusal) → add_all c names (Err why) es ≡ Err why
  unfolding add_all
  stays [] why = refl
  stays (e ∷ es) why = by_test (is_selected names e) (λ i. rw i (stays es why)) (λ i. rw i (stays es why))

  -- what the entries es behind sums come to
  abbrev Total : List RamdumpTable64 → ℕ → ℕ → ℕ → Type 0
  Total es n b r = add_all c names (Ok (needs n b r)) es ≡ judged (n + regions_needed names es) (b + bytes_needed names es) (r + reads es)

  -- behind one region more, of l bytes and k memory reads
  one_more : (es : List RamdumpTable64) (n b r l k : ℕ) → n + 1 < 2 ^ 64
      → (passes (b + l) ≡ false → passes (r + k) ≡ false → Total es (n + 1) (b + l) (r + k))
      → add_all c names
      (pick (passes (b + l)) (Err Refusal.ForecastSum)
      (pick (passes (r + k)) (Err Refusal.ForecastSum) (Ok (needs ((n + 1) % 2 ^ 64) (b + l) (r + k)))))
      es
      ≡ judged (n + suc (regions_needed names es)) (b + (l + bytes_needed names es)) (r + (k + reads es))
  one_more es n b r l k h f =
      let x : ℕ = n + suc (regions_needed names es) in
      let y : ℕ = b + (l + bytes_needed names es) in
      let z : ℕ = r + (k + reads es) in
      by_test (passes (b + l)) (λ i. rw i (stays es Refusal.ForecastSum) ∙ sym (judged_bytes x y z (passes_more (b + l) y i (omega arith))))
      (λ i.
      by_test (passes (r + k)) (λ j. rw (i, j) (stays es Refusal.ForecastSum) ∙ sym (judged_reads x y z (passes_more (r + k) z j (omega arith))))
      (λ j.
      let m : (n + 1) % 2 ^ 64 ≡ n + 1 = mod-eq_of_lt h in
      let g : n + suc (regions_needed names es) ≡ n + 1 + regions_needed names es = omega arith in
      rw (i, j, m, g, ← add_assoc b, ← add_assoc r) (f i j)))

  -- one entry of a list, selected or not
  module _ (e : RamdumpTable64) (es : List RamdumpTable64) where
    selected_yes : is_selected names e ≡ true → selected_of names (e ∷ es) ≡ e ∷ selected_of names es
    unfolding selected_of
    selected_yes i = rw i refl

    selected_no : is_selected names e ≡ false → selected_of names (e ∷ es) ≡ selected_of names es
    unfolding selected_of
    selected_no i = rw i refl

    pub add_yes : (s : Result Forecast Refusal) → is_selected names e ≡ true → add_all c names s (e ∷ es) ≡ add_all c names (more_of c s e.len) es
    unfolding add_all
    add_yes s i = rw i refl

    pub add_no : (s : Result Forecast Refusal) → is_selected names e ≡ false → add_all c names s (e ∷ es) ≡ add_all c names s es
    unfolding add_all
    add_no s i = rw i refl

  add_none : (s : Result Forecast Refusal) → add_all c names s [] ≡ s
  unfolding add_all
  add_none s = refl

  selected_none : selected_of names [] ≡ []
  unfolding selected_of
  selected_none = refl

  total : (es : List RamdumpTable64) (n b r : ℕ) → n + length es < 2 ^ 64 → passes b ≡ false → passes r ≡ false → Total es n b r
  unfolding summed
  total [] n b r h x y = rw (add_none (Ok (needs n b r)), selected_none, add-zero n, add-zero b, add-zero r, x, y) refl
  total (e ∷ es) n b r h x y =
      by_test (is_selected names e)
      (λ i.
      rw (add_yes e es (Ok (needs n b r)) i, selected_yes e es i)
      (one_more es n b r e.len (chunks_in c e.len) (omega arith) (λ j l. total es (n + 1) (b + e.len) (r + chunks_in c e.len) (omega arith) j l)))
      (λ i. rw (add_no e es (Ok (needs n b r)) i, selected_no e es i) (total es n b r (omega arith) x y))

  -- the sums of a list that is lent come to its forecast
  pub sums_are : (es : List RamdumpTable64) → length es < 2 ^ 64 → add_all c names (start_of names) es ≡ forecast_of c es names
  unfolding forecast_of
  sums_are es h =
      by_test (well_formed false names)
      (λ e. rw e (total es 0 0 1 (omega arith) refl refl ∙ rw (zero-add (regions_needed names es), zero-add (bytes_needed names es)) refl))
      (λ e. rw (e, stays es Refusal.ForecastNames) refl)
