-- Laws of the tidy form: one slot more of a set's, what is stored where, the outcomes. Assumes nothing.
use mathlib.Core.Path.{◌≡◌, refl, sym, ap, ◌∙◌}
use mathlib.Core.Bool.{true, false}
use mathlib.Core.Logic.{⊎_elim}
use mathlib.Core.List.{List, [], ◌∷◌, ◌++◌, map, map-append, append-nil}
use mathlib.Core.Option.{none}
use Prim.Native.Nat.{ℕ, zero, suc, ◌+◌, ◌-◌, ◌*◌, ◌<◌, ◌≤◌}
use native.Mathlib.Nat.{zero-add, add-zero}
use native.Mathlib.Omega.{arith}
use borrow.Author.Tests.{ltb-false, lt-ltb, le-ltb}
use lib.Dec.{ltb}
use lib.ListN.{length, get_or, drop, length-append, length-map, get_or-append}
use lib.Seq.{sets, get_or_at}
use Rattle.base.proofs.Lists.{sets_append, sets_behind}
use Rattle.base.proofs.Ranges.{below_or_not, by_then, by_else}
use Rattle.field.specs.Field.{le_bytes, fields, words}
use Rattle.field.proofs.Laws.{length_fields, fields_stored}
use Rattle.bundle.specs.Bundle.{count_of, well_formed}
use Rattle.bundle.proofs.Laws.{formed}
use Rattle.bundle.specs.Content.{Content, bytes_in, size_in, content_of}
use Rattle.writer.specs.Writer.{data_of, start_for, starts_from, bundle_bytes, most_data}
use Rattle.writer.proofs.Laws.{data_more, starts_more, length_starts, length_bundle}
use Rattle.tidied.specs.Tidy.{first_contents, contents_of, tidy_bytes, tidy_data, tidy_len_of, tidy_of, tidy_outcome}
use Rattle.std.specs.Prelude.{Ok, Err}
use Rattle.refusal.specs.declared.Refusal.{Refusal}

-- the answers differ
pub refused≢made : {why : Refusal} {k : ℕ} → Err why ≡ Ok k → ⊥
refused≢made q = let z : ◌≡◌ {A = ℕ} 0 1 = cc in omega arith

-- ---- the first slots of a set

module _ (set : List ℕ) where
  pub first_none : first_contents set 0 ≡ []
  unfolding first_contents
  first_none = refl

  pub first_more : (k : ℕ) → first_contents set (suc k) ≡ first_contents set k ++ content_of set k ∷ []
  unfolding first_contents
  first_more k = refl

  pub length_first : (k : ℕ) → length (first_contents set k) ≡ k
  unfolding first_contents
  length_first zero = refl
  length_first (suc k) = simp (length-append, length_first k) (omega arith)

  -- slot i of them
  pub first_at : (k i : ℕ) → i < k → get_or (first_contents set k) i none ≡ content_of set i
  unfolding first_contents
  first_at zero i h = absurd (omega arith)
  first_at (suc k) i h =
      ⊎_elim
      (λ (l : i < k). get_or-append (first_contents set k) (content_of set k ∷ []) none i (rw length_first l) ∙ first_at k i l)
      (λ (l : k ≤ i).
      let e : k ≡ i = omega arith in
      get_or_at (first_contents set k) (content_of set k) [] none i (length_first k ∙ e) ∙ ap (content_of set) e)
      (below_or_not i k)

  -- ---- data bytes

  pub data_suc : (k : ℕ) → data_of (first_contents set (suc k)) ≡ data_of (first_contents set k) ++ bytes_in (content_of set k)
  data_suc k = ap data_of (first_more k) ∙ data_more (first_contents set k) (content_of set k)

  pub data_none : length (data_of (first_contents set 0)) ≡ 0
  unfolding data_of
  data_none = rw first_none refl

  pub data_grows : (k : ℕ) → length (data_of (first_contents set (suc k))) ≡ length (data_of (first_contents set k)) + size_in (content_of set k)
  data_grows k = ap length (data_suc k) ∙ length-append (data_of (first_contents set k)) (bytes_in (content_of set k))

  -- of fewer slots no more
  pub data_least : (j k : ℕ) → length (data_of (first_contents set j)) ≤ length (data_of (first_contents set (j + k)))
  data_least j zero = rw add-zero (omega arith)
  data_least j (suc k) =
      let e : j + suc k ≡ suc (j + k) = omega arith in
      rw e (omega (arith, data_least j k, data_grows (j + k)))

  -- up to slot i no more than up to the last
  pub data_up_to : (i k : ℕ) → i < k → length (data_of (first_contents set i)) + size_in (content_of set i) ≤ length (data_of (first_contents set k))
  data_up_to i k h =
      let j : ℕ = k - suc i in
      let e : suc i + j ≡ k = omega arith in
      let l : length (data_of (first_contents set (suc i))) ≤ length (data_of (first_contents set k)) =
      rw e at (data_least (suc i) j) in
      omega (arith, l, data_grows i)

  -- ---- what is stored where, one slot more

  pub starts_stored : (d : List ℕ) (k : ℕ)
      → sets d 8 (words (starts_from 0 (first_contents set (suc k))))
      ≡ sets
      (sets d 8 (words (starts_from 0 (first_contents set k))))
      (8 + 4 * k)
      (le_bytes 4 (start_for (length (data_of (first_contents set k))) (content_of set k)))
  starts_stored d k =
      let xs : List Content = first_contents set k in
      ap (λ (ys : List Content). sets d 8 (words (starts_from 0 ys))) (first_more k)
      ∙ ap (λ (vs : List ℕ). sets d 8 (words vs)) (starts_more 0 xs (content_of set k) ∙ rw zero-add refl)
      ∙ fields_stored 4 k (starts_from 0 xs) (start_for (length (data_of xs)) (content_of set k)) d 8 (length_starts 0 xs ∙ length_first k)

  pub lengths_stored : (d : List ℕ) (at k : ℕ)
      → sets d at (words (map size_in (first_contents set (suc k))))
      ≡ sets (sets d at (words (map size_in (first_contents set k)))) (at + 4 * k) (le_bytes 4 (size_in (content_of set k)))
  lengths_stored d at k =
      let xs : List Content = first_contents set k in
      ap (λ (ys : List Content). sets d at (words (map size_in ys))) (first_more k)
      ∙ ap (λ (vs : List ℕ). sets d at (words vs)) (map-append size_in xs (content_of set k ∷ []))
      ∙ fields_stored 4 k (map size_in xs) (size_in (content_of set k)) d at (length-map xs size_in ∙ length_first k)

  pub data_stored : (d : List ℕ) (at k : ℕ)
      → sets d at (data_of (first_contents set (suc k)))
      ≡ sets (sets d at (data_of (first_contents set k))) (at + length (data_of (first_contents set k))) (bytes_in (content_of set k))
  data_stored d at k = ap (sets d at) (data_suc k) ∙ sets_append (data_of (first_contents set k)) (bytes_in (content_of set k)) d at

  -- a form is stored piece by piece
  pub form_stored : (d : List ℕ) (n : ℕ)
      → sets
      (sets
      (sets
      (sets (sets d 0 (le_bytes 4 n)) 4 (le_bytes 4 (length (data_of (first_contents set n)))))
      8
      (words (starts_from 0 (first_contents set n))))
      (8 + 4 * n)
      (words (map size_in (first_contents set n))))
      (8 + 8 * n)
      (data_of (first_contents set n))
      ≡ sets d 0 (bundle_bytes (first_contents set n))
  unfolding bundle_bytes fields
  form_stored d n =
      let xs : List Content = first_contents set n in
      let h : List ℕ = words (n ∷ length (data_of xs) ∷ []) in
      let s : List ℕ = words (starts_from 0 xs) in
      let l : List ℕ = words (map size_in xs) in
      let ns : length s ≡ 4 * n = length_fields 4 (starts_from 0 xs) ∙ ap (λ (m : ℕ). 4 * m) (length_starts 0 xs ∙ length_first n) in
      let nl : length l ≡ 4 * n = length_fields 4 (map size_in xs) ∙ ap (λ (m : ℕ). 4 * m) (length-map xs size_in ∙ length_first n) in
      let nh : length h ≡ 8 = length_fields 4 (n ∷ length (data_of xs) ∷ []) in
      let p : length (h ++ s) ≡ 8 + 4 * n = rw length-append (omega arith) in
      let q : length (h ++ s ++ l) ≡ 8 + 8 * n = rw length-append (omega arith) in
      let e : sets d 0 h ≡ sets (sets d 0 (le_bytes 4 n)) 4 (le_bytes 4 (length (data_of xs))) =
      fields_stored 4 1 (n ∷ []) (length (data_of xs)) d 0 refl
      ∙ ap (λ (b : List ℕ). sets (sets d 0 b) 4 (le_bytes 4 (length (data_of xs)))) (append-nil (le_bytes 4 n)) in
      rw
      (length_first n)
      (sym
      (sets_behind (h ++ s ++ l) (data_of xs) d 0 (8 + 8 * n) (rw zero-add q)
      ∙ ap
      (λ (b : List ℕ). sets b (8 + 8 * n) (data_of xs))
      (sets_behind (h ++ s) l d 0 (8 + 4 * n) (rw zero-add p)
      ∙ ap (λ (b : List ℕ). sets b (8 + 4 * n) l) (sets_behind h s d 0 8 (rw zero-add nh) ∙ ap (λ (b : List ℕ). sets b 8 s) e))))

  -- ---- the tidy form

  pub length_tidy : length (tidy_bytes set) ≡ 8 + 8 * count_of set + tidy_data set
  length_tidy = length_bundle (contents_of set) ∙ ap (λ (k : ℕ). 8 + 8 * k + tidy_data set) (length_first (count_of set))

  -- of at most 64 slots
  pub few_slots : well_formed true set ≡ true → count_of set ≤ 64
  few_slots h = (formed true set h).few

  -- ---- outcomes

  pub len_malformed : well_formed true set ≡ false → tidy_len_of set ≡ Err Refusal.TidySet
  unfolding tidy_len_of
  len_malformed h = simp h

  pub len_made : well_formed true set ≡ true → tidy_data set ≤ most_data → tidy_len_of set ≡ Ok (length (tidy_bytes set))
  unfolding tidy_len_of
  len_made h l = simp (h, le-ltb most_data (tidy_data set) l)

  -- a length that is told is that of a well-formed set whose data is not too much
  pub made_of : (len : ℕ) → tidy_len_of set ≡ Ok len → (well_formed true set ≡ true) × (tidy_data set ≤ most_data) × (length (tidy_bytes set) ≡ len)
  unfolding tidy_len_of
  made_of len e =
      let t = by_then (well_formed true set) _ (Err Refusal.TidySet) refused≢made e in
      let u = by_else (ltb most_data (tidy_data set)) (Err Refusal.TidyRoom) _ refused≢made t.1 in
      (t.0, ltb-false _ _ u.0, (let q : length (tidy_bytes set) ≡ len = cc in q))

  -- so its parts are known
  pub tidy_room : (len : ℕ) → tidy_len_of set ≡ Ok len
      → (len ≡ 8 + 8 * count_of set + tidy_data set) × (len ≡ length (tidy_bytes set)) × (tidy_data set ≤ most_data) × (count_of set ≤ 64)
  tidy_room len e =
      let m = made_of len e in
      (omega (arith, m.2, length_tidy), sym m.2, m.1, few_slots m.0)

  module _ (to : List ℕ) where
    pub tidy_refused : (why : Refusal) → tidy_len_of set ≡ Err why → tidy_of set to ≡ tidy_outcome (Err why) to
    unfolding tidy_of
    tidy_refused why e = simp e

    pub tidy_short : (len : ℕ) → tidy_len_of set ≡ Ok len → length to < len → tidy_of set to ≡ tidy_outcome (Err Refusal.TidyRoom) to
    unfolding tidy_of
    tidy_short len e h = simp (e, lt-ltb (length to) len h)

    pub tidy_fits : (len : ℕ) → tidy_len_of set ≡ Ok len → len ≤ length to → tidy_of set to ≡ tidy_outcome (Ok len) (tidy_bytes set ++ drop len to)
    unfolding tidy_of
    tidy_fits len e h = simp (e, le-ltb (length to) len h)
