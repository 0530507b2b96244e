-- Laws of written bundles: one slot more; where a slot's bytes stand; and what is read of a bundle that was written: its numbers, that it is well-formed, and the
-- contents of its slots. Assumes nothing.
use mathlib.Core.Path.{◌≡◌, refl, sym, ap, ◌∙◌}
use mathlib.Core.Bool.{Bool, true, false}
use mathlib.Core.Logic.{⊎_elim}
use mathlib.Core.List.{List, [], ◌∷◌, ◌++◌, map, append_assoc, append-nil}
use mathlib.Core.Option.{none, some}
use Prim.Native.Nat.{ℕ, zero, suc, ◌+◌, ◌*◌, ◌^◌, ◌<◌, ◌≤◌}
use native.Mathlib.Nat.{add-zero, zero-add}
use native.Mathlib.Omega.{arith}
use borrow.Author.Tests.{le-leb, ne_eqb}
use lib.ListN.{length, get_or, take, drop, length-append, length-map, get_or-map, get_or-append, get_or-eq_default}
use lib.Seq.{take-append_seam, drop-append-add, drop_at, get_or-append-add, drop-drop}
use Rattle.base.proofs.Ranges.{below_or_not}
use Rattle.field.specs.Field.{le, words}
use Rattle.field.proofs.Laws.{length_fields, field_back, fields_append}
use Rattle.bundle.specs.Bundle.{count_of, data_size_of, slot_start_of, slot_length_of, data_from, absent, slot_good, well_formed, slot_of}
use Rattle.bundle.proofs.Laws.{is_formed, slot_absent, slot_present, content_past}
use Rattle.bundle.specs.declared.Slot.TheVariants as S
use Rattle.bundle.specs.Content.{Content, is_present, bytes_in, size_in, content_at, content_of}
use Rattle.writer.specs.Writer.{data_of, start_for, starts_from, bundle_bytes, most_data}

-- ---- equal slots each have their bytes: two of "A"

pub each_its_own : data_of (some (0x41 ∷ []) ∷ some (0x41 ∷ []) ∷ []) ≡ 0x41 ∷ 0x41 ∷ []
unfolding data_of
each_its_own = refl

-- ---- one slot more

pub data_more : (xs : List Content) (x : Content) → data_of (xs ++ x ∷ []) ≡ data_of xs ++ bytes_in x
unfolding data_of
data_more [] x = append-nil (bytes_in x)
data_more (y ∷ xs) x = ap (λ (s : List ℕ). bytes_in y ++ s) (data_more xs x) ∙ sym (append_assoc (bytes_in y) (data_of xs) (bytes_in x))

pub starts_more : (before : ℕ) (xs : List Content) (x : Content)
    → starts_from before (xs ++ x ∷ []) ≡ starts_from before xs ++ start_for (before + length (data_of xs)) x ∷ []
unfolding data_of starts_from
starts_more before [] x = rw add-zero refl
starts_more before (y ∷ xs) x =
    let e : before + size_in y + length (data_of xs) ≡ before + length (bytes_in y ++ data_of xs) = rw length-append (omega arith) in
    ap
    (λ (s : List ℕ). start_for before y ∷ s)
    (starts_more (before + size_in y) xs x ∙ ap (λ (k : ℕ). starts_from (before + size_in y) xs ++ start_for k x ∷ []) e)

-- ---- slot by slot

pub length_starts : (before : ℕ) (xs : List Content) → length (starts_from before xs) ≡ length xs
unfolding starts_from
length_starts before [] = refl
length_starts before (x ∷ xs) = ap suc (length_starts (before + size_in x) xs)

-- where a slot starts
starts_at : (before : ℕ) (xs : List Content) (i : ℕ) → i < length xs
    → get_or (starts_from before xs) i 0 ≡ start_for (before + length (data_of (take i xs))) (get_or xs i none)
unfolding data_of starts_from
starts_at before [] i h = absurd (omega arith)
starts_at before (x ∷ xs) zero h = rw add-zero refl
starts_at before (x ∷ xs) (suc i) h =
    let e : before + size_in x + length (data_of (take i xs)) ≡ before + length (bytes_in x ++ data_of (take i xs)) = rw length-append (omega arith) in
    starts_at (before + size_in x) xs i (omega arith) ∙ ap (λ (k : ℕ). start_for k (get_or xs i none)) e

-- its bytes stand there in the data
data_at : (xs : List Content) (i : ℕ) → i < length xs
    → take (size_in (get_or xs i none)) (drop (length (data_of (take i xs))) (data_of xs)) ≡ bytes_in (get_or xs i none)
unfolding data_of
data_at [] i h = absurd (omega arith)
data_at (x ∷ xs) zero h = take-append_seam (bytes_in x) (data_of xs)
data_at (x ∷ xs) (suc i) h =
    rw
    (length-append (bytes_in x) (data_of (take i xs)), drop-append-add (bytes_in x) (data_of xs) (length (data_of (take i xs))))
    (data_at xs i (omega arith))

pub data_within : (xs : List Content) (i : ℕ) → i < length xs → length (data_of (take i xs)) + size_in (get_or xs i none) ≤ length (data_of xs)
unfolding data_of
data_within [] i h = absurd (omega arith)
data_within (x ∷ xs) zero h = rw length-append (omega arith)
data_within (x ∷ xs) (suc i) h = rw (length-append, length-append) (omega (arith, data_within xs i (omega arith)))

sizes_at : (xs : List Content) (i : ℕ) → get_or (map size_in xs) i 0 ≡ size_in (get_or xs i none)
sizes_at xs i = get_or-map size_in xs i none

-- ---- the numbers of a bundle

abbrev numbers : List Content → List ℕ
numbers xs = length xs ∷ length (data_of xs) ∷ (starts_from 0 xs ++ map size_in xs)

-- a bundle is a row of words and the data
rows : (xs : List Content) → bundle_bytes xs ≡ words (numbers xs) ++ data_of xs
unfolding bundle_bytes
rows xs =
    ap
    (λ (s : List ℕ). s ++ data_of xs)
    (append_assoc (words (length xs ∷ length (data_of xs) ∷ [])) (words (starts_from 0 xs)) (words (map size_in xs))
    ∙ ap (λ (s : List ℕ). words (length xs ∷ length (data_of xs) ∷ []) ++ s) (sym (fields_append 4 (starts_from 0 xs) (map size_in xs)))
    ∙ sym (fields_append 4 (length xs ∷ length (data_of xs) ∷ []) (starts_from 0 xs ++ map size_in xs)))

length_numbers : (xs : List Content) → length (numbers xs) ≡ 2 + 2 * length xs
length_numbers xs = simp (length-append, length_starts, length-map) (omega arith)

length_words : (xs : List Content) → length (words (numbers xs)) ≡ 8 + 8 * length xs
length_words xs = length_fields 4 (numbers xs) ∙ rw length_numbers (omega arith)

-- slot count, data size, starts and lengths are 8 bytes and 8 for each slot, then comes the data
pub length_bundle : (xs : List Content) → length (bundle_bytes xs) ≡ 8 + 8 * length xs + length (data_of xs)
length_bundle xs = rw (rows xs, length-append) (omega (arith, length_words xs))

-- of few slots and little data each number is read back
module _ (xs : List Content) (few : length xs ≤ 64) (little : length (data_of xs) ≤ most_data) where
  -- a start is the absent mark or lies within the data
  start_below : (before : ℕ) (x : Content) → before ≤ most_data → start_for before x < 256 ^ 4
  start_below before none h = omega arith
  start_below before (some s) h = omega arith

  number_at : (i v : ℕ) → i < 2 + 2 * length xs → get_or (numbers xs) i 0 ≡ v → v < 256 ^ 4 → le 4 (drop (4 * i) (bundle_bytes xs)) ≡ v
  number_at i v h e l =
      rw
      (rows xs, ← e)
      (field_back 4 i (numbers xs) (data_of xs) (omega (arith, length_numbers xs)) (rw e l))

  pub count_back : count_of (bundle_bytes xs) ≡ length xs
  count_back = number_at 0 (length xs) (omega arith) refl (omega arith)

  pub data_size_back : data_size_of (bundle_bytes xs) ≡ length (data_of xs)
  data_size_back = number_at 1 (length (data_of xs)) (omega arith) refl (omega arith)

  module _ (i : ℕ) (h : i < length xs) where
    pub start_back : slot_start_of (bundle_bytes xs) i ≡ start_for (length (data_of (take i xs))) (get_or xs i none)
    start_back =
        let e : get_or (numbers xs) (suc (suc i)) 0 ≡ start_for (length (data_of (take i xs))) (get_or xs i none) =
        get_or-append (starts_from 0 xs) (map size_in xs) 0 i (rw length_starts h) ∙ starts_at 0 xs i h ∙ rw zero-add refl in
        let f : 8 + 4 * i ≡ 4 * suc (suc i) = omega arith in
        let l = start_below (length (data_of (take i xs))) (get_or xs i none) (omega (arith, data_within xs i h)) in
        rw f (number_at (suc (suc i)) (start_for (length (data_of (take i xs))) (get_or xs i none)) (omega arith) e l)

    pub length_back : slot_length_of (bundle_bytes xs) i ≡ size_in (get_or xs i none)
    length_back =
        let q : get_or (starts_from 0 xs ++ map size_in xs) (length xs + i) 0 ≡ size_in (get_or xs i none) =
        ap (λ (k : ℕ). get_or (starts_from 0 xs ++ map size_in xs) (k + i) 0) (sym (length_starts 0 xs))
        ∙ get_or-append-add (starts_from 0 xs) (map size_in xs) i 0
        ∙ sizes_at xs i in
        let f : 8 + 4 * length xs + 4 * i ≡ 4 * suc (suc (length xs + i)) = omega arith in
        rw (count_back, f) (number_at (suc (suc (length xs + i))) (size_in (get_or xs i none)) (omega arith) q (omega (arith, data_within xs i h)))

    -- a slot that is present starts where the bytes before it end, an empty one too
    pub start_there : (s : List ℕ) → get_or xs i none ≡ some s → slot_start_of (bundle_bytes xs) i ≡ length (data_of (take i xs))
    start_there s e = start_back ∙ ap (start_for (length (data_of (take i xs)))) e

    -- the absent slots, and they alone, have the mark
    marked : get_or xs i none ≡ none → absent (bundle_bytes xs) i ≡ true
    marked e = rw (start_back, length_back, e) refl

    unmarked : (s : List ℕ) → get_or xs i none ≡ some s → absent (bundle_bytes xs) i ≡ false
    unmarked s e =
        let n : length (data_of (take i xs)) ≡ 0xFFFFFFFF → ⊥ = λ q. omega (arith, data_within xs i h) in
        rw (start_there s e, ne_eqb (length (data_of (take i xs))) 0xFFFFFFFF n) refl

    good : (gaps : Bool) (x : Content) → get_or xs i none ≡ x → (is_present x ≡ false → gaps ≡ true) → slot_good gaps (bundle_bytes xs) i ≡ true
    good gaps none e g = rw (marked e) (g refl)
    good gaps (some s) e g =
        let l : slot_start_of (bundle_bytes xs) i + slot_length_of (bundle_bytes xs) i ≤ data_size_of (bundle_bytes xs) =
        omega (arith, start_there s e, length_back, data_size_back, data_within xs i h) in
        rw (unmarked s e) (le-leb _ _ l)

  -- a bundle is well-formed; without gaps allowed, where no slot is absent
  pub formed_back : (gaps : Bool) → ((i : ℕ) → i < length xs → is_present (get_or xs i none) ≡ false → gaps ≡ true) → well_formed gaps (bundle_bytes xs) ≡ true
  formed_back gaps g =
      is_formed
      gaps
      (bundle_bytes xs)
      (record {
        header = omega (arith, length_bundle xs);
        few = omega (arith, count_back);
        exact = omega (arith, length_bundle xs, count_back, data_size_back);
        each = λ i l. let h : i < length xs = omega (arith, count_back) in good i h gaps (get_or xs i none) refl (g i h);
      })

  -- an image set that was written is one
  pub set_back : well_formed true (bundle_bytes xs) ≡ true
  set_back = formed_back true (λ i h e. refl)

  data_back : drop (data_from (bundle_bytes xs)) (bundle_bytes xs) ≡ data_of xs
  data_back = rw (count_back, rows xs) (drop_at (words (numbers xs)) (data_of xs) (8 + 8 * length xs) (length_words xs))

  within_back : (i : ℕ) → i < length xs → (x : Content) → get_or xs i none ≡ x → content_of (bundle_bytes xs) i ≡ x
  within_back i h none e = ap (content_at (bundle_bytes xs)) (slot_absent true (bundle_bytes xs) i set_back (omega (arith, count_back)) (marked i h e))
  within_back i h (some s) e =
      let p : slot_of (bundle_bytes xs) i ≡ S.At (data_from (bundle_bytes xs) + slot_start_of (bundle_bytes xs) i) (slot_length_of (bundle_bytes xs) i) =
      slot_present true (bundle_bytes xs) i set_back (omega (arith, count_back)) (unmarked i h s e) in
      let q : take (slot_length_of (bundle_bytes xs) i) (drop (data_from (bundle_bytes xs) + slot_start_of (bundle_bytes xs) i) (bundle_bytes xs)) ≡ s =
      ap (take (slot_length_of (bundle_bytes xs) i)) (sym (drop-drop (slot_start_of (bundle_bytes xs) i) (data_from (bundle_bytes xs)) (bundle_bytes xs)))
      ∙ rw (data_back, length_back i h, start_there i h s e) (data_at xs i h)
      ∙ ap bytes_in e in
      ap (content_at (bundle_bytes xs)) p ∙ ap some q

  -- its slots have the contents that it was written from, and it has no other
  pub content_back : (i : ℕ) → content_of (bundle_bytes xs) i ≡ get_or xs i none
  content_back i =
      ⊎_elim
      (λ (h : i < length xs). within_back i h (get_or xs i none) refl)
      (λ (h : length xs ≤ i).
      content_past (bundle_bytes xs) i (omega (arith, count_back)) ∙ sym (get_or-eq_default xs none h))
      (below_or_not i (length xs))
