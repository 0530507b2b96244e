-- An image range by what its slot holds: where it starts aside, the slot's presence and length decide the answer, and its bytes are just those that the read
-- covers, none where it is refused. By the slot and the range's test. Assumes nothing.
use mathlib.Core.Path.{◌≡◌, refl, sym, ap, ◌∙◌}
use mathlib.Core.Bool.{Bool, true, false}
use mathlib.Core.List.{List, []}
use mathlib.Core.Option.{Option, none, some}
use Prim.Native.Nat.{ℕ, ◌+◌}
use borrow.Author.Tests.{leb-true}
use lib.Dec.{leb}
use lib.ListN.{length, take, drop}
use Rattle.base.specs.Choice.{pick}
use Rattle.base.proofs.Lists.{part_of_part}
use Rattle.base.proofs.Ranges.{by_test}
use Rattle.bundle.specs.Bundle.{count_of, slot_of}
use Rattle.bundle.specs.Content.{content_at, content_of}
use Rattle.bundle.specs.declared.Slot.{Slot}
use Rattle.bundle.specs.declared.Slot.TheVariants.{At, Absent, Missing}
use Rattle.bundle.proofs.Laws.{length_there}
use Rattle.image.specs.Image.{slot_for, range_in, range_unjudged}
use Rattle.two_runs.specs.Alike.{shape_in, SameShape, covered_in}
use Rattle.std.specs.Prelude.{Result, Err, Ok}
use Rattle.refusal.specs.declared.Refusal.{Refusal}

-- where it starts aside
abbrev pub range_aside : Result (ℕ × ℕ) Refusal → Result (ℕ × ℕ) Refusal
range_aside (Ok (x, k)) = Ok (0, k)
range_aside (Err why) = Err why

-- its bytes
abbrev pub range_bytes : List ℕ → Result (ℕ × ℕ) Refusal → List ℕ
range_bytes set (Ok (x, k)) = take k (drop x set)
range_bytes set (Err why) = []

-- ---- what a read covers of an image: none where it is refused, and else the bytes that it asks for

-- where a test fails, none of what it stands before
none_of : (b : Bool) (s : List ℕ) → b ≡ false → pick b s [] ≡ []
none_of b s t = simp t

module _ (s : List ℕ) (offset len : ℕ) where
  covers_none : leb (offset + len) (length s) ≡ false → covered_in (some s) offset len ≡ []
  covers_none t = none_of (leb (offset + len) (length s)) _ t

  covers_within : leb (offset + len) (length s) ≡ true → covered_in (some s) offset len ≡ take len (drop offset s)
  covers_within t = simp t

-- ---- of one set

abbrev range_shaped : Option ℕ → ℕ → ℕ → Result (ℕ × ℕ) Refusal
range_shaped none offset len = Err Refusal.NoImage
range_shaped (some k) offset len = pick (leb (offset + len) k) (Ok (0, len)) (Err Refusal.ImageEnd)

module _ (set : List ℕ) (i offset len : ℕ) where
  range_shaped_lem : range_aside (range_in (slot_of set i) offset len) ≡ range_shaped (shape_in (content_of set i)) offset len
  range_shaped_lem = by (slot_of set i) refl
    where
      by : (x : Slot) → slot_of set i ≡ x → range_aside (range_in x offset len) ≡ range_shaped (shape_in (content_at set x)) offset len
      by (At start size) e = rw (length_there set i start size e) (by_test (leb (offset + len) size) (λ t. rw t refl) (λ t. rw t refl))
      by Absent e = refl
      by Missing e = refl

  pub range_covered : range_bytes set (range_in (slot_of set i) offset len) ≡ covered_in (content_of set i) offset len
  range_covered = by (slot_of set i) refl
    where
      by : (x : Slot) → slot_of set i ≡ x → range_bytes set (range_in x offset len) ≡ covered_in (content_at set x) offset len
      by (At start size) e =
          let s : List ℕ = take size (drop start set) in
          let m : length s ≡ size = length_there set i start size e in
          by_test (leb (offset + len) size)
          (λ t. rw t (sym (part_of_part offset len size start set (leb-true _ _ t)) ∙ sym (covers_within s offset len (rw m t))))
          (λ t. rw t (sym (covers_none s offset len (rw m t))))
      by Absent e = refl
      by Missing e = refl

-- ---- of two

module _ (a b : List ℕ) (same : SameShape a b) (id offset len : ℕ) where
  pub ranges_aside : range_aside (range_unjudged a id offset len) ≡ range_aside (range_unjudged b id offset len)
  ranges_aside =
      let e : shape_in (content_of a (slot_for (count_of a) id)) ≡ shape_in (content_of b (slot_for (count_of b) id)) =
      same.slots (slot_for (count_of a) id) ∙ ap (λ (n : ℕ). shape_in (content_of b (slot_for n id))) same.counts in
      range_shaped_lem a (slot_for (count_of a) id) offset len
      ∙ ap (λ (x : Option ℕ). range_shaped x offset len) e
      ∙ sym (range_shaped_lem b (slot_for (count_of b) id) offset len)
