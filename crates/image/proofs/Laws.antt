-- Laws of image ranges: an answer lies within the set, and its bytes are the image's from the offset on; what the check of the set adds.
use mathlib.Core.Path.{◌≡◌, refl, ap}
use mathlib.Core.Bool.{true}
use mathlib.Core.List.{List}
use Prim.Native.Nat.{ℕ, ◌+◌, ◌≤◌}
use native.Mathlib.Omega.{arith}
use borrow.Author.Tests.{leb-true}
use lib.Dec.{leb}
use lib.ListN.{length, take, drop}
use Rattle.base.proofs.Lists.{part_of_part}
use Rattle.base.proofs.Ranges.{by_then}
use Rattle.bundle.specs.Bundle.{well_formed, count_of, slot_of}
use Rattle.bundle.specs.Content.{bytes_in, content_at, content_of}
use Rattle.bundle.specs.declared.Slot.{Slot}
use Rattle.bundle.specs.declared.Slot.TheVariants.{At, Absent, Missing}
use Rattle.bundle.proofs.Laws.{slot_within}
use Rattle.image.specs.Image.{slot_for, range_in, range_unjudged, range_of}
use Rattle.std.specs.Prelude.{Err, Ok}
use Rattle.refusal.specs.declared.Refusal.{Refusal}

refused≢at : {n : Refusal} {x : ℕ × ℕ} → Err n ≡ Ok x → ⊥
refused≢at q = let z : ◌≡◌ {A = ℕ} 0 1 = cc in omega arith

-- what an answer within a present slot is
pub record Given (start size offset len s k : ℕ) : Type 0 where
  pub fits : offset + len ≤ size
  pub place : s ≡ start + offset
  pub count : k ≡ len

pub given_in : (start size offset len s k : ℕ) → range_in (At start size) offset len ≡ Ok (s, k) → Given start size offset len s k
given_in start size offset len s k h =
    let t = by_then (leb (offset + len) size) (Ok (start + offset, len)) (Err Refusal.ImageEnd) refused≢at h in
    let e : ◌≡◌ {A = ℕ × ℕ} (s, k) (start + offset, len) = cc in
    record { fits = leb-true _ _ t.0; place = ap (λ (r : ℕ × ℕ). r.0) e; count = ap (λ (r : ℕ × ℕ). r.1) e }

-- of a well-formed set the range is that of its bytes
pub range_formed : (set : List ℕ) (id offset len : ℕ) → well_formed true set ≡ true → range_of set id offset len ≡ range_unjudged set id offset len
unfolding range_of
range_formed set id offset len h = simp h

-- a set that is answered with a range is well-formed, and the range is that of its bytes
range_in_lem : (set : List ℕ) (id offset len s k : ℕ) → range_of set id offset len ≡ Ok (s, k) → range_unjudged set id offset len ≡ Ok (s, k)
unfolding range_of
range_in_lem set id offset len s k h = (by_then (well_formed true set) _ (Err Refusal.ImageSet) refused≢at h).1

within : (set : List ℕ) (i offset len s k : ℕ) (x : Slot) → slot_of set i ≡ x → range_in x offset len ≡ Ok (s, k) → (s + k ≤ length set) × (k ≡ len)
within set i offset len s k (At start size) e h =
    let g = given_in start size offset len s k h in
    (omega (arith, slot_within set i start size e), g.count)
within set i offset len s k Absent e h = absurd (refused≢at h)
within set i offset len s k Missing e h = absurd (refused≢at h)

-- an answer lies within the set, judged or not, and is as long as was asked
pub unjudged_within : (set : List ℕ) (id offset len s k : ℕ) → range_unjudged set id offset len ≡ Ok (s, k) → (s + k ≤ length set) × (k ≡ len)
unjudged_within set id offset len s k = within set (slot_for (count_of set) id) offset len s k (slot_of set (slot_for (count_of set) id)) refl

pub range_within : (set : List ℕ) (id offset len s k : ℕ) → range_of set id offset len ≡ Ok (s, k) → (s + k ≤ length set) × (k ≡ len)
range_within set id offset len s k h = unjudged_within set id offset len s k (range_in_lem set id offset len s k h)

bytes : (set : List ℕ) (offset len s k : ℕ) (x : Slot) → range_in x offset len ≡ Ok (s, k)
    → take k (drop s set) ≡ take len (drop offset (bytes_in (content_at set x)))
bytes set offset len s k (At start size) h =
    let g = given_in start size offset len s k h in
    rw (part_of_part offset len size start set g.fits, g.place, g.count) refl
bytes set offset len s k Absent h = absurd (refused≢at h)
bytes set offset len s k Missing h = absurd (refused≢at h)

-- an answer's bytes are those of the slot's image from the offset on
pub range_bytes_lem : (set : List ℕ) (id offset len s k : ℕ) → range_of set id offset len ≡ Ok (s, k)
    → take k (drop s set) ≡ take len (drop offset (bytes_in (content_of set (slot_for (count_of set) id))))
range_bytes_lem set id offset len s k h = bytes set offset len s k (slot_of set (slot_for (count_of set) id)) (range_in_lem set id offset len s k h)
