-- Image ranges. Document 01, "Images": an image ID and a slot number are different quantities; with n = 1 every ID means slot 0, otherwise
-- slot = ID. The answer is the set's bytes offset..offset+length of that slot. The sum never wraps; length 0 at the image's end is accepted.
-- Refusals, "Image range": 1; 12 no such or absent slot; 13 sum above the image's length.
use Rattle.std.specs.Prelude.{ℕ, ◌+◌, true, List, leb, eqb, Result, Err, Ok}
use Rattle.base.specs.Choice.{pick}
use Rattle.base.specs.Told.{Told, told_image}
use Rattle.refusal.specs.Refusal.{result_told}
use Rattle.bundle.specs.Bundle.{well_formed, count_of, slot_of}
use Rattle.bundle.specs.declared.Slot.{Slot}
use Rattle.bundle.specs.declared.Slot.TheVariants.{At, Absent, Missing}
use Rattle.refusal.specs.declared.Refusal.{Refusal}

-- the one-image rule: the slot that an image ID means among n slots
abbrev pub slot_for : ℕ → ℕ → ℕ
slot_for n id = pick (eqb n 1) 0 id

-- offset and length within a slot: where the bytes start, counted from the set's first byte, its header included (`slot_of` has added it), and how many
abbrev pub range_in : Slot → ℕ → ℕ → Result (ℕ × ℕ) Refusal
range_in (At start size) offset len = pick (leb (offset + len) size) (Ok (start + offset, len)) (Err Refusal.ImageEnd)
range_in Absent offset len = Err Refusal.NoImage
range_in Missing offset len = Err Refusal.NoImage

-- the range of any bytes: the set is not judged, so this never refuses with 1
abbrev pub range_unjudged : List ℕ → ℕ → ℕ → ℕ → Result (ℕ × ℕ) Refusal
range_unjudged set id offset len = range_in (slot_of set (slot_for (count_of set) id)) offset len

-- the range of an image set, which is well-formed or refused
unfoldable pub range_of : List ℕ → ℕ → ℕ → ℕ → Result (ℕ × ℕ) Refusal
range_of set id offset len = pick (well_formed true set) (range_unjudged set id offset len) (Err Refusal.ImageSet)

-- what a range tells: image, its start in the set and its length
abbrev pub range_told : Result (ℕ × ℕ) Refusal → Told
range_told = result_told (λ r. told_image r.0 r.1)
