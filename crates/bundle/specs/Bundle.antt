-- Bundles: image sets and name lists. Document 01, Records, "Bundle": slot count n (4 bytes, 0..64), data size d (4 bytes), n starts, n lengths
-- (4 bytes each), d data bytes; total exactly 8 + 8n + d; a present slot's start + length is at most d, ranges may overlap; start 0xFFFFFFFF with
-- length 0 means absent, allowed in an image set and not in a name list. Refusals, "Bundle check": 1 image set malformed, 2 names malformed.
use Rattle.std.specs.Prelude.{ℕ, zero, suc, ◌+◌, ◌*◌, Bool, true, false, List, [], ◌∷◌, ltb, leb, eqb, length, drop, Result, Err}
use Rattle.base.specs.Choice.{pick}
use Rattle.base.specs.Told.{Told, told}
use Rattle.refusal.specs.Refusal.{accepted_told, accepted}
use Rattle.field.specs.Field.{le}
use Rattle.bundle.specs.declared.Slot.{Slot}
use Rattle.bundle.specs.declared.Slot.TheVariants as S
use Rattle.refusal.specs.declared.Refusal.{Refusal}

-- n, d, and the start and length of slot i
abbrev pub count_of : List ℕ → ℕ
count_of b = le 4 (drop 0 b)

abbrev pub data_size_of : List ℕ → ℕ
data_size_of b = le 4 (drop 4 b)

abbrev pub slot_start_of : List ℕ → ℕ → ℕ
slot_start_of b i = le 4 (drop (8 + 4 * i) b)

abbrev pub slot_length_of : List ℕ → ℕ → ℕ
slot_length_of b i = le 4 (drop (8 + 4 * count_of b + 4 * i) b)

-- where the data begins in the bundle's bytes
abbrev pub data_from : List ℕ → ℕ
data_from b = 8 + 8 * count_of b

abbrev pub absent : List ℕ → ℕ → Bool
absent b i = pick (eqb (slot_start_of b i) 0xFFFFFFFF) (eqb (slot_length_of b i) 0) false

-- slot i is good: absent where gaps are allowed, else a range within the data
abbrev pub slot_good : Bool → List ℕ → ℕ → Bool
slot_good gaps b i = pick (absent b i) gaps (leb (slot_start_of b i + slot_length_of b i) (data_size_of b))

-- each of k slots from i on
unfoldable pub slots_good : Bool → List ℕ → ℕ → ℕ → Bool
slots_good gaps b zero i = true
slots_good gaps b (suc k) i = pick (slot_good gaps b i) (slots_good gaps b k (suc i)) false

-- a well-formed bundle, with or without gaps allowed
unfoldable pub well_formed : Bool → List ℕ → Bool
well_formed gaps b =
    pick (ltb (length b) 8) false
    (pick (ltb 64 (count_of b)) false
    (pick (eqb (length b) (8 + 8 * count_of b + data_size_of b)) (slots_good gaps b (count_of b) 0) false))

-- the two checks, with 01's numbers
abbrev pub images_checked : List ℕ → Result Unit Refusal
images_checked b = pick (well_formed true b) accepted (Err Refusal.ImageSet)

abbrev pub names_checked : List ℕ → Result Unit Refusal
names_checked b = pick (well_formed false b) accepted (Err Refusal.NameList)

-- what a check tells
abbrev pub checked_told : Result Unit Refusal → Told
checked_told = accepted_told

-- slot i of any bytes: where it stands among them and how long it is, absent, or missing: no such slot, or it does not lie within the bytes
-- (of a well-formed bundle, no such slot alone)
unfoldable pub slot_of : List ℕ → ℕ → Slot
slot_of b i =
    pick (ltb (length b) 8) S.Missing
    (pick (ltb (length b) (data_from b)) S.Missing
    (pick (leb (count_of b) i) S.Missing
    (pick (absent b i) S.Absent
    (pick (ltb (length b) (data_from b + slot_start_of b i + slot_length_of b i)) S.Missing
    (S.At (data_from b + slot_start_of b i) (slot_length_of b i))))))

-- what a slot tells: 01 has no numbers here, so present 0 with its start and length, absent 1, missing 2
abbrev pub slot_told : Slot → Told
slot_told (S.At start k) = told 0 (start ∷ k ∷ [])
slot_told S.Absent = told 1 []
slot_told S.Missing = told 2 []
