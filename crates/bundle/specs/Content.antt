-- What a slot of a bundle holds. Document 01, Records, "Bundle": "a present slot's start + length is at most d, ranges may overlap. Start 0xFFFFFFFF with length 0
-- means absent": an empty slot is present.
use Rattle.std.specs.Prelude.{ℕ, Bool, true, false, List, [], length, take, drop}
use Rattle.std.proofs.Math.Option.{Option, none, some}
use Rattle.bundle.specs.Bundle.{slot_of}
use Rattle.bundle.specs.declared.Slot.{Slot}
use Rattle.bundle.specs.declared.Slot.TheVariants.{At, Absent, Missing}

-- a slot's content: its bytes, which are none where it is empty; or nothing, where it is absent
abbrev pub Content : Type 0
Content = Option (List ℕ)

-- whether it is present, its bytes, and how many they are
abbrev pub is_present : Content → Bool
is_present none = false
is_present (some s) = true

abbrev pub bytes_in : Content → List ℕ
bytes_in none = []
bytes_in (some s) = s

abbrev pub size_in : Content → ℕ
size_in x = length (bytes_in x)

-- the content of a slot of a bundle; nothing where there is no such slot
abbrev pub content_at : List ℕ → Slot → Content
content_at b (At start size) = some (take size (drop start b))
content_at b Absent = none
content_at b Missing = none

-- of slot i
abbrev pub content_of : List ℕ → ℕ → Content
content_of b i = content_at b (slot_of b i)
