-- Selection of table entries. Document 01, "Selection": with no names, entries of nonzero preference; otherwise those whose stem equals a name, A..Z
-- lowered on both sides. By membership: nothing here searches in an order. The width f of an entry's numbers, 8 or 4, is a
-- parameter.
use Rattle.std.specs.Prelude.{ℕ, zero, suc, ◌+◌, Bool, true, false, not, List, [], ◌∷◌, map, leb, eqb, take, drop}
use Rattle.base.specs.Choice.{pick}
use Rattle.bundle.specs.Bundle.{count_of, slot_of}
use Rattle.bundle.specs.declared.Slot.{Slot}
use Rattle.bundle.specs.declared.Slot.TheVariants.{At, Absent, Missing}
use Rattle.entry.specs.Entry.{entry_of, there, preference_of, filename_of}
use Rattle.filename.specs.Filename.{stem_of}

-- A..Z lowered: 0x41..0x5A
unfoldable pub low : ℕ → ℕ
low b = pick (leb 0x41 b) (pick (leb b 0x5A) (b + 0x20) b) b

-- the names of a list: the bytes of its slots, k of them from slot i on
abbrev pub with_name : List ℕ → Slot → List (List ℕ) → List (List ℕ)
with_name b (At start size) rest = take size (drop start b) ∷ rest
with_name b Absent rest = rest
with_name b Missing rest = rest

unfoldable pub names_from : List ℕ → ℕ → ℕ → List (List ℕ)
names_from b zero i = []
names_from b (suc k) i = with_name b (slot_of b i) (names_from b k (suc i))

abbrev pub names_of : List ℕ → List (List ℕ)
names_of b = names_from b (count_of b) 0

-- two byte strings are the same
unfoldable pub same : List ℕ → List ℕ → Bool
same [] [] = true
same [] (y ∷ ys) = false
same (x ∷ xs) [] = false
same (x ∷ xs) (y ∷ ys) = pick (eqb x y) (same xs ys) false

-- a byte string is one of some
unfoldable pub member : List ℕ → List (List ℕ) → Bool
member s [] = false
member s (n ∷ ns) = pick (same s n) true (member s ns)

-- a stem is one of the names, both sides lowered
abbrev pub named : List ℕ → List ℕ → Bool
named names stem = member (map low stem) (map (map low) (names_of names))

-- what selects an entry: with no names its preference, else its filename's stem
abbrev pub selected_by : List ℕ → ℕ → List ℕ → Bool
selected_by names preference filename = pick (eqb (count_of names) 0) (not (eqb preference 0)) (named names (stem_of filename))

-- an entry's bytes are selected
unfoldable pub selected : ℕ → List ℕ → List ℕ → Bool
selected f names e = selected_by names (preference_of f e) (filename_of f e)

-- entry i of a table is there and selected
abbrev pub selected_at : ℕ → List ℕ → List ℕ → ℕ → Bool
selected_at f names t i = pick (there f t i) (selected f names (entry_of f t i)) false

-- the first selected of k entries from i on; i + k where there is none
unfoldable pub next_of : ℕ → List ℕ → List ℕ → ℕ → ℕ → ℕ
next_of f names t zero i = i
next_of f names t (suc k) i = pick (selected_at f names t i) i (next_of f names t k (suc i))
