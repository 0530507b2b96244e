-- Entries of the memory table. Document 01, Records, "Table entry": 64 bytes: preference, base, length (8 each), description and filename (20 each).
-- Document 02, request 2: "Their table entries are 52 bytes: preference, base and length in 4 bytes each, then the two 20-byte texts." The width f of the three
-- numbers, 8 or 4 (`field_size` of field/specs/Field), is a parameter of each definition.
use Rattle.std.specs.Prelude.{ℕ, zero, suc, ◌+◌, ◌*◌, ◌/◌, Bool, List, [], ◌∷◌, Option, Some, None, leb, length, take, drop}
use Rattle.base.specs.Choice.{pick}
use Rattle.field.specs.Field.{le}
use Rattle.entry.specs.declared.RamdumpTable64.{RamdumpTable64}

abbrev pub entry_size : ℕ → ℕ
entry_size f = 3 * f + 40

-- how many entries k bytes of a table have: "Entries are length / 64", of 32 bits "the entries are length / 52"; a remainder is no entry
abbrev pub entries_in : ℕ → ℕ → ℕ
entries_in f k = k / entry_size f

-- the bytes of entry i of a table
abbrev pub entry_of : ℕ → List ℕ → ℕ → List ℕ
entry_of f t i = take (entry_size f) (drop (entry_size f * i) t)

-- the fields of an entry's bytes
abbrev pub preference_of : ℕ → List ℕ → ℕ
preference_of f e = le f (drop 0 e)

abbrev pub base_of : ℕ → List ℕ → ℕ
base_of f e = le f (drop f e)

abbrev pub length_of : ℕ → List ℕ → ℕ
length_of f e = le f (drop (2 * f) e)

abbrev pub description_of : ℕ → List ℕ → List ℕ
description_of f e = take 20 (drop (3 * f) e)

abbrev pub filename_of : ℕ → List ℕ → List ℕ
filename_of f e = take 20 (drop (3 * f + 20) e)

-- entry i lies whole within the table
abbrev pub there : ℕ → List ℕ → ℕ → Bool
there f t i = leb (entry_size f * (i + 1)) (length t)

abbrev pub decoded : ℕ → List ℕ → RamdumpTable64
decoded f e =
    record {
      save_pref = preference_of f e;
      base = base_of f e;
      len = length_of f e;
      description = description_of f e;
      filename = filename_of f e;
    }

-- entry i of a table, decoded, where it is there
abbrev pub entry_in : ℕ → List ℕ → ℕ → RamdumpTable64
entry_in f t i = decoded f (entry_of f t i)

-- k entries of a table from i on, decoded; and all of them
unfoldable pub entries_from : ℕ → List ℕ → ℕ → ℕ → List RamdumpTable64
entries_from f t zero i = []
entries_from f t (suc k) i = entry_in f t i ∷ entries_from f t k (suc i)

abbrev pub entries_of : ℕ → List ℕ → List RamdumpTable64
entries_of f t = entries_from f t (entries_in f (length t)) 0

-- entry i of a table, where it is there
unfoldable pub entry_at : ℕ → List ℕ → ℕ → Option RamdumpTable64
entry_at f t i = pick (there f t i) (Some (entry_in f t i)) None
