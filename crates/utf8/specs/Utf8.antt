-- UTF-8 after table 3-7 of the Unicode Standard, "Well-Formed UTF-8 Byte Sequences". Document 01, opening paragraph:
-- "Unicode table 3-7 defines UTF-8". The rows of `table` stand as on that page, in its order: please hold the two side by side.
use Rattle.std.specs.Prelude.{ℕ, Bool, true, false, List, [], ◌∷◌, leb}
use Rattle.base.specs.Choice.{pick}

-- the bytes low..high
pub record Range : Type 0 where
  pub low : ℕ
  pub high : ℕ

abbrev pub from : ℕ → ℕ → Range
from a b = record { low = a; high = b }

abbrev pub within : Range → ℕ → Bool
within r b = pick (leb r.low b) (leb b r.high) false

-- a row: the first byte, and the bytes after it in order
pub record Row : Type 0 where
  pub first : Range
  pub after : List Range

abbrev pub row : Range → List Range → Row
row f a = record { first = f; after = a }

-- table 3-7: first byte, second byte, third byte, fourth byte
unfoldable pub table : List Row
table =
    row (from 0x00 0x7F) []
    ∷ row (from 0xC2 0xDF) (from 0x80 0xBF ∷ [])
    ∷ row (from 0xE0 0xE0) (from 0xA0 0xBF ∷ from 0x80 0xBF ∷ [])
    ∷ row (from 0xE1 0xEC) (from 0x80 0xBF ∷ from 0x80 0xBF ∷ [])
    ∷ row (from 0xED 0xED) (from 0x80 0x9F ∷ from 0x80 0xBF ∷ [])
    ∷ row (from 0xEE 0xEF) (from 0x80 0xBF ∷ from 0x80 0xBF ∷ [])
    ∷ row (from 0xF0 0xF0) (from 0x90 0xBF ∷ from 0x80 0xBF ∷ from 0x80 0xBF ∷ [])
    ∷ row (from 0xF1 0xF3) (from 0x80 0xBF ∷ from 0x80 0xBF ∷ from 0x80 0xBF ∷ [])
    ∷ row (from 0xF4 0xF4) (from 0x80 0x8F ∷ from 0x80 0xBF ∷ from 0x80 0xBF ∷ [])
    ∷ []

-- whether a row has the byte as its first
unfoldable pub leads : List Row → ℕ → Bool
leads [] b = false
leads (r ∷ rs) b = pick (within r.first b) true (leads rs b)

-- what is to come after a first byte
unfoldable pub after_first : List Row → ℕ → List Range
after_first [] b = []
after_first (r ∷ rs) b = pick (within r.first b) r.after (after_first rs b)

-- the bytes end a sequence of which the ranges rs are to come, and go on as sequences of the table
unfoldable pub goes_on : List Range → List ℕ → Bool
goes_on [] [] = true
goes_on (r ∷ rs) [] = false
goes_on (r ∷ rs) (b ∷ bs) = pick (within r b) (goes_on rs bs) false
goes_on [] (b ∷ bs) = pick (leads table b) (goes_on (after_first table b) bs) false

-- UTF-8: sequences of the table and nothing else
abbrev pub utf8 : List ℕ → Bool
utf8 s = goes_on [] s
