-- What may be read off a sheet, in the words of the laws of proofs/Reading. No promise of a function names these.
use Rattle.std.specs.Prelude.{ℕ, ◌+◌, ◌-◌, ◌*◌, ◌<◌, ◌≤◌, ◌≡◌, List, [], ◌∷◌, ltb, eqb, get_or}
use Rattle.base.specs.Choice.{pick}
use Rattle.entry.specs.declared.RamdumpTable64.{RamdumpTable64}
use Rattle.sheet.specs.Sheet.{columns}

-- each of a list's elements is a byte
abbrev pub AllBytes : List ℕ → Type 0
AllBytes s = (i : ℕ) → get_or s i 0 < 256

-- a character that moves no cursor but by one column, and ends no line
pub record Printable (b : ℕ) : Type 0 where
  pub least : 0x20 ≤ b
  pub most : b ≤ 0x7E

-- a digit's value; the number that digits write behind a beginning that writes n
unfoldable pub value_of : ℕ → ℕ
value_of c = pick (ltb c 0x41) (c - 0x30) (c - 0x41 + 10)

unfoldable pub number_of : ℕ → List ℕ → ℕ
number_of n [] = n
number_of n (c ∷ cs) = number_of (16 * n + value_of c) cs

-- what two entries have in common whose lines are the same
pub record Alike (a b : RamdumpTable64) : Type 0 where
  pub name : columns a.filename ≡ columns b.filename
  pub base : a.base ≡ b.base
  pub len : a.len ≡ b.len
  -- the mark, or none
  pub preferred : eqb a.save_pref 0 ≡ eqb b.save_pref 0
