-- The bytes that follow a lead byte, by what a row of Unicode's table 3-7 tells of them.
use Rattle.std.specs.Prelude.{Bool, true, false, ℕ, zero, suc, ◌+◌, List, [], ◌∷◌, drop, leb}
use Rattle.base.specs.Choice.{pick}
use Rattle.utf8_sequence.specs.declared.Follow.{Follow}

-- whether bytes begin with n, the first of them low..high, the others 0x80..0xBF
unfoldable pub follows : ℕ → ℕ → ℕ → List ℕ → Bool
follows zero low high bs = true
follows (suc n) low high [] = false
follows (suc n) low high (b ∷ bs) = pick (leb low b) (pick (leb b high) (follows n 0x80 0xBF bs) false) false

-- where those that are to begin at i end; 0 where they are not there, or are to be more than three
abbrev pub end_of : Follow → List ℕ → ℕ → ℕ
end_of f s i = pick (leb f.0 3) (pick (follows f.0 f.1 f.2 (drop i s)) (i + f.0) 0) 0
