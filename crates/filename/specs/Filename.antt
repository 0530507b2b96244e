-- Filenames: the stem, and the tests of a region's name. Document 01, "Selection": "Stem: the 20 filename bytes up to the first '.', all 20 if none,
-- zeros included; empty if the 20 are not UTF-8." Refusals, opening a region: 19 filename without zero byte; 20 bytes before it not UTF-8;
-- in the step after open: 21 the 20 not UTF-8. "A name is sound if its 20 bytes are UTF-8 and one of them is zero."
use Rattle.std.specs.Prelude.{ℕ, Bool, true, false, List, [], ◌∷◌, eqb, Result, Err}
use Rattle.base.specs.Choice.{pick}
use Rattle.base.specs.Told.{Told}
use Rattle.utf8.specs.Utf8.{utf8}
use Rattle.refusal.specs.declared.Refusal.{Refusal}
use Rattle.refusal.specs.Refusal.{accepted, accepted_told}

-- the bytes before the first b, all where there is none
unfoldable pub before : ℕ → List ℕ → List ℕ
before b [] = []
before b (x ∷ xs) = pick (eqb x b) [] (x ∷ before b xs)

-- whether one of the bytes is b
unfoldable pub has : ℕ → List ℕ → Bool
has b [] = false
has b (x ∷ xs) = pick (eqb x b) true (has b xs)

-- the stem, a beginning of the name: 0x2E is '.'
unfoldable pub stem_of : List ℕ → List ℕ
stem_of name = pick (utf8 name) (before 0x2E name) []

-- what opening a region says of its name: 19 where no byte is zero, else 20 where those before the first zero are not UTF-8
unfoldable pub open_check : List ℕ → Result Unit Refusal
open_check name = pick (has 0 name) (pick (utf8 (before 0 name)) accepted (Err Refusal.Filename)) (Err Refusal.FilenameEnd)

-- what the step after open says of it
unfoldable pub after_open_check : List ℕ → Result Unit Refusal
after_open_check name = pick (utf8 name) accepted (Err Refusal.FilenameBytes)

-- what either tells
abbrev pub name_told : Result Unit Refusal → Told
name_told = accepted_told

-- a sound name
unfoldable pub sound : List ℕ → Bool
sound name = pick (utf8 name) (has 0 name) false
