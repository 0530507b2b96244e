-- Little-endian fields over a width in bytes. Document 01, opening paragraph: "Values are little-endian, unsigned"; bincode 1 fixes the widths,
-- 4 and 8. One definition each way. Of a field that does not lie within the bytes, `le` takes the missing ones for 0, and `field_at` has an answer of
-- its own.
use Rattle.std.specs.Prelude.{ℕ, zero, suc, ◌+◌, ◌*◌, ◌/◌, ◌%◌, List, [], ◌∷◌, ◌++◌, leb, length, drop, Option, Some, None, Result, Ok, Err}
use Rattle.std.proofs.lemmas.List.Edits.{sets}
use Rattle.base.specs.Choice.{pick}
use Rattle.field.specs.declared.Short.{Short}
use Rattle.field.specs.declared.Width.{Width}
use Rattle.field.specs.declared.Width.TheVariants as WI

-- the number that the first w bytes of a list write, the least first; a byte that is not there is 0
unfoldable pub le : ℕ → List ℕ → ℕ
le zero s = 0
le (suc w) [] = 0
le (suc w) (b ∷ bs) = b + 256 * le w bs

-- the w bytes of a number, the least first
unfoldable pub le_bytes : ℕ → ℕ → List ℕ
le_bytes zero v = []
le_bytes (suc w) v = (v % 256) ∷ le_bytes w (v / 256)

-- fields of w bytes one after the other; words of 4 bytes
unfoldable pub fields : ℕ → List ℕ → List ℕ
fields w [] = []
fields w (v ∷ vs) = le_bytes w v ++ fields w vs

abbrev pub words : List ℕ → List ℕ
words = fields 4

-- the field of w bytes at a place, as `of` tells it, where it lies within the bytes
unfoldable pub field_at : {A : Type 0} → ℕ → (ℕ → A) → List ℕ → ℕ → Option A
field_at w of s at = pick (leb (at + w) (length s)) (Some (of (le w (drop at s)))) None

abbrev pub short : Short
short = record {}

-- a write's whole outcome: whether the field was put, and the bytes afterwards
pub record Written : Type 0 where
  pub put : Result Unit Short
  pub bytes : List ℕ

abbrev pub written : Result Unit Short → List ℕ → Written
written p d = record { put = p; bytes = d }

-- v written into w bytes at a place; nothing changes where they do not lie within
unfoldable pub put_at : ℕ → List ℕ → ℕ → ℕ → Written
put_at w d at v = pick (leb (at + w) (length d)) (written (Ok tt) (sets d at (le_bytes w v))) (written (Err short) d)

-- ---- memory debug of 64 bits, and of 32: document 02, request 2: "MemDebug (9) and .. MemRead (0x0a), each an address and a length of 4 bytes. Their table
-- entries are 52 bytes: preference, base and length in 4 bytes each"

-- the bytes of an address, a length, a preference or a base
abbrev pub field_size : Width → ℕ
field_size WI.Bits32 = 4
field_size WI.Bits64 = 8
