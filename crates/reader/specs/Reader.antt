-- The reader of a packet's body. Document 01, Records, "Packet": "The body is read field by field by a reader that keeps the packet's bytes and an
-- offset." A field is told where it lies within the bytes, else it is short.
use Rattle.std.specs.Prelude.{ℕ, List, Option}
use Rattle.std.specs.Borrow.{Bor}
use Rattle.field.specs.Field.{field_at}
use Rattle.reader.specs.declared.Reader.{Reader}

-- a reader of these bytes at an offset
abbrev pub reader_at : Bor (List ℕ) → ℕ → Reader
reader_at src at = record { src = src; at = at }

-- the field of w bytes at a reader's offset
abbrev pub field_of : {A : Type 0} → ℕ → (ℕ → A) → Reader → Option A
field_of w of r = field_at w of r.src.now r.at
