-- Sheets of small tables are the request's lines, and the premises of `same_sheet` are met: by computation, of tables of both widths that differ in preference,
-- description, in what stands behind the name's zero byte, and by a remainder, and have the same sheet. Assumes nothing.
use mathlib.Core.Path.{◌≡◌, refl, sym, ◌∙◌}
use mathlib.Core.Logic.{⊎_elim}
use mathlib.Core.List.{List, [], ◌∷◌, ◌++◌}
use Prim.Native.Nat.{ℕ, ◌<◌, ◌≤◌}
use native.Mathlib.Omega.{arith}
use lib.Dec.{T, ltb, ltb→lt, lit<}
use lib.ListN.{length, get_or, replicate, get_or-eq_default}
use Rattle.base.proofs.Ranges.{every, in_range, below_or_not}
use Rattle.field.specs.Field.{le, le_bytes, field_size}
use Rattle.field.specs.declared.Width.{Width}
use Rattle.field.specs.declared.Width.TheVariants as WI
use Rattle.entry.specs.Entry.{entry_in}
use Rattle.filename.specs.Filename.{before}
use Rattle.sheet.specs.Sheet.{printed, columns, digit, hex, mark, text_of, line_of, lines_of, sheet_bytes, sheet_outcome, sheet_of}
use Rattle.sheet.specs.Reading.{AllBytes, Alike}
use Rattle.sheet.proofs.Reading.{same_sheet}
use Rattle.std.specs.Prelude.{Ok, Err}
use Rattle.refusal.specs.declared.Refusal.TheVariants as Refusal

-- bytes, by a test of each
bytes_by : (s : List ℕ) → T (every (λ (i : ℕ). ltb (get_or s i 0) 256) 0 (length s)) → AllBytes s
bytes_by s t i =
    ⊎_elim
    (λ (h : i < length s).
    ltb→lt (get_or s i 0) 256 (in_range (λ (k : ℕ). ltb (get_or s k 0) 256) 0 (length s) i t (omega arith) (omega arith)))
    (λ (h : length s ≤ i). rw (get_or-eq_default s 0 {n = i} h) (lit< tt))
    (below_or_not i (length s))

pub entry : Width → ℕ → ℕ → ℕ → List ℕ → List ℕ → List ℕ
entry v preference base len description name =
    le_bytes (field_size v) preference ++ le_bytes (field_size v) base ++ le_bytes (field_size v) len ++ description ++ name

-- "DDR.BIN" and a zero byte
pub ddr : List ℕ
ddr = 0x44 ∷ 0x44 ∷ 0x52 ∷ 0x2E ∷ 0x42 ∷ 0x49 ∷ 0x4E ∷ 0 ∷ []

pub new : List ℕ
new = entry WI.Bits64 1 0x80000000 4096 (replicate 20 0) (ddr ++ replicate 12 0)

pub old : List ℕ
old = entry WI.Bits32 2 0x80000000 4096 (replicate 20 0x44) (ddr ++ replicate 12 0x5A) ++ (7 ∷ 7 ∷ 7 ∷ [])

-- a name of 'A', a delete, an escape and '~', then a zero byte and 'Z'; not preferred
pub hostile : List ℕ
hostile = entry WI.Bits64 0 0xFEDCBA9876543210 10 (replicate 20 0) (0x41 ∷ 0x7F ∷ 0x1B ∷ 0x7E ∷ 0 ∷ 0x5A ∷ replicate 14 0)

-- "DDR.BIN              0000000080000000 0000000000001000 *" and a line feed
pub line : List ℕ
line =
    (0x44 ∷ 0x44 ∷ 0x52 ∷ 0x2E ∷ 0x42 ∷ 0x49 ∷ 0x4E ∷ []) ++ replicate 14 0x20 ++ replicate 8 0x30 ++ (0x38 ∷ replicate 7 0x30) ++ (0x20 ∷ replicate 12 0x30)
    ++ (0x31 ∷ replicate 3 0x30)
    ++ (0x20 ∷ 0x2A ∷ 0x0A ∷ [])

-- "A??~                 FEDCBA9876543210 000000000000000A  " and a line feed
pub plain_line : List ℕ
plain_line =
    (0x41 ∷ 0x3F ∷ 0x3F ∷ 0x7E ∷ []) ++ replicate 17 0x20
    ++ (0x46 ∷ 0x45 ∷ 0x44 ∷ 0x43 ∷ 0x42 ∷ 0x41 ∷ 0x39 ∷ 0x38 ∷ 0x37 ∷ 0x36 ∷ 0x35 ∷ 0x34 ∷ 0x33 ∷ 0x32 ∷ 0x31 ∷ 0x30 ∷ [])
    ++ (0x20 ∷ replicate 15 0x30)
    ++ (0x41 ∷ 0x20 ∷ 0x20 ∷ 0x0A ∷ [])

pub new_sheet : sheet_bytes (field_size WI.Bits64) new ≡ line
unfolding new entry ddr line le le_bytes before printed columns digit hex mark text_of line_of lines_of
new_sheet = refl

pub old_sheet : sheet_bytes (field_size WI.Bits32) old ≡ line
unfolding old entry ddr line le le_bytes before printed columns digit hex mark text_of line_of lines_of
old_sheet = refl

pub two_lines : sheet_bytes (field_size WI.Bits64) (hostile ++ new) ≡ plain_line ++ line
unfolding new hostile entry ddr line plain_line le le_bytes before printed columns digit hex mark text_of line_of lines_of
two_lines = refl

-- on a page of 58 bytes its last stays, one of 56 is refused; an empty table prints nothing, on an empty page too
pub made_58 : sheet_of (field_size WI.Bits64) new (replicate 58 7) ≡ sheet_outcome (Ok 57) (line ++ 7 ∷ [])
unfolding new entry ddr line le le_bytes before printed columns digit hex mark text_of line_of lines_of sheet_of
made_58 = refl

pub refused_56 : sheet_of (field_size WI.Bits64) new (replicate 56 7) ≡ sheet_outcome (Err Refusal.SheetPage) (replicate 56 7)
unfolding new entry ddr le_bytes sheet_of
refused_56 = refl

pub nothing_made : sheet_of (field_size WI.Bits64) [] [] ≡ sheet_outcome (Ok 0) []
unfolding lines_of sheet_of
nothing_made = refl

-- the two entries whose sheets are the same are alike
pub met : Alike (entry_in (field_size WI.Bits64) new 0) (entry_in (field_size WI.Bits32) old 0)
unfolding new old entry ddr le_bytes
met = (same_sheet WI.Bits64 WI.Bits32 new old (bytes_by new tt) (bytes_by old tt) (new_sheet ∙ sym old_sheet)).1 0 (lit< tt)
