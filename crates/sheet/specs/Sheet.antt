-- The region sheet. Document 02, request 4: "It is made from the table's bytes and entry width, a remainder ignored. One line an entry: filename in 20 columns,
-- a space, base in 16 capital hexadecimal digits, a space, length likewise, a space, then '*' for nonzero preference or a blank, then a line feed: 57 bytes. The
-- name stops at its first zero byte and is padded with blanks; bytes outside 0x20..0x7E print as '?'. Entries of 32 bits use the same widths. An empty table
-- prints nothing. 25 when the lent page is shorter than 57 times the entries, page untouched." The width f of an entry's numbers, 8 or 4 bytes, is a parameter,
-- as in entry/specs/Entry. A line is of a decoded entry, its numbers already widened: one rule for both widths.
use Rattle.std.specs.Prelude.{ℕ, zero, suc, ◌+◌, ◌-◌, ◌*◌, ◌/◌, ◌%◌, ◌&&◌, List, [], ◌∷◌, ◌++◌, map, ltb, leb, eqb, length, drop, replicate, Result, Ok, Err}
use Rattle.base.specs.Choice.{pick}
use Rattle.base.specs.Told.{Told}
use Rattle.entry.specs.Entry.{entries_in, entry_in}
use Rattle.entry.specs.declared.RamdumpTable64.{RamdumpTable64}
use Rattle.filename.specs.Filename.{before}
use Rattle.refusal.specs.Refusal.{made_told}
use Rattle.refusal.specs.declared.Refusal.{Refusal}

-- characters; the request's "space" and "blank" are one
abbrev pub blank : ℕ
blank = 0x20

abbrev pub question : ℕ
question = 0x3F

abbrev pub star : ℕ
star = 0x2A

abbrev pub line_feed : ℕ
line_feed = 0x0A

-- "bytes outside 0x20..0x7E print as '?'"
unfoldable pub printed : ℕ → ℕ
printed b = pick (leb 0x20 b && leb b 0x7E) b question

-- "filename in 20 columns .. stops at its first zero byte and is padded with blanks"; without a zero byte it is all 20
unfoldable pub columns : List ℕ → List ℕ
columns name = map printed (before 0 name) ++ replicate (20 - length (before 0 name)) blank

-- a "capital hexadecimal" digit: '0' to '9', 'A' to 'F'
unfoldable pub digit : ℕ → ℕ
digit d = pick (ltb d 10) (0x30 + d) (0x41 + (d - 10))

-- the last k digits of a number, its units at the end
unfoldable pub hex : ℕ → ℕ → List ℕ
hex zero v = []
hex (suc k) v = hex k (v / 16) ++ digit (v % 16) ∷ []

-- "'*' for nonzero preference or a blank"
unfoldable pub mark : ℕ → ℕ
mark preference = pick (eqb preference 0) blank star

-- "filename in 20 columns, a space, base in 16 capital hexadecimal digits, a space, length likewise, a space, then '*' .. or a blank"
unfoldable pub text_of : RamdumpTable64 → List ℕ
text_of e = columns e.filename ++ (blank ∷ hex 16 e.base ++ (blank ∷ hex 16 e.len ++ (blank ∷ mark e.save_pref ∷ [])))

-- "then a line feed"
unfoldable pub line_of : RamdumpTable64 → List ℕ
line_of e = text_of e ++ line_feed ∷ []

-- "57 bytes"
abbrev pub line_size : ℕ
line_size = 57

-- the lines of a table's first k entries
unfoldable pub lines_of : ℕ → List ℕ → ℕ → List ℕ
lines_of f t zero = []
lines_of f t (suc k) = lines_of f t k ++ line_of (entry_in f t k)

-- "One line an entry", "a remainder ignored"
abbrev pub sheet_bytes : ℕ → List ℕ → List ℕ
sheet_bytes f t = lines_of f t (entries_in f (length t))

-- "57 times the entries"
abbrev pub sheet_size : ℕ → List ℕ → ℕ
sheet_size f t = line_size * entries_in f (length t)

-- a sheet's whole outcome: the answer, and the page afterwards
pub record SheetOutcome : Type 0 where
  pub sheet : Result ℕ Refusal
  pub page : List ℕ

abbrev pub sheet_outcome : Result ℕ Refusal → List ℕ → SheetOutcome
sheet_outcome s p = record { sheet = s; page = p }

-- what the answer tells: an operation that accepts tells go, here with the bytes written
abbrev pub sheet_told : Result ℕ Refusal → Told
sheet_told = made_told

abbrev pub sheet_outcome_told : SheetOutcome → Told
sheet_outcome_told x = sheet_told x.sheet

-- 25 and the page untouched, or the sheet as the page's first bytes
unfoldable pub sheet_of : ℕ → List ℕ → List ℕ → SheetOutcome
sheet_of f t p =
    pick (ltb (length p) (sheet_size f t))
    (sheet_outcome (Err Refusal.SheetPage) p)
    (sheet_outcome (Ok (sheet_size f t)) (sheet_bytes f t ++ drop (sheet_size f t) p))
