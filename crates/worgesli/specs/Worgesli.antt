-- What crosses to C and is told by no other crate: entries, the next selected one and the region sheet by a width that is a number (document 02, requests 2
-- and 4), the tidy form of an image set (its request 6), and the reset packet, built alone (document 01, "Building").
use Rattle.std.specs.Prelude.{ℕ, ◌+◌, ◌-◌, List, Option, None, Ok}
use Rattle.base.specs.Choice.{pick}
use Rattle.field.specs.Field.{field_size}
use Rattle.entry.specs.Entry.{entry_at}
use Rattle.entry.specs.declared.RamdumpTable64.{RamdumpTable64}
use Rattle.selection.specs.Selection.{next_of}
use Rattle.raw.specs.Raw.{width_of, is_width}
use Rattle.build.specs.declared.Request.TheVariants as Q
use Rattle.build.specs.Build as B
use Rattle.raw_records.specs.Records.{built_number, raw_sheet, raw_tidied}
use Rattle.raw_records.specs.declared.RawSheet.{RawSheet}
use Rattle.raw_records.specs.declared.RawTidied.{RawTidied}
use Rattle.sheet.specs.Sheet.{SheetOutcome, sheet_outcome, sheet_of}
use Rattle.tidied.specs.Tidy.{TidyOutcome}

-- entry i of a table; of a number that is no width there is none
unfoldable pub entry_raw : List ℕ → ℕ → ℕ → Option RamdumpTable64
entry_raw t n i = pick (is_width n) (entry_at (field_size (width_of n)) t i) None

-- the first selected from `from` on and before `entries`; of a number that is no width none is
unfoldable pub next_raw : List ℕ → ℕ → ℕ → List ℕ → ℕ → ℕ
next_raw t n entries names from =
    pick (is_width n) (next_of (field_size (width_of n)) names t (entries - from) from) (from + (entries - from))

-- the region sheet; of a number that is no width there is no entry, and nothing is written
unfoldable pub sheet_raw : List ℕ → ℕ → List ℕ → SheetOutcome
sheet_raw t n p = pick (is_width n) (sheet_of (field_size (width_of n)) t p) (sheet_outcome (Ok 0) p)

-- an answer's numbers, and the page afterwards
pub record PageOutcome : Type 0 where
  pub sheet : RawSheet
  pub page : List ℕ

abbrev pub page_outcome : RawSheet → List ℕ → PageOutcome
page_outcome s p = record { sheet = s; page = p }

abbrev pub crossed : SheetOutcome → PageOutcome
crossed x = page_outcome (raw_sheet x.sheet) x.page

-- the tidy form: the answer's numbers, and the buffer afterwards
pub record RoomOutcome : Type 0 where
  pub tidied : RawTidied
  pub to : List ℕ

abbrev pub room_outcome : RawTidied → List ℕ → RoomOutcome
room_outcome x to = record { tidied = x; to = to }

abbrev pub tidy_raw : TidyOutcome → RoomOutcome
tidy_raw x = room_outcome (raw_tidied x.tidied) x.to

-- Reset: its number, and the out buffer afterwards
pub record ResetOutcome : Type 0 where
  pub refused : ℕ
  pub out : List ℕ

abbrev pub reset_outcome : ℕ → List ℕ → ResetOutcome
reset_outcome n o = record { refused = n; out = o }

unfoldable pub reset_raw : List ℕ → ResetOutcome
reset_raw o = reset_outcome (built_number (B.build_of Q.Reset o).built) (B.build_of Q.Reset o).out
