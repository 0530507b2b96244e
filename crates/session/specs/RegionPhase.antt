-- *Region*. Document 01, "Session": "an empty read first if one is due; with no chunk outstanding, close if all is done, else send MemRead64 for
-- min(4096, rest) at base + done and add one to the memory reads; else hand out min(outstanding, delivery)". Document 02, request 2: "After MemDebug the host ..
-- sends MemRead .. for every chunk". v is the session's width.
use Rattle.std.specs.Prelude.{ℕ, suc, ◌+◌, ◌-◌, ◌%◌, ◌^◌, min, Bool, false, ◌&&◌, List, ltb, leb, eqb, length, Result, Ok, Err}
use Rattle.base.specs.Choice.{pick}
use Rattle.field.specs.Field.{field_size}
use Rattle.field.specs.declared.Width.{Width}
use Rattle.field.specs.declared.Width.TheVariants as WI
use Rattle.entry.specs.Entry.{entry_of, filename_of}
use Rattle.filename.specs.Filename.{after_open_check}
use Rattle.build.specs.Build.{size_of, front}
use Rattle.build.specs.declared.Request.TheVariants as Q
use Rattle.verdict.specs.Opening.{chunk_of, on_usb}
use Rattle.verdict.specs.declared.Opening.{Opening}
use Rattle.session.specs.declared.Region.{Region}
use Rattle.session.specs.declared.Phase.TheVariants as P
use Rattle.session.specs.declared.Session.{Session}
use Rattle.session.specs.declared.Answer.{Answer}
use Rattle.session.specs.declared.Answer.TheVariants as A
use Rattle.session.specs.declared.Stepped.{Stepped}
use Rattle.session.specs.declared.Counted.{Counted}
use Rattle.session.specs.Outcome.{in_phase, reading, ended, region, Outcome, outcome, gives}
use Rattle.refusal.specs.declared.Refusal.{Refusal}

-- "On USB a chunk that is a multiple of 512 makes one empty read due when its last byte is handed out, that is, when nothing is outstanding and done is a
-- multiple of 512". The test is of done: every chunk but a region's last is a multiple of 512, so done is one just where the chunk is
abbrev pub due_after : Opening → ℕ → ℕ → Bool
due_after u outstanding done = on_usb u && eqb outstanding 0 && eqb (done % 512) 0

-- ---- what the steps of a region count: the width, the opening, the memory reads so far and the region; no session is in it

-- the region x afterwards, m memory reads, n bytes taken of the delivery, the answer a
abbrev pub counted_to : Region → ℕ → ℕ → Answer → Counted
counted_to x m n a = record { region = x; reads = m; taken = n; answer = a }

-- the region with other counts
abbrev pub recounted : Region → ℕ → ℕ → Bool → Region
recounted x done outstanding due = region x.entry x.base x.len done outstanding due

-- the empty read that is due
abbrev pub emptied : Region → Region
emptied x = recounted x x.done x.outstanding false

abbrev pub emptied_of : ℕ → Region → Counted
emptied_of m x = counted_to (emptied x) m 0 A.EmptyRead

-- how much the next memory read asks for: a chunk, or the rest where that is less
abbrev pub asks_for : Opening → Region → ℕ
asks_for u x = min (chunk_of u) (x.len - x.done)

-- the next memory read, and the out buffer with it
abbrev pub asked_of : Width → Opening → ℕ → Region → Counted
asked_of v u m x =
    let n = asks_for u x in
    counted_to (recounted x x.done n false) (suc m) 0 (A.Send (size_of (Q.MemRead v (x.base + x.done) n)))

abbrev pub asked_out : Width → Opening → Region → List ℕ → List ℕ
asked_out v u x o = front (Q.MemRead v (x.base + x.done) (asks_for u x)) o

-- k bytes came: what is outstanding of them is handed out, and what came beyond it is not taken
abbrev pub handed_of : Opening → ℕ → Region → ℕ → Counted
handed_of u m x k =
    let n = min x.outstanding k in
    let left = x.outstanding - n in
    let done = x.done + n in
    counted_to (recounted x done left (due_after u left done)) m n (A.Bytes n)

-- ---- the same of a session: k is the table's length

abbrev pub counted_in : Session → ℕ → Counted → Stepped
counted_in s k c = gives (reading s c.reads (P.Region k c.region)) c.taken c.answer

abbrev pub closes : Session → ℕ → Region → Stepped
closes s k x = gives (in_phase s (P.Between k (suc x.entry))) 0 (A.Close x.entry)

-- no chunk is outstanding, and the region is begun
unfoldable pub next_chunk : Session → ℕ → Region → List ℕ → List ℕ → List ℕ → Outcome
next_chunk s k x t y o =
    pick (leb x.len x.done)
    (outcome (closes s k x) t y o)
    (outcome (counted_in s k (asked_of s.width s.opening s.reads x)) t y (asked_out s.width s.opening x o))

-- what a region that ends behind the memory is refused with: 22, and "24 when a selected 32-bit region has base + length above 2^32, in the place of 22"
abbrev pub past_end : Width → Refusal
past_end WI.Bits32 = Refusal.RegionEnd32
past_end WI.Bits64 = Refusal.RegionEnd

-- "in the step after open (nothing done or outstanding, no empty read due)": 21 by the table that is lent in that step, 22 or 24 by the base and length that
-- the session keeps; 256 ^ field_size is 2^64 or 2^32. With nothing outstanding, done is 0 only before the first memory read: each asks for at least a byte, and its bytes
-- are handed out before the next
abbrev pub begun_of : Session → ℕ → Region → List ℕ → List ℕ → List ℕ → Result Unit Refusal → Outcome
begun_of s k x t y o (Ok tt) =
    pick (ltb (256 ^ field_size s.width) (x.base + x.len))
    (outcome (gives (ended s) 0 (A.Refused (past_end s.width))) t y o)
    (next_chunk s k x t y o)
begun_of s k x t y o (Err why) = outcome (gives (ended s) 0 (A.Refused why)) t y o

-- the name of a region's entry, by the table t that is lent
abbrev pub name_in : Width → List ℕ → Region → List ℕ
name_in v t x = filename_of (field_size v) (entry_of (field_size v) t x.entry)

unfoldable pub ask_of : Session → ℕ → Region → List ℕ → List ℕ → List ℕ → Outcome
ask_of s k x t y o =
    pick (eqb x.done 0)
    (begun_of s k x t y o (after_open_check (name_in s.width t x)))
    (next_chunk s k x t y o)

-- bytes are outstanding: hand out what came
unfoldable pub hand_of : Session → ℕ → Region → List ℕ → List ℕ → List ℕ → List ℕ → Outcome
hand_of s k x d t y o =
    pick (eqb (length d) 0)
    (outcome (gives s 0 A.Go) t y o)
    (outcome (counted_in s k (handed_of s.opening s.reads x (length d))) t y o)

unfoldable pub region_of : Session → ℕ → Region → List ℕ → List ℕ → List ℕ → List ℕ → Outcome
region_of s k x d t y o =
    pick x.due
    (outcome (counted_in s k (emptied_of s.reads x)) t y o)
    (pick (eqb x.outstanding 0) (ask_of s k x t y o) (hand_of s k x d t y o))
