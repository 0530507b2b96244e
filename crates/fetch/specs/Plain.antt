-- The plain host. Document 01, "Plain host": "It sees no delivery. .. It keeps a place in the string, a count of memory reads and its reports." Of the
-- step it shares the verdict on one whole packet and the leaves, and knows nothing of its phases. ("Opening" is what a session is opened with, as in
-- verdict/specs/Opening; the device's first bytes are its opening bytes; a region is opened by a report `opened`.) Document 02, request 2: "After MemDebug the
-- host, the plain host too, sends MemRead for the table and for every chunk, each counted as a memory read".
use Rattle.std.specs.Prelude.{
  ℕ,
  zero,
  suc,
  ◌+◌,
  ◌-◌,
  ◌%◌,
  min,
  Bool,
  true,
  false,
  not,
  ◌&&◌,
  ◌||◌,
  List,
  [],
  ◌∷◌,
  ◌++◌,
  map,
  ltb,
  eqb,
  length,
  take,
  drop,
  Result,
  Ok,
  Err,
}
use Rattle.base.specs.Choice.{pick}
use Rattle.field.specs.Field.{field_size}
use Rattle.field.specs.declared.Width.{Width}
use Rattle.field.specs.declared.Width.TheVariants as WI
use Rattle.bundle.specs.Bundle.{well_formed}
use Rattle.entry.specs.Entry.{entries_in, entry_of, base_of, length_of}
use Rattle.selection.specs.Selection.{selected}
use Rattle.command.specs.Command.{kind_number}
use Rattle.packet.specs.Packet.{command_field, length_field, bad_length}
use Rattle.build.specs.Build.{read_kind, bytes_of}
use Rattle.build.specs.declared.Request.TheVariants as Q
use Rattle.verdict.specs.Opening.{chunks_in, chunk_of, on_usb}
use Rattle.verdict.specs.Verdict.{verdict_of}
use Rattle.verdict.specs.declared.Opening.{Opening}
use Rattle.verdict.specs.declared.Verdict.{Verdict}
use Rattle.verdict.specs.declared.Verdict.TheVariants as W
use Rattle.refusal.specs.declared.Refusal.{Refusal}
use Rattle.verdict.specs.declared.Finish.{Finish}

-- what a host does that can be seen: a packet sent, an image's bytes, a region opened, a byte of it handed out, an empty read, a region closed,
-- finished with the memory reads
pub data Report : Type 0 where
  sent : List ℕ → Report
  image : List ℕ → Report
  opened : ℕ → Report
  byte : ℕ → Report
  empty_read : Report
  closed : ℕ → Report
  finished : Finish → ℕ → Report

-- a packet is a memory read of this width; of either
abbrev pub reads_as : Width → List ℕ → Bool
reads_as v p = eqb (command_field p) (kind_number (read_kind v))

abbrev pub is_read : List ℕ → Bool
is_read p = reads_as WI.Bits32 p || reads_as WI.Bits64 p

-- k bytes of the memory from a on
unfoldable pub bytes_at : (ℕ → ℕ) → ℕ → ℕ → List ℕ
bytes_at mem a zero = []
bytes_at mem a (suc k) = mem a ∷ bytes_at mem (suc a) k

-- ---- "While bytes are left, it cuts off a packet of the length in its header, follows *Packet* and the refusals, and reports the packet sent, the
-- image's bytes or finished. It stops where a packet is refused, cut short, finishing or an ExecuteResp. A memory debug ends this cutting."

-- what a memory debug gives: its width, where the table stands and how many bytes it has
pub record Debug : Type 0 where
  pub width : Width
  pub address : ℕ
  pub size : ℕ

abbrev pub debug : Width → ℕ → ℕ → Debug
debug v a k = record { width = v; address = a; size = k }

-- the bytes of its numbers
abbrev pub field_in : Debug → ℕ
field_in dbg = field_size dbg.width

-- how the opening bytes end: stopped; stopped at an ExecuteResp, where a host goes on with the response; or a memory debug with what stands after it
pub data Ending : Type 0 where
  Stopped : Ending
  Responded : Ending
  Debugged : Debug → List ℕ → Ending

pub record Heard : Type 0 where
  pub said : List Report
  pub ending : Ending

abbrev pub stop : Ending → Heard
stop e = record { said = []; ending = e }

abbrev pub say : Report → Heard → Heard
say r h = record { said = r ∷ h.said; ending = h.ending }

-- by a packet's verdict; rest is what the bytes s behind the packet give. Finished with 0: no memory read is sent before a memory debug
abbrev pub after : List ℕ → List ℕ → Heard → Result Verdict Refusal → Heard
after set s rest (Ok (W.Reply q)) = say (sent (bytes_of q)) rest
after set s rest (Ok (W.Image x k)) = say (image (take k (drop x set))) rest
after set s rest (Ok W.Pass) = rest
after set s rest (Ok (W.Finish how)) = say (finished how 0) (stop Stopped)
after set s rest (Ok (W.Respond c k)) = say (sent (bytes_of (Q.ExecuteData c))) (stop Responded)
after set s rest (Ok (W.Debug v a k)) = stop (Debugged (debug v a k) s)
after set s rest (Err why) = stop Stopped

-- fuel: each packet has at least 8 bytes, so the string's length is enough; more changes nothing (`fuel` of proofs/Cutting)
unfoldable pub hear : Opening → List ℕ → ℕ → ℕ → ℕ → List ℕ → Heard
hear u set tsize rsize zero s = stop Stopped
hear u set tsize rsize (suc fuel) s =
    pick (ltb (length s) 8) (stop Stopped)
    (pick (bad_length (length_field s)) (stop Stopped)
    (pick (ltb (length s) (length_field s)) (stop Stopped)
    (after set (drop (length_field s) s) (hear u set tsize rsize fuel (drop (length_field s) s))
    (verdict_of u set tsize rsize (take (length_field s) s)))))

-- lent the image set, the names, and buffers by their sizes: 1, 2 and 3 refuse every step
unfoldable pub hosted : Opening → List ℕ → List ℕ → ℕ → ℕ → ℕ → List ℕ → Heard
hosted u set names tsize rsize osize s =
    pick (not (well_formed true set)) (stop Stopped)
    (pick (not (well_formed false names)) (stop Stopped)
    (pick (ltb osize 48) (stop Stopped) (hear u set tsize rsize (length s) s)))

-- ---- "Then, for each selected entry in table order, it reports open i; for each chunk from the region's base, min(4096, rest) bytes until none are
-- left, a MemRead64, the memory's bytes there one by one and, on USB after a multiple of 512, an empty read; then close i."
-- f is the width of an entry's numbers, v that of the memory debug

-- the selected ones of k entries from i on
unfoldable pub chosen : ℕ → List ℕ → List ℕ → ℕ → ℕ → List ℕ
chosen f names t zero i = []
chosen f names t (suc k) i =
    pick (selected f names (entry_of f t i)) (i ∷ chosen f names t k (suc i)) (chosen f names t k (suc i))

abbrev pub empty_if : Bool → List Report
empty_if b = pick b (empty_read ∷ []) []

-- an empty read follows a chunk of n bytes
abbrev pub empty_after : Opening → ℕ → Bool
empty_after u n = on_usb u && eqb (n % 512) 0

-- one chunk: n bytes at a
abbrev pub chunk : Width → Opening → (ℕ → ℕ) → ℕ → ℕ → List Report
chunk v u mem a n =
    sent (bytes_of (Q.MemRead v a n)) ∷ (map byte (bytes_at mem a n) ++ empty_if (empty_after u n))

-- l bytes from a on; fuel: each chunk has at least one byte, so l is enough; more changes nothing (`fuel` of proofs/Region)
unfoldable pub chunks : Width → Opening → (ℕ → ℕ) → ℕ → ℕ → ℕ → List Report
chunks v u mem zero a l = []
chunks v u mem (suc fuel) a l =
    pick (eqb l 0) []
    (let n = min (chunk_of u) l in
    chunk v u mem a n ++ chunks v u mem fuel (a + n) (l - n))

-- how many chunks: l / 4096 rounded up
abbrev pub chunk_count : Opening → ℕ → ℕ
chunk_count u l = chunks_in (chunk_of u) l

-- the regions of the entries is of the table t, with r memory reads before them. "Last comes finished (3) with the count: one for the table, one a
-- chunk."
unfoldable pub regions : Width → Opening → (ℕ → ℕ) → List ℕ → List ℕ → ℕ → List Report
regions v u mem t [] r = finished Finish.Dumped r ∷ []
regions v u mem t (i ∷ is) r =
    let e = entry_of (field_size v) t i in
    let l = length_of (field_size v) e in
    opened i ∷ (chunks v u mem l (base_of (field_size v) e) l ++ (closed i ∷ regions v u mem t is (r + chunk_count u l)))

-- ---- the whole: "its MemRead64 is reported, and the table is the memory's bytes there"; of 32 bits its MemRead

abbrev pub table_in : (ℕ → ℕ) → Debug → List ℕ
table_in mem dbg = bytes_at mem dbg.address dbg.size

-- its selected entries
abbrev pub selected_in : (ℕ → ℕ) → List ℕ → Debug → List ℕ
selected_in mem names dbg = chosen (field_in dbg) names (table_in mem dbg) (entries_in (field_in dbg) dbg.size) 0

-- what stands after the memory debug is not looked at (the claim's premises have none)
unfoldable pub dump : Opening → (ℕ → ℕ) → List ℕ → Ending → List Report
dump u mem names Stopped = []
dump u mem names Responded = []
dump u mem names (Debugged dbg s) =
    sent (bytes_of (Q.MemRead dbg.width dbg.address dbg.size))
    ∷ regions dbg.width u mem (table_in mem dbg) (selected_in mem names dbg) 1

unfoldable pub reports_of : Opening → (ℕ → ℕ) → List ℕ → Heard → List Report
reports_of u mem names h = h.said ++ dump u mem names h.ending

-- "It is fed the session's opening, image set, names, buffer sizes, the device's opening bytes as one string, and its memory."
pub record Setting : Type 0 where
  pub opening : Opening
  pub set : List ℕ
  pub names : List ℕ
  pub table : List ℕ
  pub reply : List ℕ
  pub out : List ℕ
  pub bytes : List ℕ
  pub mem : ℕ → ℕ

-- what it hears of the opening bytes; of the buffers it looks at the sizes alone
abbrev pub heard_of : Setting → Heard
heard_of c = hosted c.opening c.set c.names (length c.table) (length c.reply) (length c.out) c.bytes

unfoldable pub plain : Setting → List Report
plain c = reports_of c.opening c.mem c.names (heard_of c)
