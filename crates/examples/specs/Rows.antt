-- The computed table. Document 01, "Lengths, modes and stems": "To be proved together, as one computed table". An example has what the definitions give and
-- what 01 says, or document 02 where a request changed it. The theorem is `table` of proofs/Table.antt.
use Rattle.std.specs.Prelude.{ℕ, ◌+◌, ◌-◌, ◌^◌, Bool, true, false, List, [], ◌∷◌, ◌++◌, length, replicate, take, None, Result, Ok, Err}
use Rattle.base.specs.Choice.{pick}
use Rattle.field.specs.Field.{le_bytes, field_size, fields, words}
use Rattle.field.specs.declared.Width.{Width}
use Rattle.field.specs.declared.Width.TheVariants as WI
use Rattle.command.specs.declared.SaharaMode.{SaharaMode}
use Rattle.command.specs.declared.SaharaMode.TheVariants as M
use Rattle.build.specs.Build.{bytes_of}
use Rattle.build.specs.declared.Request.TheVariants as Q
use Rattle.packet.specs.Packet.{length_checked}
use Rattle.image.specs.Image.{range_of}
use Rattle.tidied.specs.Tidy.{tidy_of}
use Rattle.selection.specs.Selection.{same, selected}
use Rattle.verdict.specs.Verdict.{finish_number, verdict_of}
use Rattle.verdict.specs.declared.QdlBackend.TheVariants as U
use Rattle.verdict.specs.declared.Opening.{Opening}
use Rattle.verdict.specs.declared.Verdict.{Verdict}
use Rattle.verdict.specs.declared.Verdict.TheVariants as W
use Rattle.session.specs.declared.Phase.{Phase}
use Rattle.session.specs.declared.Phase.TheVariants as P
use Rattle.session.specs.declared.Session.{Session}
use Rattle.session.specs.declared.Answer.{Answer}
use Rattle.session.specs.declared.Answer.TheVariants as A
use Rattle.session.specs.Outcome.{opened_with, in_phase, of_width, filling, region, Outcome}
use Rattle.session.specs.FillingPhase.{response_of}
use Rattle.session.specs.Step.{step_of}
use Rattle.refusal.specs.Refusal.{refusal_number}
use Rattle.refusal.specs.declared.Refusal.{Refusal}

-- what an example says: accepted, refused with a number, finished with a number, bytes of a set, a stem that matches or not, a packet sent, a region opened or
-- closed, so many bytes of it handed out, an empty read
pub data Says : Type 0 where
  ok : Says
  refused : ℕ → Says
  finish : ℕ → Says
  given : ℕ → ℕ → Says
  matches : Bool → Says
  sends : List ℕ → Says
  opens_region : ℕ → Says
  closes_region : ℕ → Says
  hands_out : ℕ → Says
  reads_empty : Says

-- a saying as numbers: which it is, and its values
abbrev pub numbers : Says → List ℕ
numbers ok = 0 ∷ []
numbers (refused why) = 1 ∷ why ∷ []
numbers (finish how) = 2 ∷ how ∷ []
numbers (given start k) = 3 ∷ start ∷ k ∷ []
numbers (matches true) = 4 ∷ 1 ∷ []
numbers (matches false) = 4 ∷ 0 ∷ []
numbers (sends bytes) = 5 ∷ bytes
numbers (opens_region i) = 6 ∷ i ∷ []
numbers (closes_region i) = 7 ∷ i ∷ []
numbers (hands_out k) = 8 ∷ k ∷ []
numbers reads_empty = 9 ∷ []

-- ---- how each operation's answer is said

abbrev pub of_length : Result Unit Refusal → Says
of_length (Ok tt) = ok
of_length (Err why) = refused (refusal_number why)

abbrev pub of_verdict : Result Verdict Refusal → Says
of_verdict (Ok (W.Reply q)) = sends (bytes_of q)
of_verdict (Ok (W.Image x k)) = given x k
of_verdict (Ok W.Pass) = ok
of_verdict (Ok (W.Finish how)) = finish (finish_number how)
of_verdict (Ok (W.Respond c k)) = ok
of_verdict (Ok (W.Debug v a k)) = sends (bytes_of (Q.MemRead v a k))
of_verdict (Err why) = refused (refusal_number why)

abbrev pub of_range : Result (ℕ × ℕ) Refusal → Says
of_range (Ok (x, k)) = given x k
of_range (Err why) = refused (refusal_number why)

-- a step's answer, by the out buffer that it leaves
abbrev pub of_answer : Answer → List ℕ → Says
of_answer A.Go o = ok
of_answer (A.Send k) o = sends (take k o)
of_answer (A.Image x k) o = given x k
of_answer (A.Open i) o = opens_region i
of_answer (A.Bytes k) o = hands_out k
of_answer A.EmptyRead o = reads_empty
of_answer (A.Close i) o = closes_region i
of_answer (A.Finished how r) o = finish (finish_number how)
of_answer (A.Refused why) o = refused (refusal_number why)

-- ---- the inputs

-- a packet of a command, a length and body bytes
abbrev pub packet : ℕ → ℕ → List ℕ → List ℕ
packet cmd len body = le_bytes 4 cmd ++ (le_bytes 4 len ++ body)

-- version 2, compatible 1, a word of 0 (the greatest length or the status), a mode, six words of 0, and more
abbrev pub greeting : ℕ → List ℕ → List ℕ
greeting mode rest = le_bytes 4 2 ++ (le_bytes 4 1 ++ (le_bytes 4 0 ++ (le_bytes 4 mode ++ (replicate 24 0 ++ rest))))

-- a hello of a length and a mode, and a hello response of a mode
abbrev pub hello : ℕ → ℕ → List ℕ → List ℕ
hello len mode rest = packet 1 len (greeting mode rest)

abbrev pub hello_resp : ℕ → List ℕ
hello_resp mode = packet 2 48 (greeting mode [])

abbrev pub opening : SaharaMode → Opening
opening m = record { mode = m; command = None; backend = U.Serial }

-- a set of no image, of one of 10 bytes, and of two
abbrev pub none : List ℕ
none = replicate 8 0

abbrev pub ten : List ℕ
ten = le_bytes 4 1 ++ (le_bytes 4 10 ++ (le_bytes 4 0 ++ (le_bytes 4 10 ++ replicate 10 7)))

abbrev pub two : List ℕ
two = le_bytes 4 2 ++ (le_bytes 4 10 ++ (le_bytes 4 0 ++ (le_bytes 4 5 ++ (le_bytes 4 5 ++ (le_bytes 4 5 ++ replicate 10 7)))))

-- "A set with one image and an absent second slot": the image has 10 bytes and starts behind a gap of 3. And its tidy form, which has 34 bytes
abbrev pub one_of_two : List ℕ
one_of_two = words (2 ∷ 13 ∷ 3 ∷ 0xFFFFFFFF ∷ 10 ∷ 0 ∷ []) ++ (replicate 3 0 ++ replicate 10 7)

abbrev pub tidy : List ℕ
tidy = (tidy_of one_of_two (replicate 34 0)).to

-- a whole packet, a set being lent, in a session opened with a mode; without images, and with mode 0
abbrev pub judged_with : List ℕ → SaharaMode → List ℕ → Says
judged_with set m p = of_verdict (verdict_of (opening m) set 65536 4096 p)

abbrev pub judged_in : SaharaMode → List ℕ → Says
judged_in = judged_with none

abbrev pub judged : List ℕ → Says
judged = judged_in M.WaitingForImage

-- a ReadData of an image's first 10 bytes, and a DoneResp of status 0
abbrev pub serves : List ℕ → ℕ → Says
serves set id = judged_with set M.WaitingForImage (packet 3 20 (fields 4 (id ∷ 0 ∷ 10 ∷ [])))

abbrev pub done : List ℕ → Says
done set = judged_with set M.WaitingForImage (packet 6 12 (le_bytes 4 0))

-- what is sent when a response is whole, here one without bytes, in a session opened with a mode
abbrev pub switched : SaharaMode → Says
switched m = sends (take 12 (response_of (opened_with (opening m)) (filling 0 0) [] [] [] (replicate 48 0)).out)

-- a list of one name, and an entry with a filename
abbrev pub name : List ℕ → List ℕ
name s = le_bytes 4 1 ++ (le_bytes 4 (length s) ++ (le_bytes 4 0 ++ (le_bytes 4 (length s) ++ s)))

abbrev pub entry : List ℕ → List ℕ
entry file = replicate 44 0 ++ (file ++ replicate 20 0)

-- "OCIMEM.BIN", "ocimem", "DDRCS0", "ddrcs0"
abbrev pub OCIMEM·BIN : List ℕ
OCIMEM·BIN = 79 ∷ 67 ∷ 73 ∷ 77 ∷ 69 ∷ 77 ∷ 46 ∷ 66 ∷ 73 ∷ 78 ∷ []

abbrev pub ocimem : List ℕ
ocimem = 111 ∷ 99 ∷ 105 ∷ 109 ∷ 101 ∷ 109 ∷ []

abbrev pub DDRCS0 : List ℕ
DDRCS0 = 68 ∷ 68 ∷ 82 ∷ 67 ∷ 83 ∷ 48 ∷ []

abbrev pub ddrcs0 : List ℕ
ddrcs0 = 100 ∷ 100 ∷ 114 ∷ 99 ∷ 115 ∷ 48 ∷ []

-- ---- memory debug of a width

-- a packet with an address and a length, and more
abbrev pub memory : Width → ℕ → ℕ → ℕ → ℕ → List ℕ → List ℕ
memory v cmd len a k rest = packet cmd len (fields (field_size v) (a ∷ k ∷ []) ++ rest)

-- MemRead and MemRead64
abbrev pub mem_read : Width → ℕ → ℕ → List ℕ
mem_read WI.Bits32 a k = memory WI.Bits32 0x0a 16 a k []
mem_read WI.Bits64 a k = memory WI.Bits64 0x11 24 a k []

-- a table of one entry, whose preference is 1: "preference, base and length .., then the two 20-byte texts"
abbrev pub one_entry : Width → ℕ → ℕ → List ℕ
one_entry v base len = fields (field_size v) (1 ∷ base ∷ len ∷ []) ++ (replicate 20 0 ++ (OCIMEM·BIN ++ replicate 10 0))

-- a step of a session, without images and names
abbrev pub outcome_of : Session → List ℕ → List ℕ → Outcome
outcome_of s d t = step_of s d none none t [] (replicate 48 0)

abbrev pub said : Outcome → Says
said r = of_answer r.stepped.answer r.out

-- of a width in a phase
abbrev pub steps : Width → Phase → List ℕ → List ℕ → Says
steps v p d t = said (outcome_of (of_width (in_phase (opened_with (opening M.MemoryDebug)) p) v) d t)

-- the step after open: base and length are of a table
abbrev pub after_open : Width → ℕ → ℕ → Says
after_open v base len =
    let t = one_entry v base len in
    let s = of_width (in_phase (opened_with (opening M.MemoryDebug)) (P.Between (length t) 0)) v in
    said (outcome_of (outcome_of s [] t).stepped.session [] t)

-- made up: a region with this base and length, so much done and so much outstanding, all of which comes
abbrev pub mid_region : Width → ℕ → ℕ → ℕ → ℕ → Says
mid_region v base len done outstanding =
    let t = one_entry v base len in
    steps v (P.Region (length t) (region 0 base len done outstanding false)) (replicate outstanding 7) t

-- made up: a region with this base and length, nothing done, and an empty read due
abbrev pub due_region : Width → ℕ → ℕ → Says
due_region v base len =
    let t = one_entry v base len in
    steps v (P.Region (length t) (region 0 base len 0 0 true)) [] t

-- inside region i of a table of 65,536 bytes, one byte outstanding, which comes
abbrev pub at_entry : Width → ℕ → Says
at_entry v i = steps v (P.Region 65536 (region i 0 1 0 1 false)) (7 ∷ []) (replicate 65536 0)

-- ---- the table

pub record Example : Type 0 where
  pub gives : Says
  pub says : Says

abbrev pub example : Says → Says → Example
example g s = record { gives = g; says = s }

-- 01's, in its order; "The case for mode 1 in document 01 becomes accepted" (document 02, request 1): it was "Hello of mode 1 (9)"
unfoldable pub rows : List Example
rows =
    example (of_length (length_checked 7)) (refused 5)
    ∷ example (of_length (length_checked 8)) ok
    ∷ example (of_length (length_checked 4096)) ok
    ∷ example (of_length (length_checked 4097)) (refused 5)
    ∷ example (judged (hello 48 1 [])) (sends (hello_resp 0))
    ∷ example (judged (hello 49 0 (0 ∷ []))) (refused 11)
    ∷ example (judged (packet 6 16 (le_bytes 4 1 ++ replicate 4 0))) (finish 1)
    ∷ example (of_range (range_of ten 0 4 6)) (given (16 + 4) 6)
    ∷ example (of_range (range_of ten 0 4 7)) (refused 13)
    ∷ example (of_range (range_of ten 0 10 0)) (given (16 + 10) 0)
    ∷ example (of_range (range_of ten 9 0 10)) (given 16 10)
    ∷ example (of_range (range_of two 9 0 1)) (refused 12)
    ∷ example (matches (selected 8 (name ocimem) (entry OCIMEM·BIN))) (matches true)
    ∷ example (matches (selected 8 (name ddrcs0) (entry DDRCS0))) (matches false)
    ∷ []

-- what comes with that: a session opened with mode 1 answers with it, and still sends SwitchMode with 0; mode 4 stays 9; HelloResp of mode 1 is 10, Hello of 49
-- is 11
unfoldable pub mode_one : List Example
mode_one =
    example (judged_in M.ImageTransferComplete (hello 48 1 [])) (sends (hello_resp 1))
    ∷ example (switched M.ImageTransferComplete) (sends (packet 0x0c 12 (le_bytes 4 0)))
    ∷ example (judged (hello 48 4 [])) (refused 9)
    ∷ example (judged (hello_resp 1)) (refused 10)
    ∷ example (judged (hello 49 1 (0 ∷ []))) (refused 11)
    ∷ []

-- document 02, request 2
unfoldable pub old_boards : List Example
old_boards =
    -- "After MemDebug the host .. sends MemRead for the table": "an address and a length of 4 bytes"
    example (judged (memory WI.Bits32 9 16 4096 104 [])) (sends (mem_read WI.Bits32 4096 104))
    -- a table whose own end passes 2^32 is not refused
    ∷ example (judged (memory WI.Bits32 9 16 0xFFFFFFFF 104 [])) (sends (mem_read WI.Bits32 0xFFFFFFFF 104))
    -- "MemDebug must be exactly 16 bytes long, else 11"; below 16 its body is short, 9
    ∷ example (judged (memory WI.Bits32 9 17 4096 104 (0 ∷ []))) (refused 11)
    ∷ example (judged (take 15 (memory WI.Bits32 9 15 4096 104 []))) (refused 9)
    -- "MemRead received from a device is 10"; below 16 bytes 9
    ∷ example (judged (memory WI.Bits32 0x0a 16 4096 104 [])) (refused 10)
    ∷ example (judged (take 15 (memory WI.Bits32 0x0a 15 4096 104 []))) (refused 9)
    -- "Their table entries are 52 bytes", "the entries are length / 52"; of 64 bits 52 bytes are none
    ∷ example (steps WI.Bits32 (P.Between 52 0) [] (one_entry WI.Bits32 0 1)) (opens_region 0)
    ∷ example (steps WI.Bits64 (P.Between 52 0) [] (one_entry WI.Bits32 0 1)) (finish 3)
    -- "24 when a selected 32-bit region has base + length above 2^32, in the place of 22": it may end at 2^32, and one of 64 bits may pass it
    ∷ example (after_open WI.Bits32 0xFFFFFFFF 1) (sends (mem_read WI.Bits32 0xFFFFFFFF 1))
    ∷ example (after_open WI.Bits32 0xFFFFFFFF 2) (refused 24)
    ∷ example (after_open WI.Bits64 0xFFFFFFFF 2) (sends (mem_read WI.Bits64 0xFFFFFFFF 2))
    ∷ example (after_open WI.Bits64 (2 ^ 64 - 1) 2) (refused 22)
    -- the same of a session made up, whose base passes 4 bytes
    ∷ example (mid_region WI.Bits32 (2 ^ 32) 0 0 0) (closes_region 0)
    ∷ example (mid_region WI.Bits32 (2 ^ 32 + 1) 0 0 0) (refused 24)
    -- "an empty read first if one is due"
    ∷ example (due_region WI.Bits32 (2 ^ 32 + 1) 0) reads_empty
    -- "For such a session the limit of base plus length under 18 is 2^32", once anything is done or outstanding
    ∷ example (mid_region WI.Bits32 0xFFFFFFFF 2 0 2) (refused 18)
    ∷ example (mid_region WI.Bits32 0xFFFFFFFF 2 1 0) (refused 18)
    ∷ example (mid_region WI.Bits32 0xFFFFFFFE 2 0 2) (hands_out 2)
    ∷ example (mid_region WI.Bits64 0xFFFFFFFF 2 0 2) (hands_out 2)
    -- 65,536 bytes are 1,260 entries of 52, and 1,024 of 64: "entry number, the table's entries, inside a region one fewer" (18)
    ∷ example (at_entry WI.Bits32 1259) (hands_out 1)
    ∷ example (at_entry WI.Bits32 1260) (refused 18)
    ∷ example (at_entry WI.Bits64 1023) (hands_out 1)
    ∷ example (at_entry WI.Bits64 1024) (refused 18)
    ∷ []

-- document 02, request 7: such a set serves its image under ID 0 alone, before and after tidying, and a DoneResp of status 0 does not finish
unfoldable pub trailing : List Example
trailing =
    example (serves one_of_two 0) (given (24 + 3) 10)
    ∷ example (serves tidy 0) (given 24 10)
    ∷ example (serves one_of_two 1) (refused 12)
    ∷ example (serves tidy 1) (refused 12)
    ∷ example (done one_of_two) ok
    ∷ example (done tidy) ok
    -- one slot with these bytes, which it was tidied to before, serves every ID, and a DoneResp finishes
    ∷ example (serves ten 1) (given 16 10)
    ∷ example (done ten) (finish 1)
    ∷ []

abbrev pub all : List Example → Bool
all [] = true
all (r ∷ rs) = pick (same (numbers r.gives) (numbers r.says)) (all rs) false
