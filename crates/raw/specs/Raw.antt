-- A session, and what a step gives, as plain numbers, as they cross to C and Rust. Document 01, "Session": what it is opened with, the phases and their
-- counts, "go .. refused". Three laws stand in proofs/Laws: a session's numbers are read back as it, they are a session's, and numbers that are a
-- session's are those of the session that they are read as.
use Rattle.std.specs.Prelude.{ℕ, Bool, true, false, ltb, eqb, get_or, replicate, is_ok, Option, Some, None, Result, Ok, Err}
use Rattle.base.specs.Choice.{pick}
pub use Rattle.field.specs.Width.{width_number}
use Rattle.field.specs.declared.Width.{Width}
use Rattle.field.specs.declared.Width.TheVariants as WI
use Rattle.command.specs.Command.{mode_number, command_number, mode_of, command_of}
use Rattle.command.specs.declared.SaharaMode.{SaharaMode}
use Rattle.command.specs.declared.SaharaMode.TheVariants as M
pub use Rattle.verdict.specs.Backend.{backend_number}
use Rattle.verdict.specs.declared.QdlBackend.{QdlBackend}
use Rattle.verdict.specs.declared.QdlBackend.TheVariants as U
use Rattle.verdict.specs.declared.Opening.{Opening}
use Rattle.session.specs.declared.Filling.{Filling}
use Rattle.session.specs.declared.Region.{Region}
use Rattle.session.specs.declared.Phase.{Phase}
use Rattle.session.specs.declared.Phase.TheVariants as P
use Rattle.session.specs.declared.Session.{Session}
use Rattle.session.specs.declared.Answer.{Answer}
use Rattle.session.specs.declared.Answer.TheVariants as A
use Rattle.session.specs.declared.Stepped.{Stepped}
use Rattle.session.specs.Outcome.{opened_with, filling, region}
use Rattle.session.specs.Answers.{answer_number, answer_values}
use Rattle.raw.specs.declared.Counts.{Counts}
use Rattle.raw.specs.declared.RawSession.{RawSession}
use Rattle.raw.specs.declared.RawStepped.{RawStepped}
use Rattle.raw.specs.declared.RawPlaced.{RawPlaced}
use Rattle.raw.specs.declared.RawTold.{RawTold}
use Rattle.command.specs.declared.SaharaCmdModeCmd.{SaharaCmdModeCmd}
use Rattle.refusal.specs.declared.Refusal.{Refusal}

-- ---- "Opened with mode, command or none, backend"

-- none is 2^32 - 1
abbrev pub exec_number : Option SaharaCmdModeCmd → ℕ
exec_number (Some c) = command_number c
exec_number None = 0xFFFFFFFF

-- what a number names; one that names nothing is read as mode 0, as no command, as serial
abbrev pub mode_in : Result SaharaMode Refusal → SaharaMode
mode_in (Ok m) = m
mode_in (Err why) = M.WaitingForImage

abbrev pub exec_in : Result SaharaCmdModeCmd Refusal → Option SaharaCmdModeCmd
exec_in (Ok c) = Some c
exec_in (Err why) = None

abbrev pub backend_of : ℕ → QdlBackend
backend_of n = pick (eqb n 1) U.Usb U.Serial

abbrev pub opening_of : ℕ → ℕ → ℕ → Opening
opening_of m c b = record { mode = mode_in (mode_of m); command = exec_in (command_of c); backend = backend_of b }

-- the numbers that name something
abbrev pub is_mode : ℕ → Bool
is_mode n = is_ok (mode_of n)

abbrev pub exec_named : ℕ → Result SaharaCmdModeCmd Refusal → Bool
exec_named n (Ok c) = true
exec_named n (Err why) = eqb n 0xFFFFFFFF

abbrev pub is_exec : ℕ → Bool
is_exec n = exec_named n (command_of n)

abbrev pub is_opening : ℕ → ℕ → ℕ → Bool
is_opening m c b = pick (is_mode m) (pick (is_exec c) (ltb b 2) false) false

-- ---- the width of the memory debug that came, in bits (document 02, request 2)

-- a number that is no width's is read as 64 bits
abbrev pub width_of : ℕ → Width
width_of n = pick (eqb n 32) WI.Bits32 WI.Bits64

abbrev pub is_width : ℕ → Bool
is_width n = pick (eqb n 32) true (eqb n 64)

-- ---- the phase and its counts: packet 0, response 1, switched 2, table 3, between 4, region 5, ended 6

-- a phase that is no region's: a count, and a place where it has one, else 0
abbrev pub counts : ℕ → ℕ → ℕ → Counts
counts n k i = record { phase = n; count = k; at = i; base = 0; len = 0; done = 0; outstanding = 0; due = 0 }

abbrev pub counts_of : Phase → Counts
counts_of (P.Packet h) = counts 0 h 0
counts_of (P.Response x) = counts 1 x.declared x.filled
counts_of (P.Switched k) = counts 2 k 0
counts_of (P.Table x) = counts 3 x.declared x.filled
counts_of (P.Between k i) = counts 4 k i
counts_of (P.Region k x) =
    record {
      phase = 5;
      count = k;
      at = x.entry;
      base = x.base;
      len = x.len;
      done = x.done;
      outstanding = x.outstanding;
      due = pick x.due 1 0;
    }
counts_of (P.Ended k) = counts 6 k 0

abbrev pub filling_in : RawSession → Filling
filling_in r = filling r.count r.at

abbrev pub region_in : RawSession → Region
region_in r = region r.at r.base r.len r.done r.outstanding (eqb r.due 1)

-- a number that is no phase's is read as ended
unfoldable pub phase_of : RawSession → Phase
phase_of r =
    pick (eqb r.phase 0) (P.Packet r.count)
    (pick (eqb r.phase 1) (P.Response (filling_in r))
    (pick (eqb r.phase 2) (P.Switched r.count)
    (pick (eqb r.phase 3) (P.Table (filling_in r))
    (pick (eqb r.phase 4) (P.Between r.count r.at)
    (pick (eqb r.phase 5) (P.Region r.count (region_in r)) (P.Ended r.count))))))

-- a region's own numbers are 0; and the place
abbrev pub no_region : RawSession → Bool
no_region r =
    pick (eqb r.base 0) (pick (eqb r.len 0) (pick (eqb r.done 0) (pick (eqb r.outstanding 0) (eqb r.due 0) false) false) false) false

abbrev pub no_place : RawSession → Bool
no_place r = pick (eqb r.at 0) (no_region r) false

-- the numbers are a phase's: those that it does not use are 0
unfoldable pub is_phase : RawSession → Bool
is_phase r =
    pick (eqb r.phase 0) (no_place r)
    (pick (eqb r.phase 1) (no_region r)
    (pick (eqb r.phase 2) (no_place r)
    (pick (eqb r.phase 3) (no_region r)
    (pick (eqb r.phase 4) (no_region r)
    (pick (eqb r.phase 5) (ltb r.due 2)
    (pick (eqb r.phase 6) (no_place r) false))))))

-- ---- the session

abbrev pub raw_with : Session → Counts → RawSession
raw_with s k =
    record {
      mode = mode_number s.opening.mode;
      command = exec_number s.opening.command;
      backend = backend_number s.opening.backend;
      phase = k.phase;
      reads = s.reads;
      count = k.count;
      at = k.at;
      base = k.base;
      len = k.len;
      done = k.done;
      outstanding = k.outstanding;
      due = k.due;
      width = width_number s.width;
      window = s.window;
    }

-- a session's numbers
unfoldable pub raw_of : Session → RawSession
raw_of s = raw_with s (counts_of s.phase)

-- the session that numbers are read as
unfoldable pub session_of : RawSession → Session
session_of r =
    record {
      opening = opening_of r.mode r.command r.backend;
      reads = r.reads;
      width = width_of r.width;
      window = r.window;
      phase = phase_of r;
    }

-- whether numbers are a session's
unfoldable pub is_session : RawSession → Bool
is_session r = pick (is_opening r.mode r.command r.backend) (pick (is_width r.width) (is_phase r) false) false

-- three numbers and nothing else, of 64 bits
abbrev pub bare : ℕ → ℕ → ℕ → RawSession
bare m c b =
    record {
      mode = m;
      command = c;
      backend = b;
      phase = 0;
      reads = 0;
      count = 0;
      at = 0;
      base = 0;
      len = 0;
      done = 0;
      outstanding = 0;
      due = 0;
      width = 64;
      window = replicate 48 0;
    }

-- opened: where the numbers name no opening they come back bare, which is no session (`opened_is` of proofs/Laws)
unfoldable pub opened_raw : ℕ → ℕ → ℕ → RawSession
opened_raw m c b = pick (is_opening m c b) (raw_of (opened_with (opening_of m c b))) (bare m c b)

-- ---- what a step gives

-- what is told beside the session: bytes taken, the answer's number and its values
abbrev pub told_of : ℕ → Answer → RawTold
told_of k a =
    record { taken = k; first = get_or (answer_values a) 0 0; second = get_or (answer_values a) 1 0; answer = answer_number a }

-- a session's numbers, and what is told
abbrev pub stepped_at : RawSession → RawTold → RawStepped
stepped_at s r = record { session = s; taken = r.taken; first = r.first; second = r.second; answer = r.answer }

-- what a step in place gives: what is told
abbrev pub told_in : RawPlaced → RawTold
told_in r = record { taken = r.taken; first = r.first; second = r.second; answer = r.answer }

unfoldable pub raw_stepped : Stepped → RawStepped
raw_stepped s = stepped_at (raw_of s.session) (told_of s.taken s.answer)

-- refused, the numbers as they were; of a session's it is what the session's own refusal gives (`refused_told` of proofs/Laws)
abbrev pub refused_raw : RawSession → Refusal → RawStepped
refused_raw r why = stepped_at r (told_of 0 (A.Refused why))
