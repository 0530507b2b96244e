-- Sessions in other phases, and what a step gives. Document 01, "Session": a step "tells the bytes taken and one answer"; Refusals, "Step, session and
-- buffers untouched, nothing taken". An outcome has all of it: the next session, the bytes taken, the answer, and each lent buffer as it is afterwards.
use Rattle.std.specs.Prelude.{ℕ, Bool, true, false, List, replicate}
use Rattle.field.specs.declared.Width.{Width}
use Rattle.field.specs.declared.Width.TheVariants as WI
use Rattle.verdict.specs.declared.Opening.{Opening}
use Rattle.session.specs.declared.Filling.{Filling}
use Rattle.session.specs.declared.Region.{Region}
use Rattle.session.specs.declared.Phase.{Phase}
use Rattle.session.specs.declared.Phase.TheVariants as P
use Rattle.session.specs.declared.Session.{Session}
use Rattle.session.specs.declared.Answer.{Answer}
use Rattle.session.specs.declared.Answer.TheVariants as A
use Rattle.session.specs.declared.Stepped.{Stepped}
use Rattle.refusal.specs.declared.Refusal.{Refusal}

-- "Opened with mode, command or none, backend": no packet byte is held. The width is that of the memory debug that came, 64 bits before (document 02, request 2)
abbrev pub opened_with : Opening → Session
opened_with u = record { opening = u; reads = 0; width = WI.Bits64; window = replicate 48 0; phase = P.Packet 0 }

-- a session in another phase; with another count of memory reads; with another window; of another width
abbrev pub in_phase : Session → Phase → Session
in_phase s p = record { opening = s.opening; reads = s.reads; width = s.width; window = s.window; phase = p }

abbrev pub reading : Session → ℕ → Phase → Session
reading s r p = record { opening = s.opening; reads = r; width = s.width; window = s.window; phase = p }

abbrev pub holding : Session → List ℕ → Phase → Session
holding s w p = record { opening = s.opening; reads = s.reads; width = s.width; window = w; phase = p }

abbrev pub of_width : Session → Width → Session
of_width s v = record { opening = s.opening; reads = s.reads; width = v; window = s.window; phase = s.phase }

-- a session that ends: all but the phase stays as it was before the step, the window too; the phase keeps the length of the response that came, else 0
abbrev pub ended : Session → Session
ended s = in_phase s (P.Ended 0)

abbrev pub filling : ℕ → ℕ → Filling
filling k n = record { declared = k; filled = n }

abbrev pub region : ℕ → ℕ → ℕ → ℕ → ℕ → Bool → Region
region i b l d k u = record { entry = i; base = b; len = l; done = d; outstanding = k; due = u }

-- how many bytes of a packet are held
abbrev pub held_in : Phase → ℕ
held_in (P.Packet h) = h
held_in (P.Response x) = 0
held_in (P.Switched k) = 0
held_in (P.Table x) = 0
held_in (P.Between k i) = 0
held_in (P.Region k x) = 0
held_in (P.Ended k) = 0

abbrev pub is_ended : Phase → Bool
is_ended (P.Packet h) = false
is_ended (P.Response x) = false
is_ended (P.Switched k) = false
is_ended (P.Table x) = false
is_ended (P.Between k i) = false
is_ended (P.Region k x) = false
is_ended (P.Ended k) = true

-- a step's whole outcome: next session, bytes taken, answer, and each lent buffer
pub record Outcome : Type 0 where
  pub stepped : Stepped
  pub table : List ℕ
  pub reply : List ℕ
  pub out : List ℕ

abbrev pub outcome : Stepped → List ℕ → List ℕ → List ℕ → Outcome
outcome r t y o = record { stepped = r; table = t; reply = y; out = o }

abbrev pub gives : Session → ℕ → Answer → Stepped
gives s n a = record { session = s; taken = n; answer = a }

-- refused with session and buffers untouched, nothing taken
abbrev pub untouched : Session → Refusal → List ℕ → List ℕ → List ℕ → Outcome
untouched s why t y o = outcome (gives s 0 (A.Refused why)) t y o
