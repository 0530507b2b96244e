-- The bytes of the packet at hand, all of them, kept beside the session. A session keeps the first 48 (its window) and how many there are; what it does
-- with a packet is said here of all its bytes, in the words of document 01, "Session", *Packet*. `judged_whole` of proofs/Window: in every run it is so.
use Rattle.std.specs.Prelude.{ℕ, ◌-◌, ◌≡◌, false, List, [], ◌++◌, ltb, eqb, length, take}
use Rattle.base.specs.Choice.{pick}
use Rattle.packet.specs.Packet.{length_field, bad_length}
use Rattle.verdict.specs.Verdict.{verdict_of}
use Rattle.verdict.specs.declared.Opening.{Opening}
use Rattle.session.specs.declared.Phase.{Phase}
use Rattle.session.specs.declared.Phase.TheVariants as P
use Rattle.session.specs.declared.Session.{Session}
use Rattle.session.specs.declared.Answer.TheVariants as A
use Rattle.session.specs.Outcome.{held_in, opened_with, holding, ended, Outcome, outcome, gives}
use Rattle.session.specs.PacketPhase.{keep, acted}
use Rattle.session.specs.Limits.{held_limit}
use Rattle.session.specs.Step.{step_of}
use Rattle.refusal.specs.declared.Refusal.TheVariants as Refusal

-- the bytes held after a step with delivery d that took n and came to the session z, b having been held before: b and what was taken, or none where
-- none are held
abbrev pub held_after : List ℕ → List ℕ → Session → ℕ → List ℕ
held_after b d z n = pick (eqb (held_in z.phase) 0) [] (b ++ take n d)

-- while packets are read (the other phases say nothing), w being the window: what is held is within its limit, and no memory read was sent
abbrev pub FreshIn : Phase → List ℕ → ℕ → Type 0
FreshIn (P.Packet h) w reads = (held_limit w h ≡ false) × (reads ≡ 0)
FreshIn (P.Response x) w reads = Unit
FreshIn (P.Switched k) w reads = Unit
FreshIn (P.Table x) w reads = Unit
FreshIn (P.Between k i) w reads = Unit
FreshIn (P.Region k x) w reads = Unit
FreshIn (P.Ended k) w reads = Unit

-- the session counts the bytes b, its window begins with the first 48 of them (where more are held, it is these), and they are less than a packet
pub record HoldsBytes (s : Session) (b : List ℕ) : Type 0 where
  pub size : length s.window ≡ 48
  pub count : length b ≡ held_in s.phase
  pub same : take (held_in s.phase) s.window ≡ take 48 b
  pub fresh : FreshIn s.phase s.window s.reads

-- *Packet* with all the bytes b that are held: "take up to the packet's end, refusing at its eighth byte on a bad length; short of the end, go. Then" what
-- the verdict on the whole packet asks for: on those held and those taken (`packet_bytes_lem` of proofs/Packet)
unfoldable pub packet_over : Session → List ℕ → List ℕ → List ℕ → List ℕ → List ℕ → List ℕ → Outcome
packet_over s b d set t y o =
    let p = b ++ d in
    let n = length_field p - length b in
    let more = outcome (gives (holding s (keep s.window (length b) d) (P.Packet (length p))) (length d) A.Go) t y o in
    pick (ltb (length p) 8) more
    (pick (bad_length (length_field p)) (outcome (gives (ended s) (8 - length b) (A.Refused Refusal.PacketLength)) t y o)
    (pick (ltb (length p) (length_field p)) more
    (acted s n (keep s.window (length b) (take n d)) t y o
    (verdict_of s.opening set (length t) (length y) (take (length_field p) p)))))

-- ---- a run: any steps, each lent anything

-- what a step is lent
pub record StepLent : Type 0 where
  pub delivery : List ℕ
  pub set : List ℕ
  pub names : List ℕ
  pub table : List ℕ
  pub reply : List ℕ
  pub out : List ℕ

-- a step lent i
abbrev pub step_with : Session → StepLent → Outcome
step_with s i = step_of s i.delivery i.set i.names i.table i.reply i.out

-- the session, and the bytes of the packet at hand
pub record WithHeld : Type 0 where
  pub session : Session
  pub held : List ℕ

-- a session that was opened: none is held
abbrev pub opened_held : Opening → WithHeld
opened_held u = record { session = opened_with u; held = [] }

-- after a step lent i, refused or not
abbrev pub next_held : WithHeld → StepLent → WithHeld
next_held k i =
    let r = step_with k.session i in
    record { session = r.stepped.session; held = held_after k.held i.delivery r.stepped.session r.stepped.taken }
