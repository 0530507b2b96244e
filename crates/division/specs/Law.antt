-- The law at one step: of every session, opened or made up, and whatever it is lent. Lent d and then e, either d was enough and e is not looked at, or d is
-- taken
-- whole and the two steps come to what one step lent both comes to. It is `step_law` of proofs/Step.antt.
use Rattle.std.specs.Prelude.{ℕ, ◌+◌, ◌≡◌, false, List, ◌++◌, length}
use Rattle.session.specs.declared.Phase.{Phase}
use Rattle.session.specs.declared.Session.{Session}
use Rattle.session.specs.Outcome.{Outcome, is_ended}
use Rattle.session.specs.Step.{step_of}
use Rattle.waiting.specs.Waiting.{InOrder}
use Rattle.division.specs.Over.{Event, events_for}
use Rattle.division.specs.Claim.{in_packet, packet_ends, unwindowed}

-- what an outcome shows, of a delivery and an image set
abbrev pub events_of : Outcome → List ℕ → List ℕ → List Event
events_of r d set = events_for r.stepped.answer d set r.out

-- p is the outcome of the step lent d, from phase from; q of the step after it, lent e and what p left in the buffers; r of one step lent d ++ e
pub record Joined (from : Phase) (set names d e : List ℕ) (p q r : Outcome) : Type 0 where
  -- the session between them goes on, in the same kind of phase, and is refused with none of 1, 2, 3, 18
  pub live : is_ended p.stepped.session.phase ≡ false
  pub packet : in_packet p.stepped.session.phase ≡ in_packet from
  pub order : InOrder p.stepped.session set names p.table p.reply p.out
  pub all : p.stepped.taken ≡ length d
  pub taken : r.stepped.taken ≡ length d + q.stepped.taken
  pub session :
      unwindowed (packet_ends from r.stepped.session.phase) r.stepped.session
      ≡ unwindowed (packet_ends from r.stepped.session.phase) q.stepped.session
  pub table : r.table ≡ q.table
  pub reply : r.reply ≡ q.reply
  pub out : r.out ≡ q.out
  pub events : events_of r (d ++ e) set ≡ events_of p d set ++ events_of q e set

pub data Divides (from : Phase) (set names d e : List ℕ) (p q r : Outcome) : Type 0 where
  alone : r ≡ p → Divides from set names d e p q r
  joined : Joined from set names d e p q r → Divides from set names d e p q r

-- the step after one with outcome p, lent e and what p left
abbrev pub step_after : Outcome → List ℕ → List ℕ → List ℕ → Outcome
step_after p e set names = step_of p.stepped.session e set names p.table p.reply p.out

-- (a session's window is an array of 48 bytes; definitions see a list, so its length is said)
abbrev pub StepLaw : Type 0
StepLaw =
    (s : Session) (set names d e t y o : List ℕ) → length s.window ≡ 48
    → Divides s.phase set names d e (step_of s d set names t y o) (step_after (step_of s d set names t y o) e set names) (step_of s (d ++ e) set names t y o)
