-- Any host before a device that says a fixed string of bytes, whatever it is sent: it may answer a command, lie, say more than it was asked, or break off.
-- Worlds
-- and steps are those of fetch/specs/Device, but that no step queues anything: the queue is what is left of the string. A setting's bytes are the string; its
-- memory plays no part. `see` is the session that a host's state stands for.
use Rattle.std.specs.Prelude.{ℕ, ◌⊎◌, Bool, not, ◌&&◌, ◌||◌, List, [], ◌∷◌, ◌++◌, map, eqb, T, length}
use Rattle.base.specs.Choice.{pick}
use Rattle.session.specs.declared.Phase.{Phase}
use Rattle.session.specs.declared.Session.{Session}
use Rattle.session.specs.declared.Answer.{Answer}
use Rattle.session.specs.declared.Answer.TheVariants as A
use Rattle.refusal.specs.declared.Refusal.{Refusal}
use Rattle.waiting.specs.Wanted.{needs_bytes}
use Rattle.steps.specs.Steps.{Throughout, outs, counted}
use Rattle.fetch.specs.Plain.{Report, Setting}
use Rattle.fetch.specs.Device.{Host, Delivery, first, another, Lent, lent, delivered, all_own, left, reports_for, aside, World, world_after, made}

-- ---- what a step shows: its reports, as in demand 3, and beside them a refusal that ends the session

pub data Event : Type 0 where
  does : Report → Event
  refuses : Refusal → Event

-- 1, 2, 3, 4 and 18 end nothing, and show nothing
abbrev pub refusals_for : Answer → List Event
refusals_for A.Go = []
refusals_for (A.Send k) = []
refusals_for (A.Image x k) = []
refusals_for (A.Open i) = []
refusals_for (A.Bytes k) = []
refusals_for A.EmptyRead = []
refusals_for (A.Close i) = []
refusals_for (A.Finished how r) = []
refusals_for (A.Refused why) = pick (aside (A.Refused why)) [] (refuses why ∷ [])

-- by the answer, the delivery, the image set and the out buffer
abbrev pub events_for : Answer → List ℕ → List ℕ → List ℕ → List Event
events_for a d set o = map does (reports_for a d set o) ++ refusals_for a

-- ---- a list of steps

-- some of the bytes that are left, from the first on, or none of them; no others
abbrev pub FromQueue : Delivery → Type 0
FromQueue (first k) = Unit
FromQueue (another d) = ⊥

-- a time-out: in phase p bytes are needed and some are left, q, and none are delivered, d
abbrev pub lacks : Phase → List ℕ → List ℕ → Bool
lacks p q d = needs_bytes p && not (eqb (length q) 0) && eqb (length d) 0

module _ (h : Host) (c : Setting) where
  -- the world after a step: bytes that were taken leave the string
  abbrev pub next_over : World h.State → Lent → World h.State
  next_over w l = let r = made h c w l in world_after w l r (left l.delivery r.taken w.queue)

  -- lent the run's own things *and* (×) some of what is left of the string; *or* (⊎) refused with 1, 2, 3, 4 or 18, and then lent anything. Demand 3's fair
  -- steps
  -- are such steps (`in_demand_words` of proofs/Corollaries goes over to them): here a delivery may be empty at any time
  abbrev pub FairOver : World h.State → Lent → Type 0
  FairOver w l = (T (all_own l) × FromQueue l.delivery) ⊎ T (aside (made h c w l).answer)

  -- every step of the list is fair
  abbrev pub RunOver : World h.State → List Lent → Type 0
  RunOver w ls = Throughout next_over FairOver w ls

  abbrev pub events_by : World h.State → Lent → List Event
  events_by w l = let r = made h c w l in events_for r.answer (delivered l.delivery w.queue) (lent l.set c.set) r.out

  -- what the list shows
  abbrev pub events : World h.State → List Lent → List Event
  events w ls = outs next_over events_by w ls

  module _ (see : h.State → Session) where
    -- all but a time-out; a step that is refused so is none
    abbrev pub is_fed : World h.State → Lent → Bool
    is_fed w l = not (lacks (see w.state).phase w.queue (delivered l.delivery w.queue)) || aside (made h c w l).answer

    -- how many steps were lent the run's own things and were no time-outs, whatever their answers
    abbrev pub owns_fed : World h.State → List Lent → ℕ
    owns_fed w ls = counted next_over (λ v l. all_own l && is_fed v l) w ls
