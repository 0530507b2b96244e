-- Any host before a true device: the world of a run, from step to step, and what each step reports. Document 01, "Demand 3's list": "A true device queues
-- its opening bytes, then the memory's bytes for each memory read sent; bytes taken leave the queue." The host is a parameter: `definitions` below is the
-- one of session/specs/Step, others are in specs/Wrong and, as numbers, in the crate `fetch_raw`.
use Rattle.std.specs.Prelude.{ℕ, ◌<◌, ◌⊎◌, Bool, true, false, ◌&&◌, ◌||◌, List, [], ◌∷◌, ◌++◌, map, eqb, T, length, take, drop}
use Rattle.base.specs.Choice.{pick}
use Rattle.field.specs.Field.{field_size}
use Rattle.field.specs.declared.Width.{Width}
use Rattle.field.specs.declared.Width.TheVariants as WI
use Rattle.packet.specs.Packet.{address_in, length_in}
use Rattle.verdict.specs.declared.Opening.{Opening}
use Rattle.session.specs.declared.Session.{Session}
use Rattle.session.specs.declared.Answer.{Answer}
use Rattle.session.specs.declared.Answer.TheVariants as A
use Rattle.session.specs.Outcome.{Outcome, opened_with}
use Rattle.session.specs.Step.{step_of}
use Rattle.refusal.specs.Refusal.{refusal_number}
use Rattle.fetch.specs.Plain.{Report, sent, image, opened, byte, empty_read, closed, finished, reads_as, bytes_at, Setting}

-- ---- a host

-- what a step gives: the next state, the bytes taken, the answer, and each lent buffer as it is afterwards
pub record Given (S : Type 0) : Type 0 where
  pub state : S
  pub taken : ℕ
  pub answer : Answer
  pub table : List ℕ
  pub reply : List ℕ
  pub out : List ℕ

-- its states, how it is opened, and one step: state, delivery, image set, names, table, reply and out buffers
pub record Host : Type 1 where
  pub State : Type 0
  pub fresh : Opening → State
  pub step : State → List ℕ → List ℕ → List ℕ → List ℕ → List ℕ → List ℕ → Given State

abbrev pub given_of : Outcome → Given Session
given_of r =
    record {
      state = r.stepped.session;
      taken = r.stepped.taken;
      answer = r.stepped.answer;
      table = r.table;
      reply = r.reply;
      out = r.out;
    }

-- the host of the definitions
abbrev pub definitions : Host
definitions = record { State = Session; fresh = opened_with; step = λ s d set names t y o. given_of (step_of s d set names t y o) }

-- ---- what a step is lent

-- the image set, the names, a buffer: the run's own, or another
pub data Thing : Type 0 where
  own : Thing
  other : List ℕ → Thing

-- the first k bytes of the queue, or any other bytes
pub data Delivery : Type 0 where
  first : ℕ → Delivery
  another : List ℕ → Delivery

pub record Lent : Type 0 where
  pub delivery : Delivery
  pub set : Thing
  pub names : Thing
  pub table : Thing
  pub reply : Thing
  pub out : Thing

-- the bytes that are lent, x being the run's own; q the queue
abbrev pub lent : Thing → List ℕ → List ℕ
lent own x = x
lent (other y) x = y

abbrev pub delivered : Delivery → List ℕ → List ℕ
delivered (first k) q = take k q
delivered (another d) q = d

-- "the steps lent the run's own image set, names and buffers"
abbrev pub is_own : Thing → Bool
is_own own = true
is_own (other x) = false

abbrev pub all_own : Lent → Bool
all_own l = is_own l.set && is_own l.names && is_own l.table && is_own l.reply && is_own l.out

-- ---- the world after a step: what is the run's own takes what the outcome left in it, and the bytes taken leave the queue where the delivery is its

abbrev pub kept : Thing → List ℕ → List ℕ → List ℕ
kept own before after = after
kept (other x) before after = before

abbrev pub left : Delivery → ℕ → List ℕ → List ℕ
left (first k) taken q = drop taken q
left (another d) taken q = q

-- what the device queues when a packet is sent: the memory's bytes, where it is a memory read, by the address and the length in it. It answers either width,
-- whichever it offered: which one is sent, the reports tell
abbrev pub served_as : (ℕ → ℕ) → List ℕ → Width → List ℕ → List ℕ
served_as mem p v unread = pick (reads_as v p) (bytes_at mem (address_in (field_size v) p) (length_in (field_size v) p)) unread

unfoldable pub served : (ℕ → ℕ) → List ℕ → List ℕ
served mem p = served_as mem p WI.Bits32 (served_as mem p WI.Bits64 [])

abbrev pub queued : (ℕ → ℕ) → Answer → List ℕ → List ℕ
queued mem A.Go o = []
queued mem (A.Send k) o = served mem (take k o)
queued mem (A.Image x k) o = []
queued mem (A.Open i) o = []
queued mem (A.Bytes k) o = []
queued mem A.EmptyRead o = []
queued mem (A.Close i) o = []
queued mem (A.Finished how r) o = []
queued mem (A.Refused why) o = []

-- "Steps report in order what they sent, an image's bytes, each byte handed out alone, open, empty read, close, and finished with the memory reads; go
-- and refusals report nothing": by the answer, the delivery, the image set and the out buffer
abbrev pub reports_for : Answer → List ℕ → List ℕ → List ℕ → List Report
reports_for A.Go d set o = []
reports_for (A.Send k) d set o = sent (take k o) ∷ []
reports_for (A.Image x k) d set o = image (take k (drop x set)) ∷ []
reports_for (A.Open i) d set o = opened i ∷ []
reports_for (A.Bytes k) d set o = map byte (take k d)
reports_for A.EmptyRead d set o = empty_read ∷ []
reports_for (A.Close i) d set o = closed i ∷ []
reports_for (A.Finished how r) d set o = finished how r ∷ []
reports_for (A.Refused why) d set o = []

-- "A step refused with 1, 2, 3, 4 or 18 may be lent anything, any delivery included.": the refusals that touch nothing
abbrev pub aside : Answer → Bool
aside A.Go = false
aside (A.Send k) = false
aside (A.Image x k) = false
aside (A.Open i) = false
aside (A.Bytes k) = false
aside A.EmptyRead = false
aside (A.Close i) = false
aside (A.Finished how r) = false
aside (A.Refused why) = let n = refusal_number why in eqb n 1 || eqb n 2 || eqb n 3 || eqb n 4 || eqb n 18

-- "A delivery is a non-empty beginning of the queue, empty only when nothing is queued.": of a queue with bytes at least one, of an empty one any k; where
-- k passes the queue's end, all of it is delivered
abbrev pub Delivered : Delivery → List ℕ → Type 0
Delivered (first k) q = 0 < length q → 0 < k
Delivered (another d) q = ⊥

-- the host's state, the run's own buffers and the device's queue
pub record World (S : Type 0) : Type 0 where
  pub state : S
  pub table : List ℕ
  pub reply : List ℕ
  pub out : List ℕ
  pub queue : List ℕ

-- the world after a step lent l that gave r, with q queued then
abbrev pub world_after : {S : Type 0} → World S → Lent → Given S → List ℕ → World S
world_after w l r q =
    record {
      state = r.state;
      table = kept l.table w.table r.table;
      reply = kept l.reply w.reply r.reply;
      out = kept l.out w.out r.out;
      queue = q;
    }

module _ (h : Host) (c : Setting) where
  -- a fresh session, the run's buffers, and the opening bytes queued
  abbrev pub start : World h.State
  start = record { state = h.fresh c.opening; table = c.table; reply = c.reply; out = c.out; queue = c.bytes }

  abbrev pub made : World h.State → Lent → Given h.State
  made w l =
      h.step w.state (delivered l.delivery w.queue) (lent l.set c.set) (lent l.names c.names) (lent l.table w.table)
      (lent l.reply w.reply) (lent l.out w.out)

  abbrev pub next : World h.State → Lent → World h.State
  next w l =
      let r = made w l in
      record {
        state = r.state;
        table = kept l.table w.table r.table;
        reply = kept l.reply w.reply r.reply;
        out = kept l.out w.out r.out;
        queue = left l.delivery r.taken w.queue ++ queued c.mem r.answer r.out;
      }

  abbrev pub reported : World h.State → Lent → List Report
  reported w l = reports_for (made w l).answer (delivered l.delivery w.queue) (lent l.set c.set) (made w l).out

  -- lent the run's own things *and* (×) a delivery of the queue's; *or* (⊎) refused so. (T b: the test b holds)
  abbrev pub Fair : World h.State → Lent → Type 0
  Fair w l = (T (all_own l) × Delivered l.delivery w.queue) ⊎ T (aside (made w l).answer)
