-- The run of the definitions' host with one thing more, for the proof alone: the bytes of the packet that is held in part. The session's window keeps
-- only their first 48. Assumes nothing.
use mathlib.Core.List.{List, [], ◌++◌}
use Prim.Native.Nat.{ℕ}
use lib.Dec.{eqb}
use lib.ListN.{take, drop}
use Rattle.base.specs.Choice.{pick}
use Rattle.session.specs.declared.Session.{Session}
use Rattle.session.specs.Outcome.{held_in, Outcome}
use Rattle.session.specs.Step.{step_of}
use Rattle.fetch.specs.Plain.{Report, Setting}
use Rattle.fetch.specs.Device.{Lent, lent, delivered, kept, left, queued, reports_for, aside, World}

pub record Ghost : Type 0 where
  pub session : Session
  pub table : List ℕ
  pub reply : List ℕ
  pub out : List ℕ
  pub queue : List ℕ
  pub back : List ℕ

-- what is there without it
abbrev pub seen : Ghost → World Session
seen w = record { state = w.session; table = w.table; reply = w.reply; out = w.out; queue = w.queue }

-- what an outcome reports, of a delivery d and an image set
abbrev pub told_by : Outcome → List ℕ → List ℕ → List Report
told_by r d set = reports_for r.stepped.answer d set r.out

-- after a step lent the run's own things and a delivery d of the queue's, with outcome r
abbrev pub after_step : (ℕ → ℕ) → Ghost → List ℕ → Outcome → Ghost
after_step mem w d r =
    record {
      session = r.stepped.session;
      table = r.table;
      reply = r.reply;
      out = r.out;
      queue = drop r.stepped.taken w.queue ++ queued mem r.stepped.answer r.out;
      back = pick (eqb (held_in r.stepped.session.phase) 0) [] (w.back ++ take r.stepped.taken d);
    }

-- the outcome of any step
abbrev pub made_by : Setting → Ghost → Lent → Outcome
made_by c w l =
    step_of w.session (delivered l.delivery w.queue) (lent l.set c.set) (lent l.names c.names) (lent l.table w.table)
    (lent l.reply w.reply) (lent l.out w.out)

-- after any step: one that is refused with all untouched leaves the held bytes too
abbrev pub follow : Setting → Ghost → Lent → Ghost
follow c w l =
    let r = made_by c w l in
    record {
      session = r.stepped.session;
      table = kept l.table w.table r.table;
      reply = kept l.reply w.reply r.reply;
      out = kept l.out w.out r.out;
      queue = left l.delivery r.stepped.taken w.queue ++ queued c.mem r.stepped.answer r.out;
      back = pick (aside r.stepped.answer) w.back (after_step c.mem w (delivered l.delivery w.queue) r).back;
    }
