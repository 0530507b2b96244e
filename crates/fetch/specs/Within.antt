-- Within what was lent: a step's numbers are of bytes that are there. The reports (`reports_for` of specs/Device) take beginnings of lists, which are right
-- for any number; a caller that reads so many bytes behind a pointer is not. Document 01, "Session": "send k (the out buffer's first k bytes), image (start
-- in the set and length), open i, bytes k (the delivery's first k)". The law, of every step of every list, is `within` of proofs/Within, and `reply_within`
-- beside it.
use Rattle.std.specs.Prelude.{ℕ, ◌+◌, ◌*◌, ◌≤◌, ◌≡◌, List, length}
use Rattle.field.specs.Field.{field_size}
use Rattle.field.specs.declared.Width.{Width}
use Rattle.entry.specs.Entry.{entry_size}
use Rattle.session.specs.declared.Phase.{Phase}
use Rattle.session.specs.declared.Phase.TheVariants as P
use Rattle.session.specs.declared.Answer.{Answer}
use Rattle.session.specs.declared.Answer.TheVariants as A
use Rattle.fetch.specs.Plain.{Setting}
use Rattle.fetch.specs.Device.{Host, Given, Lent, lent, delivered, World, made}

-- lent the delivery d, the image set, the table t and the out buffer o; f is the width of an entry's numbers
abbrev pub AnswerWithin : ℕ → Answer → List ℕ → List ℕ → List ℕ → List ℕ → Type 0
AnswerWithin f A.Go d set t o = Unit
AnswerWithin f (A.Send k) d set t o = k ≤ length o
AnswerWithin f (A.Image x k) d set t o = x + k ≤ length set
AnswerWithin f (A.Open i) d set t o = entry_size f * (i + 1) ≤ length t
AnswerWithin f (A.Bytes k) d set t o = k ≤ length d
AnswerWithin f A.EmptyRead d set t o = Unit
AnswerWithin f (A.Close i) d set t o = entry_size f * (i + 1) ≤ length t
AnswerWithin f (A.Finished how r) d set t o = Unit
AnswerWithin f (A.Refused why) d set t o = Unit

-- what a step gave, lent the delivery d, the image set and the table, reply and out buffers t, y, o: each buffer is as long as before
pub record Within {S : Type 0} (f : ℕ) (r : Given S) (d set t y o : List ℕ) : Type 0 where
  pub taken : r.taken ≤ length d
  pub answer : AnswerWithin f r.answer d set t o
  pub table : length r.table ≡ length t
  pub reply : length r.reply ≡ length y
  pub out : length r.out ≡ length o

-- of a host's step, from a state of this width
abbrev pub StepWithin : (h : Host) → (h.State → Width) → (c : Setting) → World h.State → Lent → Type 0
StepWithin h width c w l =
    Within (field_size (width w.state)) (made h c w l) (delivered l.delivery w.queue) (lent l.set c.set) (lent l.table w.table)
    (lent l.reply w.reply) (lent l.out w.out)

-- finished (4) leaves the reply's length in the session: so many bytes of the reply buffer y that was lent then
abbrev pub ReplyWithin : Phase → List ℕ → Type 0
ReplyWithin (P.Packet h) y = Unit
ReplyWithin (P.Response x) y = Unit
ReplyWithin (P.Switched k) y = Unit
ReplyWithin (P.Table x) y = Unit
ReplyWithin (P.Between k i) y = Unit
ReplyWithin (P.Region k x) y = Unit
ReplyWithin (P.Ended k) y = k ≤ length y
