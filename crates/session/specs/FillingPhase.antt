-- *Response* and *Table*: a lent buffer is filled. Document 01, "Session". (`paste y at d n` of the kit: y with the first n bytes of d from at on.)
use Rattle.std.specs.Prelude.{ℕ, ◌+◌, ◌-◌, min, List, ltb, length}
use Rattle.std.proofs.Math.Seq.{paste}
use Rattle.base.specs.Choice.{pick}
use Rattle.build.specs.Build.{size_of, front}
use Rattle.build.specs.declared.Request.TheVariants as Q
use Rattle.session.specs.declared.Filling.{Filling}
use Rattle.session.specs.declared.Phase.TheVariants as P
use Rattle.session.specs.declared.Session.{Session}
use Rattle.session.specs.declared.Answer.TheVariants as A
use Rattle.session.specs.Outcome.{in_phase, filling, Outcome, outcome, gives}
use Rattle.verdict.specs.declared.Finish.TheVariants as Finish

-- "fill the reply buffer; while short, go; when full (length 0: without a byte) send SwitchMode; the next step finishes (4)". Of length 0 nothing is
-- missing, so the test of "short" fails on any delivery. What stands in the buffer behind the declared length stays as it was
unfoldable pub response_of : Session → Filling → List ℕ → List ℕ → List ℕ → List ℕ → Outcome
response_of s x d t y o =
    let n = min (x.declared - x.filled) (length d) in
    pick (ltb (x.filled + n) x.declared)
    (outcome (gives (in_phase s (P.Response (filling x.declared (x.filled + n)))) n A.Go) t (paste y x.filled d n) o)
    (outcome (gives (in_phase s (P.Switched x.declared)) n (A.Send (size_of Q.SwitchMode))) t (paste y x.filled d n) (front Q.SwitchMode o))

-- "the next step finishes (4)", whatever is delivered; k is the reply's length
unfoldable pub switched_of : Session → ℕ → List ℕ → List ℕ → List ℕ → Outcome
switched_of s k t y o = outcome (gives (in_phase s (P.Ended k)) 0 (A.Finished Finish.Reply s.reads)) t y o

-- "fill the table buffer; each such step gives go, and length 0 takes one step without a byte". The step that takes the last byte, or that one of length 0, gives
-- go and comes to between; the first region is opened in the step after it, which takes nothing. What stands in the buffer behind the declared length stays as it was
unfoldable pub table_of : Session → Filling → List ℕ → List ℕ → List ℕ → List ℕ → Outcome
table_of s x d t y o =
    let n = min (x.declared - x.filled) (length d) in
    pick (ltb (x.filled + n) x.declared)
    (outcome (gives (in_phase s (P.Table (filling x.declared (x.filled + n)))) n A.Go) (paste t x.filled d n) y o)
    (outcome (gives (in_phase s (P.Between x.declared 0)) n A.Go) (paste t x.filled d n) y o)
