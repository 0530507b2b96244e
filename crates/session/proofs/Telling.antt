-- Number and values tell a step's answers apart: each is found again from them. Assumes nothing.
use mathlib.Core.Path.{◌≡◌, refl, ap}
use lib.Dec.{eqb}
use lib.ListN.{get_or}
use Rattle.base.specs.Choice.{pick}
use Rattle.base.specs.Told.{Told}
use Rattle.base.proofs.Telling.{apart}
use Rattle.refusal.specs.Refusal.{refusal_of}
use Rattle.refusal.proofs.Laws.{refusal_back}
use Rattle.verdict.specs.Verdict.{finish_of}
use Rattle.verdict.specs.declared.Finish.{Finish}
use Rattle.verdict.proofs.Telling.{finish_back}
use Rattle.session.specs.Answers.{answer_told}
use Rattle.session.specs.declared.Answer.{Answer}
use Rattle.session.specs.declared.Answer.TheVariants as A

abbrev answer_from : Told → Answer
answer_from t =
    let n = t.number in
    let v = get_or t.values 0 0 in
    let w = get_or t.values 1 0 in
    pick (eqb n 0) A.Go
    (pick (eqb n 1) (A.Send v)
    (pick (eqb n 2) (A.Image v w)
    (pick (eqb n 3) (A.Open v)
    (pick (eqb n 4) (A.Bytes v)
    (pick (eqb n 5) A.EmptyRead (pick (eqb n 6) (A.Close v) (pick (eqb n 7) (A.Finished (finish_of v) w) (A.Refused (refusal_of v)))))))))

answer_back : (a : Answer) → answer_from (answer_told a) ≡ a
answer_back A.Go = refl
answer_back (A.Send k) = refl
answer_back (A.Image start k) = refl
answer_back (A.Open i) = refl
answer_back (A.Bytes k) = refl
answer_back A.EmptyRead = refl
answer_back (A.Close i) = refl
answer_back (A.Finished how reads) = ap (λ (x : Finish). A.Finished x reads) (finish_back how)
answer_back (A.Refused why) = ap A.Refused (refusal_back why)

pub answer_apart : (a b : Answer) → answer_told a ≡ answer_told b → a ≡ b
answer_apart = apart answer_told answer_from answer_back
