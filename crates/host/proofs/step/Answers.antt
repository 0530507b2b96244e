-- `host::step` meets its contract where a bundle is refused: the check's refusal is the step's. Assumes nothing.
use mathlib.Core.Path.{◌≡◌, sym, ap, ◌∙◌}
use mathlib.Core.Bool.{true, false}
use Rattle.std.specs.Prelude.{Result, Err}
use Rattle.refusal.specs.declared.Refusal.{Refusal}
use Rattle.session.specs.declared.Answer.TheVariants as A
use Rattle.bundle.specs.Bundle.{well_formed}
use Rattle.bundle.proofs.Laws.{checked_good, checked_refused}
use Rattle.base.proofs.Telling.{tells}
use Rattle.session.specs.Answers.{outcome_told}
use Rattle.session.specs.declared.Stepped.{Stepped}
use Rattle.session.specs.Outcome.{outcome, gives}
use Rattle.session.proofs.Parts.{step_2}
use Rattle.refusal.specs.declared.Refusal.TheVariants as Refusal
use Rattle.host.proofs.step.Goals as goal

pub returns-in-Err-check_names : goal.returns-in-Err-check_names
returns-in-Err-check_names c =
    let a = c.args in
    let set = a.set.now in
    let names = a.names.now in
    let v = checked_good (well_formed true set) Refusal.ImageSet (sym c.check_images.ensures.is ∙ c.in_default.is) in
    let e = sym c.check_names.ensures.is ∙ c.in-Err-check_names.is in
    let w = checked_refused (well_formed false names) Refusal.NameList _ e in
    let q : ◌≡◌ {A = Result Unit Refusal} (Err Refusal.NameList) (Err c.in-Err-check_names.why) = rw w at e in
    let why : c.in-Err-check_names.why ≡ Refusal.NameList = cc in
    tells outcome_told
    (ap (λ (r : Stepped). outcome r a.table.now a.reply.now a.out.now)
    (c.untouched-in-Err-check_names.ensures ∙ ap (λ (x : Refusal). gives a.s 0 (A.Refused x)) why)
    ∙ sym (step_2 a.s a.delivery.now set names a.table.now a.reply.now a.out.now v w))
