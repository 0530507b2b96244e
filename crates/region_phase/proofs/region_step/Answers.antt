-- `region_phase::region_step` meets its contract where the region begins, whatever was lent as the reply, and where it closes. Assumes nothing.
use Rattle.std.proofs.Common.{sym, ap, ◌∙◌, arith}
use Rattle.std.specs.Prelude.{Result, Ok}
use Rattle.base.proofs.Telling.{tells}
use Rattle.refusal.specs.declared.Refusal.{Refusal}
use Rattle.session.specs.Answers.{outcome_told}
use Rattle.region_phase.specs.Advance.{advanced}
use Rattle.region_phase.specs.declared.Advance.{Advance}
use Rattle.region_phase.proofs.Laws.{advance_is, begins, closes}
use Rattle.region_phase.proofs.region_step.Goals as goal

pub begin_region-requires : goal.begin_region-requires
begin_region-requires c =
    let g = c.advance_region in
    begins _ _ _ _ _ _ _ _ _ (sym g.ensures ∙ ap (λ (r : Result Advance Refusal). advanced r g.new.out) (c.in-Ok.is ∙ ap Ok c.in-Begins.is))

pub close-requires : goal.close-requires
close-requires c =
    let g = c.advance_region in
    closes _ _ _ _ _ _ _ _ _ (sym g.ensures ∙ ap (λ (r : Result Advance Refusal). advanced r g.new.out) (c.in-Ok.is ∙ ap Ok c.in-Closes.is)) c.ranges.k

pub returns-in-Begins : goal.returns-in-Begins
returns-in-Begins c =
    let e = c.begin_region.ensures c.args.reply.now in
    tells outcome_told (grind (arith, advance_is, e))
