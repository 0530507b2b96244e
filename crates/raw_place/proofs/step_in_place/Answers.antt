-- `raw_place::step_in_place` meets its contract: in a region by `counts_are` and `waits_are`; else it is `raw_step::step`, lent empty bundles where it
-- looks at none (`lent_empty`). Assumes nothing.
use mathlib.Core.Path.{◌≡◌, refl, sym, ap, ◌∙◌}
use mathlib.Core.Bool.{true, false}
use mathlib.Core.List.{List}
use Prim.Native.Nat.{ℕ}
use lib.ListN.{length, get_or}
use Rattle.std.proofs.Common.{rules}
use Rattle.base.proofs.Ranges.{by_then}
use Rattle.bundle.specs.Bundle.{well_formed}
use Rattle.field.specs.declared.Width.{Width}
use Rattle.verdict.specs.declared.Opening.{Opening}
use Rattle.session.specs.declared.Region.{Region}
use Rattle.session.specs.declared.Counted.{Counted}
use Rattle.region_phase.specs.declared.Advance.{Advance}
use Rattle.region_phase.specs.declared.Advance.TheVariants as D
use Rattle.region_phase.specs.Advance.{advanced, advance_of}
use Rattle.region_phase.proofs.Laws.{advance_still}
use Rattle.raw.specs.declared.RawTold.{RawTold}
use Rattle.raw.specs.Raw.{opening_of, width_of, told_of, stepped_at}
use Rattle.in_place.specs.Place.{raw_at, in_region, region_at}
use Rattle.raw_step.specs.RawStep.{raw_outcome, step_raw}
use Rattle.raw_place.proofs.Repeats.{no, counts_are, waits_are, lent_empty}
use Rattle.raw_place.proofs.step_in_place.Goals as goal
use Rattle.raw_place.proofs.step_in_place.Goals.{After-advance_region, in_default-via-in-Ok+in_default, in_default-via-in_default}
use Rattle.std.specs.Prelude.{Result, Ok}
use Rattle.refusal.specs.declared.Refusal.{Refusal}

-- the out buffer behind the step over the counts
abbrev after : After-advance_region → List ℕ
after c = c.advance_region.new.out

-- there the numbers are those of a session in a region, and both bundles are well formed
in-region : (c : After-advance_region) → (in_region c.args.head.now c.args.numbers.now ≡ true)
    × ((well_formed true c.args.set.now ≡ true) × (well_formed false c.args.names.now ≡ true))
in-region c =
    let a = c.args in
    let p = by_then (in_region a.head.now a.numbers.now) _ _ no (sym c.ready.ensures ∙ c.if-not-ready.false) in
    (p.0, by_then (well_formed true a.set.now) _ _ no p.1)

-- and what was come to is the definition's
come-to : (c : After-advance_region) (v : Result Advance Refusal) → c.advance_region.result ≡ v → (let a = c.args in
    let n = a.numbers.now in
    advanced v (after c)
    ≡ advance_of (width_of (get_or n 8 0)) (opening_of (get_or a.head.now 0 0) (get_or a.head.now 1 0) (get_or a.head.now 2 0))
    (get_or n 0 0) (get_or n 1 0) (region_at n) (length a.delivery.now) a.table.now a.out.now)
come-to c v e =
    let a = c.args in
    let n = a.numbers.now in
    let h = a.head.now in
    let x = c.region_at-x.result in
    let m = length a.delivery.now in
    ap (λ (z : Result Advance Refusal). advanced z (after c)) (sym e)
    ∙ c.advance_region.ensures
    ∙ ap (λ (z : Width). advance_of z c.opening_of-opening.result (get_or n 0 0) (get_or n 1 0) x m a.table.now a.out.now)
    c.width_of-width.ensures
    ∙ ap (λ (z : Opening). advance_of (width_of (get_or n 8 0)) z (get_or n 0 0) (get_or n 1 0) x m a.table.now a.out.now)
    c.opening_of-opening.ensures
    ∙ ap (λ (z : Region). advance_of (width_of (get_or n 8 0)) (opening_of (get_or h 0 0) (get_or h 1 0) (get_or h 2 0)) (get_or n 0 0) (get_or n 1 0) z m a.table.now a.out.now)
    c.region_at-x.ensures

pub returns-in-Ok-To : goal.returns-in-Ok-To
returns-in-Ok-To c =
    let g = (goal.at.returns-in-Ok-To c).After-advance_region in
    let a = c.args in
    let k : Counted = c.in-Ok-To.c in
    let e : c.advance_region.result ≡ Ok (D.To k) = cc in
    let r = in-region g in (
      ap (λ (z : RawTold). raw_outcome (stepped_at (raw_at a.head.now c.count-t.new.numbers a.window.now) z) a.table.now a.reply.now (after g))
          (c.placed-in-Ok-To.ensures.0 ∙ c.count-t.ensures.0)
          ∙ ap (λ (z : List ℕ). raw_outcome (stepped_at (raw_at a.head.now z a.window.now) (told_of k.taken k.answer))
          a.table.now a.reply.now (after g))
          c.count-t.ensures.1
          ∙ counts_are a.head.now a.numbers.now a.window.now r.0
          a.delivery.now a.set.now a.names.now a.table.now a.reply.now a.out.now r.1.0 r.1.1
          k (after g) (come-to g (Ok (D.To k)) e),
      c.placed-in-Ok-To.ensures.1,
    )

pub returns-in-Ok-Waits : goal.returns-in-Ok-Waits
returns-in-Ok-Waits c =
    let g = (goal.at.returns-in-Ok-Waits c).After-advance_region in
    let e : c.advance_region.result ≡ Ok D.Waits = cc in
    let a = c.args in
    let r = in-region g in (
      ap (λ (z : RawTold). raw_outcome (stepped_at (raw_at a.head.now a.numbers.now a.window.now) z) a.table.now a.reply.now (after g))
          (c.placed-in-Ok-Waits.ensures.0 ∙ c.told.ensures)
          ∙ waits_are a.head.now a.numbers.now a.window.now r.0
          a.delivery.now a.set.now a.names.now a.table.now a.reply.now a.out.now r.1.0 r.1.1
          (after g) (come-to g (Ok D.Waits) e),
      c.placed-in-Ok-Waits.ensures.1,
    )

pub returns-in_default : goal.returns-in_default
returns-in_default c =
    let g = (goal.at.returns-in_default c).After-advance_region in
    let a = c.args in
    let n = a.numbers.now in
    let h = a.head.now in
    let w = a.window.now in
    let v : Result Advance Refusal = c.advance_region.result in
    let still : (k : Counted) → v ≡ Ok (D.To k) → ⊥ = λ k h. elim c.in_default.branch [ in_default-via-in-Ok+in_default w ↦ search rules | in_default-via-in_default w ↦ cc ] in
    let o : after g ≡ a.out.now =
    advance_still (width_of (get_or n 8 0)) (opening_of (get_or h 0 0) (get_or h 1 0) (get_or h 2 0)) (get_or n 0 0) (region_at n) (length a.delivery.now) a.out.now still
    (get_or n 1 0) a.table.now (sym (come-to g v refl)) in
    let r = in-region g in
    let l = c.step-t-in_default.new in (
      ap (λ (z : RawTold). raw_outcome (stepped_at (raw_at l.head l.numbers l.window) z) l.table l.reply l.out) c.placed-in_default.ensures.0
          ∙ c.step-t-in_default.ensures
          ∙ lent_empty h n w r.0 a.delivery.now a.set.now a.names.now a.table.now a.reply.now (after g) r.1.0 r.1.1
          ∙ ap (step_raw (raw_at h n w) a.delivery.now a.set.now a.names.now a.table.now a.reply.now) o,
      c.placed-in_default.ensures.1,
    )
