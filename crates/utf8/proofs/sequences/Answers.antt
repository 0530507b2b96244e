-- `utf8::sequences` meets its contract: a byte that leads nothing ends it, and behind a sequence the text goes on. Assumes nothing.
use mathlib.Core.Path.{◌≡◌, sym, ◌∙◌}
use Prim.Native.Nat.{◌-◌, ◌<◌, ◌≤◌}
use native.Mathlib.Omega.{arith}
use lib.ListN.{length, drop, length-drop}
use lib.Seq.{take_all}
use borrow.Author.Rules.{rules}
use Rattle.utf8.specs.Utf8.{utf8}
use Rattle.utf8.specs.Classes.{no_lead}
use Rattle.utf8.proofs.Laws.{first_byte, goes_turn, no_row, its_row, whole}
use Rattle.utf8.proofs.sequences.Goals as goal
use Rattle.utf8.proofs.sequences.Goals.{After-behind-end}

-- behind a sequence that is there: further on, within the text, and the bytes from there on say what the whole says
came : (c : After-behind-end) → (c.behind-end.result ≡ 0 → ⊥)
    → (let r = c.loop-lead.rest.now in
    let e = c.behind-end.result in
    (0 < e) × (e ≤ length r) × (utf8 (drop e r) ≡ utf8 c.args.s.now))
came c z =
    let a = c.args in
    let n : c.in-Some.lead.now < 256 = search rules in
    let l = its_row a.classes.now a.rows c.requires c.in-Some.lead.now n c.if-class-eq48.false in
    let w = whole _ _ _ _ (first_byte _ _ c.in-Some.ensures.value) l c.behind-end.ensures z in
    (w.0, w.1, w.2 ∙ c.loop-lead.invariant)

pub returns-then-class-eq48 : goal.returns-then-class-eq48
returns-then-class-eq48 c =
    let a = c.args in
    let n : c.in-Some.lead.now < 256 = search rules in
    let e = no_row a.classes.now a.rows c.requires c.in-Some.lead.now n c.if-class-eq48.true in
    sym (goes_turn _ _ no_lead (first_byte _ _ c.in-Some.ensures.value) e) ∙ c.loop-lead.invariant

pub slice_bounds-rest-count : goal.slice_bounds-rest-count
slice_bounds-rest-count c = (came (goal.at.slice_bounds-rest-count c).After-behind-end c.if-end-eq0.false).1

pub slice_bounds-rest-start : goal.slice_bounds-rest-start
slice_bounds-rest-start c =
    let w = came (goal.at.slice_bounds-rest-start c).After-behind-end c.if-end-eq0.false in
    search (rules, w.1)

pub loop-lead-preserved : goal.loop-lead-preserved
loop-lead-preserved c =
    let r = c.loop-lead.rest.now in
    let e = c.behind-end.result in
    let w = came (goal.at.loop-lead-preserved c).After-behind-end c.if-end-eq0.false in
    rw (take_all (length r - e) (drop e r) (omega (arith, length-drop e r))) w.2
