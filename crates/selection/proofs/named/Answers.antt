-- `selection::named` meets its contract: a slot without a name and a name that is not the stem are passed over. Assumes nothing.
use Rattle.std.proofs.Common.{◌≡◌, ℕ, ◌+◌, ◌-◌, ◌<◌, List, map, take, drop, sym, refl, ◌∙◌, arith}
use borrow.Author.Tests.{clash}
use Rattle.std.specs.Char.{to_ascii_lowercase}
use Rattle.bundle.specs.Bundle.{slot_of}
use Rattle.bundle.specs.declared.Slot.{Slot}
use Rattle.bundle.specs.declared.Slot.TheVariants as S
use Rattle.selection.specs.Selection.{low}
use Rattle.selection.proofs.Laws.{named_from, named_other, named_unequal, named_without, lowered_is}
use Rattle.selection.proofs.named.Goals as goal
use Rattle.selection.proofs.named.Goals.{in-At+else-size-stem, in_default}
use Rattle.selection.proofs.named.Goals.{else-size-stem-via-then-size-stem+else-eq_ignore_ascii_case, else-size-stem-via-else-size-stem}

-- a slot that is not `At` has no name
nameless : (b : List ℕ) (n : ℕ) (stem : List ℕ) (i : ℕ) (x : Slot) → i < n → ((k l : ℕ) → x ≡ S.At k l → ⊥) → slot_of b i ≡ x
    → named_from b n stem i ≡ named_from b n stem (i + 1)
nameless b n stem i (S.At start size) h k e = absurd (k start size refl)
nameless b n stem i S.Absent h k e = named_without b n stem i h (λ r. rw e refl)
nameless b n stem i S.Missing h k e = named_without b n stem i h (λ r. rw e refl)

-- the part that is compared is the name of the slot
part_is : (b : List ℕ) (start size : ℕ) → map to_ascii_lowercase (take (start + size - start) (drop start b)) ≡ map low (take size (drop start b))
part_is b start size =
    let e : start + size - start ≡ size = omega arith in
    rw e (lowered_is (take size (drop start b)))

pub loop-i-preserved : goal.loop-i-preserved
loop-i-preserved c =
    let a = c.args in
    let names = a.names.now in
    let stem = a.stem.now in
    let i = c.loop-i.i in
    let below = c.loop-i-test.true in
    let is = c.slot_at.ensures.is in
    c.loop-i.invariant
    ∙ elim c.match-slot_at.branch [
      | in-At+else-size-stem w ↦
          let at = w.in-At in
          let e = sym is ∙ at.is in
          elim w.else-size-stem.branch [
            | else-size-stem-via-then-size-stem+else-eq_ignore_ascii_case v ↦
                named_other names a.n stem i at.start at.size below e
                (λ q. clash (v.if-eq_ignore_ascii_case.ensures.test.1 (part_is names at.start at.size ∙ q ∙ sym (lowered_is stem))))
            | else-size-stem-via-else-size-stem v ↦ named_unequal names a.n stem i at.start at.size below e v.if-size-stem.false
          ]
      | in_default w ↦ nameless names a.n stem i c.slot_at.result below w.in_default.not-At (sym is)
    ]
