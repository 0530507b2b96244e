-- `slot_sizes::data_size` meets its contract where a slot's bytes are too many: so are those of all. Assumes nothing.
use native.Mathlib.Omega.{arith}
use Rattle.tidied.proofs.Laws.{data_up_to}
use Rattle.slot_sizes.proofs.data_size.Goals as goal

pub returns-then-total-size : goal.returns-then-total-size
returns-then-total-size c =
    let l = c.loop-i in
    let a = c.args in
    omega (arith, c.size_at-size.ensures, l.invariant.0, data_up_to a.set.now l.i a.n (omega arith))
