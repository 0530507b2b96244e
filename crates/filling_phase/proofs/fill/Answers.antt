-- `filling_phase::fill` meets its contract: the bytes fit the buffer and are there. Assumes nothing.
use mathlib.Core.Path.{◌≡◌, ◌∙◌}
use Prim.Native.Nat.{◌-◌, min}
use native.Mathlib.Omega.{arith}
use lib.ListN.{length}
use Rattle.copy.proofs.Laws.{copied_fits}
use Rattle.filling_phase.proofs.fill.Goals as goal

pub returns : goal.returns
returns c =
    let a = c.args in
    let n = c.min-n.result in
    let e : n ≡ min (a.x.declared - a.x.filled) (length a.delivery.now) = c.min-n.ensures in (
      e,
      c.copy_into.ensures
          ∙ copied_fits a.buffer.now a.x.filled a.delivery.now n (omega arith) (omega arith),
    )
