-- `copy::copy_into` meets its contract. The loop's invariant: the first j bytes are pasted. Assumes nothing.
use mathlib.Core.Path.{◌≡◌}
use lib.Seq.{paste}
use Rattle.copy.proofs.copy_into.Given as goal

abbrev pub invariant-loop-j : goal.invariant-loop-j
invariant-loop-j l = l.d ≡ paste l.fn.d l.at l.s l.j
