-- `slot_sizes::data_size` meets its contract. The loop's invariant: the total is that of the first i slots, and at most the most. Assumes nothing.
use mathlib.Core.Path.{◌≡◌}
use Prim.Native.Nat.{◌≤◌}
use lib.ListN.{length}
use Rattle.writer.specs.Writer.{data_of, most_data}
use Rattle.tidied.specs.Tidy.{first_contents}
use Rattle.slot_sizes.proofs.data_size.Given as goal

abbrev pub invariant-loop-i : goal.invariant-loop-i
invariant-loop-i l = (l.total ≡ length (data_of (first_contents l.set l.i))) × (l.total ≤ most_data)
