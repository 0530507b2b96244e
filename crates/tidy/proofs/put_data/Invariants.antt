-- `tidy::put_data` meets its contract. The loop's invariant: the bytes of the first i slots are stored, and the sum is how many they are. Assumes nothing.
use mathlib.Core.Path.{◌≡◌}
use lib.ListN.{length}
use lib.Seq.{sets}
use Rattle.writer.specs.Writer.{data_of}
use Rattle.tidied.specs.Tidy.{first_contents}
use Rattle.tidy.proofs.put_data.Given as goal

abbrev pub invariant-loop-i : goal.invariant-loop-i
invariant-loop-i l =
    (l.sum ≡ length (data_of (first_contents l.set l.i))) × (l.to ≡ sets l.fn.to l.at (data_of (first_contents l.set l.i)))
