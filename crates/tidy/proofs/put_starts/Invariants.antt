-- `tidy::put_starts` meets its contract. The loop's invariant: the starts of the first i slots are stored, and the sum is where the next one starts. Assumes
-- nothing.
use mathlib.Core.Path.{◌≡◌}
use lib.ListN.{length}
use lib.Seq.{sets}
use Rattle.field.specs.Field.{words}
use Rattle.writer.specs.Writer.{data_of, starts_from}
use Rattle.tidied.specs.Tidy.{first_contents}
use Rattle.tidy.proofs.put_starts.Given as goal

abbrev pub invariant-loop-i : goal.invariant-loop-i
invariant-loop-i l =
    (l.sum ≡ length (data_of (first_contents l.set l.i))) × (l.to ≡ sets l.fn.to 8 (words (starts_from 0 (first_contents l.set l.i))))
