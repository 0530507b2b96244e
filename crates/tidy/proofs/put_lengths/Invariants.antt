-- `tidy::put_lengths` meets its contract. The loop's invariant: the lengths of the first i slots are stored. Assumes nothing.
use mathlib.Core.Path.{◌≡◌}
use mathlib.Core.List.{map}
use lib.Seq.{sets}
use Rattle.field.specs.Field.{words}
use Rattle.bundle.specs.Content.{size_in}
use Rattle.tidied.specs.Tidy.{first_contents}
use Rattle.tidy.proofs.put_lengths.Given as goal

abbrev pub invariant-loop-i : goal.invariant-loop-i
invariant-loop-i l = l.to ≡ sets l.fn.to l.at (words (map size_in (first_contents l.set l.i)))
