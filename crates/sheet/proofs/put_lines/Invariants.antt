-- `sheet::put_lines` meets its contract. The loop's invariant: the first i lines are stored. Assumes nothing.
use mathlib.Core.Path.{◌≡◌}
use lib.Seq.{sets}
use Rattle.field.specs.Field.{field_size}
use Rattle.sheet.specs.Sheet.{lines_of}
use Rattle.sheet.proofs.put_lines.Given as goal

abbrev pub invariant-loop-i : goal.invariant-loop-i
invariant-loop-i l = l.page ≡ sets l.fn.page 0 (lines_of (field_size l.width) l.table l.i)
