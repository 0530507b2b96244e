-- `sheet::put_name` meets its contract. The loop's invariant: the first j columns are stored. Assumes nothing.
use mathlib.Core.Path.{◌≡◌}
use lib.ListN.{take}
use lib.Seq.{sets}
use Rattle.sheet.specs.Sheet.{columns}
use Rattle.sheet.proofs.put_name.Given as goal

abbrev pub invariant-loop-j : goal.invariant-loop-j
invariant-loop-j l = l.page ≡ sets l.fn.page l.at (take l.j (columns l.name))
