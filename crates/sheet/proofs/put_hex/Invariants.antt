-- `sheet::put_hex` meets its contract. The loop's invariant: with the j digits of what is left stored too, the page is what it is to be. Assumes nothing.
use mathlib.Core.Path.{◌≡◌}
use lib.Seq.{sets}
use Rattle.sheet.specs.Sheet.{hex}
use Rattle.sheet.proofs.put_hex.Given as goal

abbrev pub invariant-loop-j : goal.invariant-loop-j
invariant-loop-j l = sets l.page l.at (hex l.j l.rest) ≡ sets l.fn.page l.at (hex 16 l.v)
