-- `utf8::sequences` meets its contract. The invariant: the bytes that are left say of the text what the whole says. Assumes nothing.
use mathlib.Core.Path.{◌≡◌}
use lib.ListN.{length}
use Rattle.utf8.specs.Utf8.{utf8}
use Rattle.utf8.proofs.sequences.Given as goal

abbrev pub invariant-loop-lead : goal.invariant-loop-lead
invariant-loop-lead l = utf8 l.rest ≡ utf8 l.s

abbrev pub decreases-loop-lead : goal.decreases-loop-lead
decreases-loop-lead l = length l.rest
