-- What is left of the delivery lies within it, and the buffer that it is read into keeps its length.
use Rattle.std.proofs.Common.{◌≡◌, ◌≤◌, length}
use Rattle.desk.proofs.run.Given as goal

abbrev pub invariant-loop : goal.invariant-loop
invariant-loop g l = (l.f.from ≤ l.f.to) × (l.f.to ≤ length l.delivery) × (length l.delivery ≡ length l.initial.delivery)
