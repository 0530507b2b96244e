-- What is left of the delivery lies within the device's bytes.
use Rattle.std.proofs.Common.{◌≤◌, length}
use Rattle.runs.proofs.run.Given as goal

abbrev pub invariant-loop : goal.invariant-loop
invariant-loop g l = (l.f.from ≤ l.f.to) × (l.f.to ≤ length l.parts.feed.now)
