-- `selection::named` meets its contract. The invariant: the search from name i on is the whole search. Assumes nothing.
use Rattle.std.proofs.Common.{◌≡◌}
use Rattle.selection.proofs.Laws.{named_from}
use Rattle.selection.proofs.named.Given as goal

abbrev pub invariant-loop-i : goal.invariant-loop-i
invariant-loop-i l = named_from l.names l.n l.stem 0 ≡ named_from l.names l.n l.stem l.i
