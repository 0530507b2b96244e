-- `selection::next_selected` meets its contract. The loop's invariant: the search from here on is the whole search; behind the table's end it comes to
-- `entries` by `next_beyond`. Assumes nothing.
use mathlib.Core.Path.{◌≡◌}
use Prim.Native.Nat.{◌-◌}
use Rattle.field.specs.Field.{field_size}
use Rattle.selection.specs.Selection.{next_of}
use Rattle.selection.proofs.next_selected.Given as goal

abbrev pub invariant-loop-i : goal.invariant-loop-i
invariant-loop-i l =
    next_of (field_size l.width) l.names l.table (l.entries - l.from) l.from ≡ next_of (field_size l.width) l.names l.table (l.entries - l.i) l.i
