-- `forecast::forecast_table` meets its contract. The invariant: i is the next selected entry, and the sums so far, with the entries from i on, come to the
-- sums of them all. Assumes nothing.
use Rattle.std.proofs.Common.{◌-◌}
use Rattle.std.specs.Prelude.{Ok}
use Rattle.field.specs.Field.{field_size}
use Rattle.entry.specs.Entry.{entries_of}
use Rattle.forecast_sums.specs.Forecast.{forecast_chunk as chunk}
use Rattle.forecast_sums.specs.Sums.{start_of, add_all}
use Rattle.forecast.proofs.Search.{Searched}
use Rattle.forecast.proofs.forecast_table.Given as goal

abbrev pub invariant-loop-i : goal.invariant-loop-i
invariant-loop-i l =
    let f = field_size l.width in
    Searched chunk l.names f l.table l.n l.i (Ok l.sums) (add_all chunk l.names (start_of l.names) (entries_of f l.table))

abbrev pub decreases-loop-i : goal.decreases-loop-i
decreases-loop-i l = l.n - l.i
