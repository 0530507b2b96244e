-- `forecast::forecast` meets its contract. The invariant: the sums so far, with the entries from this one on, come to the sums of them all. Assumes nothing.
use Rattle.std.proofs.Common.{◌≡◌, drop}
use Rattle.forecast_sums.specs.Forecast.{forecast_chunk as chunk}
use Rattle.forecast_sums.specs.Sums.{start_of, add_all}
use Rattle.std.specs.Prelude.{Ok}
use Rattle.forecast.proofs.forecast.Given as goal

abbrev pub invariant-loop-e : goal.invariant-loop-e
invariant-loop-e l = add_all chunk l.names (Ok l.sums) (drop l.e-index l.entries) ≡ add_all chunk l.names (start_of l.names) l.entries
