-- What is handed out of k bytes that came. Document 01, "Session", *Region*: "hand out min(outstanding, delivery)".
use Rattle.std.specs.Prelude.{ℕ, ◌-◌, min}
use Rattle.session.specs.declared.Region.{Region}
use Rattle.region_counts.specs.declared.Handed.{Handed}

abbrev pub handed_by : Region → ℕ → Handed
handed_by x k =
    let n = min x.outstanding k in
    record { taken = n; left = x.outstanding - n }
