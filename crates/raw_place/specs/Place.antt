-- A session in a region, in place, whose step neither the image set nor the names refuse.
use Rattle.std.specs.Prelude.{ℕ, Bool, true, false, List}
use Rattle.base.specs.Choice.{pick}
use Rattle.bundle.specs.Bundle.{well_formed}
use Rattle.in_place.specs.Place.{in_region}

-- the numbers are those of a session in a region, and the image set and the names are well formed
abbrev pub ready_at : List ℕ → List ℕ → List ℕ → List ℕ → Bool
ready_at h n set names = pick (in_region h n) (pick (well_formed true set) (well_formed false names) false) false
