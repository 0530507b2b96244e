-- The stem lies in the name.
use native.Mathlib.Omega.{arith}
use lib.ListN.{length-take}
use Rattle.filename.proofs.Laws.{length_stem}
use Rattle.vectors.proofs.regions.stem_of.Goals as goal

pub slice_bounds-result-end : goal.slice_bounds-result-end
slice_bounds-result-end c = simp length-take (omega (arith, length_stem c.args.name.now, c.stem_len.ensures))
