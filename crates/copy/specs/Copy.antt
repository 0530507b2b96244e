-- A copy: the first n bytes of s stand in d from a place on; nothing changes where they do not fit or are not there.
use Rattle.std.specs.Prelude.{ℕ, ◌+◌, List, ltb, length}
use Rattle.std.proofs.Math.Seq.{paste}
use Rattle.base.specs.Choice.{pick}

unfoldable pub copied : List ℕ → ℕ → List ℕ → ℕ → List ℕ
copied d at s n = pick (ltb (length d) (at + n)) d (pick (ltb (length s) n) d (paste d at s n))
