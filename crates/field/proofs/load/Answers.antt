-- `field::load` meets its contract: the field's bytes with zeros behind them. Assumes nothing.
use Rattle.std.proofs.Common.{◌≡◌, ℕ, ◌+◌, ◌-◌, List, ◌++◌, drop, take, replicate, ap, ◌∙◌, arith}
use Rattle.std.proofs.lemmas.List.{drop-replicate}
use Rattle.field.specs.Field.{le}
use Rattle.field.proofs.Laws.{le_zeros, le_take}
use Rattle.field.proofs.load.Goals as goal

field_copied : (w at k : ℕ) (s e : List ℕ) → k ≡ w → e ≡ take (at + k - at) (drop at s) → le w (e ++ drop k (replicate 8 0)) ≡ le w (drop at s)
field_copied w at k s e p q =
    let m : at + k - at ≡ w = omega (arith, p) in
    rw (q, m, drop-replicate {X = ℕ} k 8 0) (le_zeros w (8 - k) (take w (drop at s)) ∙ le_take w w (drop at s) (omega arith))

pub returns : goal.returns
returns g c =
    let n = g.T.Number in
    c.of_bytes.ensures ∙ ap n.of (field_copied n.SIZE _ _ _ _ c.SIZE-n.ensures c.copy_from_slice.ensures.after)
