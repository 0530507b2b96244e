-- `field::store` meets its contract: the first bytes of the eight are the number's. Assumes nothing.
use Rattle.std.proofs.Common.{◌≡◌, ℕ, ◌+◌, ◌-◌, ◌≤◌, List, ◌++◌, length, take, replicate, sym, ap, ◌∙◌, arith}
use Rattle.std.proofs.Math.Seq.{take-append_seam}
use Rattle.std.proofs.lemmas.List.Edits.{sets}
use borrow.Rule.Slice.PartMut.{put_mid}
use Rattle.field.specs.Field.{le_bytes}
use Rattle.field.proofs.Laws.{length_le_bytes, bytes_stored}
use Rattle.field.proofs.store.Goals as goal

-- the first w of a number's bytes with others behind them
its_own : (w v : ℕ) (s : List ℕ) → take w (le_bytes w v ++ s) ≡ le_bytes w v
its_own w v s = ap (λ (k : ℕ). take k (le_bytes w v ++ s)) (sym (length_le_bytes w v)) ∙ take-append_seam (le_bytes w v) s

bytes_put : (w v at k : ℕ) (d b e : List ℕ) → k ≡ w → at + k ≤ length d → b ≡ le_bytes w v ++ replicate (8 - w) 0 → e ≡ take k b
    → put_mid at (at + k - at) d e ≡ sets d at (le_bytes w v)
bytes_put w v at k d b e p h q r =
    let m : e ≡ le_bytes w v = r ∙ rw (p, q) (its_own w v _) in
    rw (m, p) (sym (bytes_stored at w v d (omega (arith, p, h))))

pub returns : goal.returns
returns g c =
    let n = g.T.Number in
    bytes_put n.SIZE (n.value c.args.v) c.args.at c.SIZE-n.result c.args.d.now _ _ c.SIZE-n.ensures (rw c.SIZE-n.ensures c.requires) c.bytes.ensures
    c.copy_from_slice.ensures.after
