-- `field::padded` meets its contract where the field does not lie within the bytes: what is there with zeros behind it. Assumes nothing.
use mathlib.Core.Path.{◌≡◌, sym, ap, ◌∙◌}
use mathlib.Core.List.{List, ◌++◌}
use Prim.Native.Nat.{ℕ, min, ◌+◌, ◌-◌, ◌<◌, ◌≤◌}
use native.Mathlib.Omega.{arith}
use lib.ListN.{length, drop, take, replicate}
use Rattle.std.proofs.lemmas.List.{length-drop, length-take-le, drop-replicate}
use Rattle.field.specs.Field.{le}
use Rattle.field.proofs.Laws.{told_short, from_place, le_zeros}
use Rattle.field.proofs.padded.Goals as goal

-- what is there of a field of at most 8 bytes that does not lie within the bytes
fits : (at m w : ℕ) (s : List ℕ) → m ≡ min at (length s) → length s < at + w → w ≤ 8 → length (take (length s - m) (drop m s)) ≤ 8
fits at m w s e h l = rw (from_place at m s e, length-drop) (omega arith)

-- zeros behind it say nothing
with_zeros : (w at m k : ℕ) (s e : List ℕ) → m ≡ min at (length s) → e ≡ take (length s - m) (drop m s) → le w (e ++ drop k (replicate 8 0)) ≡ le w (drop at s)
with_zeros w at m k s e p q = rw (q, from_place at m s p, drop-replicate {X = ℕ} k 8 0) (le_zeros w (8 - k) (drop at s))

pub slice_bounds-copy_from_slice-end : goal.slice_bounds-copy_from_slice-end
slice_bounds-copy_from_slice-end g c =
    let h = fits _ _ _ _ c.min.ensures (told_short _ _ _ _ (sym c.field_at.ensures ∙ c.in_default.is)) g.met.T.Number.most in
    sym (length-take-le _ _ h)

pub copy_from_slice-requires : goal.copy_from_slice-requires
copy_from_slice-requires g c =
    let h = fits _ _ _ _ c.min.ensures (told_short _ _ _ _ (sym c.field_at.ensures ∙ c.in_default.is)) g.met.T.Number.most in
    length-take-le _ _ h

pub returns : goal.returns
returns g c =
    let n = g.T.Number in
    c.of_bytes.ensures ∙ ap n.of (with_zeros n.SIZE _ _ _ _ _ c.min.ensures c.copy_from_slice.ensures.after)
