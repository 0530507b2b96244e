-- A number's `load` meets its contract: what is there of the field, with zeros behind it. Assumes nothing.
use Rattle.std.proofs.Common.{◌≡◌, ℕ, min, ◌-◌, ◌<◌, ◌≤◌, List, ◌++◌, length, drop, take, replicate, ap, ◌∙◌, arith}
use mathlib.Core.Logic.{⊎_elim}
use Rattle.std.proofs.lemmas.List.{drop-replicate, take_all}
use Rattle.base.proofs.Ranges.{below_or_not}
use Rattle.field.specs.Field.{le}
use Rattle.field.proofs.Laws.{from_place, le_take, le_zeros}
use Rattle.field.proofs.Number.load.Goals as goal

-- of the bytes that are there, the field's are read
le_min : (w n : ℕ) (s : List ℕ) → n ≡ min w (length s) → le w (take n s) ≡ le w s
le_min w n s e =
    ⊎_elim
    (λ (h : length s < w). ap (le w) (take_all n s (omega (arith, e))))
    (λ (h : w ≤ length s). ap (λ (k : ℕ). le w (take k s)) (omega (arith, e)) ∙ le_take w w s (omega arith))
    (below_or_not (length s) w)

copied_min : (w at m n : ℕ) (s e : List ℕ) → m ≡ min at (length s) → n ≡ min w (length (take (length s - m) (drop m s))) → e ≡ take n (take (length s - m) (drop m s))
    → le w (e ++ drop n (replicate 8 0)) ≡ le w (drop at s)
copied_min w at m n s e p q r =
    let t : take (length s - m) (drop m s) ≡ drop at s = from_place at m s p in
    rw (r, t, drop-replicate {X = ℕ} n 8 0)
    (le_zeros w (8 - n) (take n (drop at s)) ∙ le_min w n (drop at s) (q ∙ ap (λ (x : List ℕ). min w (length x)) t))

pub returns : goal.returns
returns g c =
    let n = g.Self.Number in
    let s : List ℕ = c.args.s.now in
    let m : ℕ = c.min.result in
    let q : c.min-n.result ≡ min n.SIZE (length (take (length s - m) (drop m s))) =
    c.min-n.ensures ∙ ap (λ (k : ℕ). min k (length (take (length s - m) (drop m s)))) c.SIZE.ensures in
    c.of_bytes.ensures ∙ ap n.of (copied_min n.SIZE c.args.at m _ s _ c.min.ensures q c.copy_from_slice.ensures.after)
