-- A number's `store` meets its contract: of its bytes those that lie within. Assumes nothing.
use Rattle.std.proofs.Common.{◌≡◌, ℕ, suc, min, ◌+◌, ◌-◌, ◌<◌, ◌≤◌, List, [], ◌∷◌, ◌++◌, length, drop, take, refl, sym, ap, ◌∙◌, arith}
use mathlib.Core.Logic.{⊎_elim}
use mathlib.Core.List.{append_assoc}
use lib.ListN.{set}
use lib.Seq.{sets, sets-eq, set_out, take-nil, take_all, length-take-le, drop-drop}
use Rattle.std.proofs.lemmas.List.{length-set, take-append-le}
use borrow.Rule.Slice.PartMut.{put_mid}
use Rattle.base.proofs.Ranges.{below_or_not}
use Rattle.field.specs.Field.{le_bytes}
use Rattle.field.proofs.Laws.{length_le_bytes}
use Rattle.field.proofs.Number.store.Goals as goal

-- a store of a run is one of what lies within
sets_within : (xs d : List ℕ) (at : ℕ) → sets d at xs ≡ sets d at (take (length d - at) xs)
sets_within [] d at = rw take-nil refl
sets_within (x ∷ xs) d at =
    ⊎_elim
    (λ (h : at < length d).
    let e : length d - at ≡ suc (length d - suc at) = omega arith in
    rw e (sets_within xs (set d at x) (suc at) ∙ ap (λ (k : ℕ). sets (set d at x) (suc at) (take (k - suc at) xs)) (length-set d at x)))
    (λ (h : length d ≤ at).
    let e : length d - at ≡ 0 = omega arith in
    let f : length d - suc at ≡ 0 = omega arith in
    rw (e, set_out d at x h) (sets_within xs d (suc at) ∙ rw f refl))
    (below_or_not at (length d))

-- the first n of a run, n being the most or the run's length
take_min : (n m : ℕ) (xs : List ℕ) → n ≡ min (length xs) m → take n xs ≡ take m xs
take_min n m xs e =
    ⊎_elim
    (λ (h : length xs < m). take_all n xs (omega (arith, e)) ∙ sym (take_all m xs (omega arith)))
    (λ (h : m ≤ length xs). ap (λ (k : ℕ). take k xs) (omega (arith, e)))
    (below_or_not (length xs) m)

-- a run that lies within is a part of d replaced
run_stored : (xs d : List ℕ) (at k : ℕ) → length xs ≡ k → at + k ≤ length d → put_mid at k d xs ≡ sets d at xs
run_stored xs d at k e h =
    rw (← e) (rw (sets-eq xs d at (omega (arith, e, h)), drop-drop (length xs) at d) (sym (append_assoc (take at d) xs (drop (at + length xs) d))))

-- so any run is
run_within : (xs d : List ℕ) (at f n : ℕ) → f ≡ min at (length d) → n ≡ min (length xs) (length d - f) → put_mid f n d (take n xs) ≡ sets d at xs
run_within xs d at f n p q =
    run_stored (take n xs) d f n (length-take-le n xs (omega (arith, q))) (omega (arith, p, q))
    ∙ ⊎_elim
    (λ (h : at < length d).
    let e : f ≡ at = omega (arith, p) in
    rw e (ap (sets d at) (take_min n (length d - at) xs (omega (arith, q, e))) ∙ sym (sets_within xs d at)))
    (λ (h : length d ≤ at).
    let e : n ≡ 0 = omega (arith, p, q) in
    let z : length d - at ≡ 0 = omega arith in
    rw e (sym (sets_within xs d at ∙ rw z refl)))
    (below_or_not at (length d))

stored : (w v at f n : ℕ) (d z b e : List ℕ) → f ≡ min at (length d) → n ≡ min w (length d - f) → b ≡ le_bytes w v ++ z → e ≡ take n b
    → put_mid f (f + n - f) d e ≡ sets d at (le_bytes w v)
stored w v at f n d z b e p q r t =
    let m : f + n - f ≡ n = omega arith in
    let l : length (le_bytes w v) ≡ w = length_le_bytes w v in
    let x : e ≡ take n (le_bytes w v) = t ∙ ap (take n) r ∙ take-append-le n (le_bytes w v) z (omega (arith, q, l)) in
    rw (m, x) (run_within (le_bytes w v) d at f n p (q ∙ ap (λ (k : ℕ). min k (length d - f)) (sym l)))

pub returns : goal.returns
returns g c =
    let n = g.Self.Number in
    stored n.SIZE (n.value c.args.self) c.args.at _ _ c.args.d.now _ _ _ c.min-from.ensures
    (c.min-n.ensures ∙ ap (λ (k : ℕ). min k (length c.args.d.now - c.min-from.result)) c.SIZE.ensures) c.bytes-bytes.ensures c.copy_from_slice.ensures.after
