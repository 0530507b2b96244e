-- Laws of the window: what a copy of the bytes that fit leaves in it, and a packet's bytes in it. Assumes nothing.
use mathlib.Core.Path.{◌≡◌, sym, ap, ◌∙◌}
use mathlib.Core.List.{List, ◌++◌, append_assoc, append-nil}
use mathlib.Core.Logic.{⊎_elim}
use Prim.Native.Nat.{ℕ, ◌+◌, ◌-◌, ◌<◌, ◌≤◌, min}
use native.Mathlib.Omega.{arith}
use lib.ListN.{length, take, drop, drop_of_length-le}
use lib.Seq.{paste, length-paste, take_all, take-length, take_at, take-append-add, take-append-le, length-take-le}
use Rattle.base.proofs.Ranges.{below_or_not}
use Rattle.copy.specs.Copy.{copied}
use Rattle.copy.proofs.Laws.{copied_fits, copied_beyond}
use Rattle.session.specs.PacketPhase.{keep}

module _ (w : List ℕ) (full : length w ≡ 48) where
  -- a packet's first bytes in the window are those of its first 48
  pub window_take : (n : ℕ) → take (min n 48) w ≡ take n w
  window_take n =
      ⊎_elim
      (λ (l : n < 48). ap (λ (k : ℕ). take k w) (let e : min n 48 ≡ n = omega arith in e))
      (λ (l : 48 ≤ n).
      let e : min n 48 ≡ 48 = omega arith in
      ap (λ (k : ℕ). take k w) e ∙ take_all 48 w (omega arith) ∙ sym (take_all n w (omega arith)))
      (below_or_not n 48)

  module _ (h : ℕ) (x : List ℕ) where
    behind : List ℕ
    behind = drop (h + length x) w

    -- a full window keeps nothing more
    keep_full : 48 < h → keep w h x ≡ w
    unfolding behind
    keep_full l =
        ap (λ (q : List ℕ). take 48 (q ++ x ++ behind)) (take_all h w (omega arith))
        ∙ ap (take 48) (append_assoc w x behind)
        ∙ take_at w (x ++ behind) 48 full

    -- bytes that fit are kept
    keep_fits : h + length x ≤ 48 → keep w h x ≡ paste w h x (length x)
    unfolding behind
    keep_fits l =
        let e : paste w h x (length x) ≡ take h w ++ x ++ behind = ap (λ (q : List ℕ). take h w ++ q ++ behind) (take-length x) in
        let p : length (take h w ++ x ++ behind) ≡ 48 =
        ap length (sym e) ∙ length-paste w h x (length x) (omega arith) (omega arith) ∙ full in
        take_all 48 (take h w ++ x ++ behind) (omega arith) ∙ sym e

    -- of others the first ones
    keep_part : h ≤ 48 → 48 - h < length x → keep w h x ≡ paste w h x (48 - h)
    unfolding behind
    keep_part l m =
        let n = 48 - h in
        let t : length (take h w) ≡ h = length-take-le h w (omega arith) in
        let e : 48 ≡ length (take h w) + n = omega arith in
        ap (take 48) (append_assoc (take h w) x behind)
        ∙ ap (λ (k : ℕ). take k (take h w ++ (x ++ behind))) e
        ∙ take-append-add (take h w) (x ++ behind) n
        ∙ ap (λ (q : List ℕ). take h w ++ q) (take-append-le n x behind (omega arith))
        ∙ sym (append-nil (take h w ++ take n x))
        ∙ ap (λ (q : List ℕ). take h w ++ take n x ++ q) (sym (drop_of_length-le w {i = h + n} (omega arith)))

    -- a copy of the bytes that fit behind the h held ones
    pub copy_kept : copied w h x (min (48 - h) (length x)) ≡ keep w h x
    copy_kept =
        ⊎_elim
        (λ (l : 48 < h). copied_beyond w h x (min (48 - h) (length x)) (omega arith) ∙ sym (keep_full l))
        (λ (l : h ≤ 48).
        copied_fits w h x (min (48 - h) (length x)) (omega arith) (omega arith)
        ∙ ⊎_elim
        (λ (m : 48 - h < length x).
        let e : min (48 - h) (length x) ≡ 48 - h = omega arith in
        ap (paste w h x) e ∙ sym (keep_part l m))
        (λ (m : length x ≤ 48 - h).
        let e : min (48 - h) (length x) ≡ length x = omega arith in
        ap (paste w h x) e ∙ sym (keep_fits (omega arith)))
        (below_or_not (48 - h) (length x)))
        (below_or_not 48 h)
