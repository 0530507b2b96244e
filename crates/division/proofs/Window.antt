-- Bytes that are kept in the window, or pasted into a buffer, in two parts are kept or pasted at once: by whether the first part ends within the window.
-- Assumes
-- nothing.
use mathlib.Core.Path.{◌≡◌, refl, sym, ap, ◌∙◌}
use mathlib.Core.List.{List, [], ◌++◌, append-nil, append_assoc}
use Prim.Native.Nat.{ℕ, ◌+◌, ◌≤◌, ◌<◌}
use native.Mathlib.Omega.{arith}
use borrow.Author.Tests.{ltb-true, ltb-false}
use lib.Dec.{ltb}
use lib.ListN.{length, take, drop, length-append, length-take, length-drop, drop_of_length-le}
use lib.Seq.{take_all, take_at, drop_at, drop-drop, take-append-le, take-length, take-append-add, paste, take-paste, drop-paste}
use Rattle.base.proofs.Ranges.{by_test}
use Rattle.session.specs.PacketPhase.{keep}
use Rattle.session.proofs.Window.{keep_length}

module _ (w : List ℕ) (h : ℕ) (x y : List ℕ) (full : length w ≡ 48) where
  abbrev v : List ℕ
  v = keep w h x

  size : length v ≡ 48
  size = keep_length w h x full

  -- the part that x ends within the window
  within : h + length x ≤ 48 → keep v (h + length x) y ≡ keep w h (x ++ y)
  within l =
      let a : length (take h w ++ x) ≡ h + length x = simp (length-append, length-take, full) (omega arith) in
      let b : v ≡ (take h w ++ x) ++ drop (h + length x) w =
      take_all 48 (take h w ++ x ++ drop (h + length x) w) (simp (length-append, length-take, length-drop, full) (omega arith))
      in
      let c : take (h + length x) v ≡ take h w ++ x =
      ap (take (h + length x)) b ∙ take_at (take h w ++ x) (drop (h + length x) w) (h + length x) a in
      let e : drop (h + length x) v ≡ drop (h + length x) w =
      ap (drop (h + length x)) b ∙ drop_at (take h w ++ x) (drop (h + length x) w) (h + length x) a in
      let f : drop (h + length x + length y) v ≡ drop (h + length x + length y) w =
      sym (drop-drop (length y) (h + length x) v) ∙ ap (drop (length y)) e ∙ drop-drop (length y) (h + length x) w in
      let g : h + length (x ++ y) ≡ h + length x + length y = omega (arith, length-append x y) in
      rw (c, f, g) (ap (λ (l : List ℕ). take 48 (l ++ drop (h + length x + length y) w)) (append_assoc (take h w) x y))

  -- or past it
  past : 48 < h + length x → keep v (h + length x) y ≡ keep w h (x ++ y)
  past l =
      let a : 48 ≤ length (take h w ++ x) = simp (length-append, length-take, full) (omega arith) in
      let e : drop (h + length x) w ≡ [] = drop_of_length-le w {i = h + length x} (omega arith) in
      let b : v ≡ take 48 (take h w ++ x) = rw (e, append-nil) refl in
      let c : take (h + length x) v ≡ v = take_all (h + length x) v (omega (arith, size)) in
      let f : drop (h + length x + length y) v ≡ [] = drop_of_length-le v {i = h + length x + length y} (omega (arith, size)) in
      let g : drop (h + length (x ++ y)) w ≡ [] = drop_of_length-le w {i = h + length (x ++ y)} (omega (arith, length-append x y)) in
      let k : take 48 (v ++ y) ≡ v = take_at v y 48 size in
      let i : take 48 ((take h w ++ x) ++ y) ≡ take 48 (take h w ++ x) = take-append-le 48 (take h w ++ x) y a in
      rw (c, f, append-nil, k, g, append-nil, ← append_assoc, i) b

  pub keep_keep : keep v (h + length x) y ≡ keep w h (x ++ y)
  keep_keep = by_test (ltb 48 (h + length x)) (λ m. past (ltb-true _ _ m)) (λ m. within (ltb-false _ _ m))

-- x, and behind it n bytes of y
pub paste_paste : (b : List ℕ) (at : ℕ) (x y : List ℕ) (n : ℕ) → at + length x ≤ length b
    → paste (paste b at x (length x)) (at + length x) y n ≡ paste b at (x ++ y) (length x + n)
paste_paste b at x y n l =
    let v : List ℕ = paste b at x (length x) in
    let c : take (at + length x) v ≡ take at b ++ take (length x) x = take-paste b at x (length x) (omega arith) (omega arith) in
    let e : drop (at + length x) v ≡ drop (at + length x) b = drop-paste b at x (length x) (omega arith) (omega arith) in
    let f : drop (at + length x + n) v ≡ drop (at + length x + n) b =
    sym (drop-drop n (at + length x) v) ∙ ap (drop n) e ∙ drop-drop n (at + length x) b in
    let g : at + (length x + n) ≡ at + length x + n = omega arith in
    rw (c, f, take-append-add, take-length, g) (ap (λ (l : List ℕ). l ++ drop (at + length x + n) b) (append_assoc (take at b) x (take n y)))
