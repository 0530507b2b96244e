-- The window keeps the first 48 bytes of what is held: by whether that is more. Assumes nothing.
use mathlib.Core.Path.{◌≡◌, ◌∙◌}
use mathlib.Core.List.{List, [], ◌++◌, append-nil}
use Prim.Native.Nat.{ℕ, ◌+◌, ◌≤◌, ◌<◌}
use native.Mathlib.Omega.{arith}
use borrow.Author.Tests.{ltb-true, ltb-false}
use lib.Dec.{ltb}
use lib.ListN.{length, take, drop, length-append, length-take, length-drop, drop_of_length-le}
use lib.Seq.{take_all, take_at}
use Rattle.base.proofs.Lists.{take_first, take_comm}
use Rattle.base.proofs.Ranges.{by_test}
use Rattle.session.specs.PacketPhase.{keep}

pub keep_length : (w : List ℕ) (h : ℕ) (x : List ℕ) → length w ≡ 48 → length (keep w h x) ≡ 48
keep_length w h x size = simp (length-take, length-append, length-drop, size) (omega arith)

module _ (w b x : List ℕ) (size : length w ≡ 48) where
  pub keep_same : take (length b) w ≡ take 48 b → take (length b + length x) (keep w (length b) x) ≡ take 48 (b ++ x)
  keep_same same =
      let h : ℕ = length b in
      let f : take 48 (take h w ++ x) ≡ take 48 (b ++ x) = rw same (take_first 48 b x) in
      by_test (ltb 48 h)
      (λ m.
      let l : 48 < h = ltb-true _ _ m in
      let e : drop (h + length x) w ≡ [] = drop_of_length-le w {i = h + length x} (omega arith) in
      let t : length (keep w h x) ≤ h + length x = omega (arith, keep_length w h x size) in
      take_all (h + length x) (keep w h x) t ∙ (rw (e, append-nil) f))
      (λ m.
      let l : h ≤ 48 = ltb-false _ _ m in
      let p : length (take h w ++ x) ≡ h + length x = simp (length-append, length-take, size) (omega arith) in
      rw (take_comm (h + length x) 48, take_at (take h w ++ x) (drop (h + length x) w) (h + length x) p) f)
