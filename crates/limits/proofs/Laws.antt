-- A law of tests: two that say the same are equal. Assumes nothing.
use mathlib.Core.Path.{◌≡◌, sym, ◌∙◌}
use mathlib.Core.Logic.{⊎_elim}
use Prim.Native.Nat.{ℕ, ◌<◌, ◌≤◌}
use borrow.Author.Tests.{lt-ltb, le-ltb}
use lib.Dec.{ltb}
use Rattle.base.proofs.Ranges.{below_or_not}

-- two tests that hold together are equal
pub same_ltb : (a b x y : ℕ) → (a < b → x < y) → (b ≤ a → y ≤ x) → ltb a b ≡ ltb x y
same_ltb a b x y f g =
    ⊎_elim (λ (h : a < b). lt-ltb a b h ∙ sym (lt-ltb x y (f h))) (λ (h : b ≤ a). le-ltb a b h ∙ sym (le-ltb x y (g h))) (below_or_not a b)
