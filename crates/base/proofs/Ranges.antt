-- Tests: by which way one goes, which way a choice came, a test that holds at each number of a range, computed once, and of two numbers, which is
-- the less.
-- Assumes nothing.
use mathlib.Core.Path.{◌≡◌, refl, subst}
use mathlib.Core.Bool.{Bool, true, false}
use mathlib.Core.Logic.{⊎_elim, ◌⊎◌, inl, inr}
use Prim.Native.Nat.{ℕ, zero, suc, ◌+◌, ◌<◌, ◌≤◌}
use native.Mathlib.Omega.{arith}
use native.Mathlib.Nat.{le_antisymm}
use lib.Dec.{T}
use Rattle.base.specs.Choice.{pick}

-- by a test, with what it says
pub by_test : {X : Type 0} (b : Bool) → (b ≡ true → X) → (b ≡ false → X) → X
by_test true f g = f refl
by_test false f g = g refl

-- a choice whose value is not the first branch's came by the second, and one whose value is not the second's by the first
pub by_else : {A : Type 0} (t : Bool) (x y : A) {a : A} → (x ≡ a → ⊥) → pick t x y ≡ a → (t ≡ false) × (y ≡ a)
by_else true x y n h = absurd (n h)
by_else false x y n h = (refl, h)

pub by_then : {A : Type 0} (t : Bool) (x y : A) {a : A} → (y ≡ a → ⊥) → pick t x y ≡ a → (t ≡ true) × (x ≡ a)
by_then true x y n h = (refl, h)
by_then false x y n h = absurd (n h)

-- a choice between equals
pub either : {A : Type 0} (t : Bool) (x : A) → pick t x x ≡ x
either true x = refl
either false x = refl

-- one number is below another, or it is not
pub below_or_not : (a b : ℕ) → (a < b) ⊎ (b ≤ a)
below_or_not a zero = inr (omega arith)
below_or_not zero (suc b) = inl (omega arith)
below_or_not (suc a) (suc b) = ⊎_elim (λ p. inl (omega arith)) (λ q. inr (omega arith)) (below_or_not a b)

-- a test of two says the first
pub both_left : (a b : Bool) → T (pick a b false) → T a
both_left true b t = tt
both_left false b t = t

-- and the second
pub both_right : (a b : Bool) → T (pick a b false) → T b
both_right true b t = t
both_right false b t = absurd t

-- the test holds at the k numbers from lo
abbrev pub every : (ℕ → Bool) → ℕ → ℕ → Bool
every f lo zero = true
every f lo (suc k) = pick (f lo) (every f (suc lo) k) false

-- so it holds at any of them
pub in_range : (f : ℕ → Bool) (lo k n : ℕ) → T (every f lo k) → lo ≤ n → n < lo + k → T (f n)
in_range f lo zero n t a b = absurd (omega arith)
in_range f lo (suc k) n t a b =
    ⊎_elim
    (λ (e : lo < n). in_range f (suc lo) k n (both_right (f lo) (every f (suc lo) k) t) e (omega arith))
    (λ (e : n ≤ lo). subst (λ (m : ℕ). T (f m)) (le_antisymm a e) (both_left (f lo) (every f (suc lo) k) t))
    (below_or_not lo n)
