-- Laws of tests: each by the test. Assumes nothing.
use mathlib.Core.Path.{◌≡◌, refl}
use mathlib.Core.Bool.{Bool, true, false, ◌&&◌, ◌||◌}
use Prim.Native.Nat.{ℕ}
use native.Mathlib.Omega.{arith}
use lib.Dec.{T}
use Rattle.base.specs.Choice.{pick}

-- what holds of both branches holds of a decision: P and the test are written, the branches are found
pub split : {A : Type 0} {x y : A} (P : A → Type 0) (b : Bool) → (b ≡ true → P x) → (b ≡ false → P y) → P (pick b x y)
split P true f g = f refl
split P false f g = g refl

-- two answers of a test differ
pub differ : {X : Type 0} → false ≡ true → X
differ e = absurd (let z : ◌≡◌ {A = ℕ} 0 1 = cc in omega arith)

-- both of two tests hold
pub and_true : (a b : Bool) → a && b ≡ true → (a ≡ true) × (b ≡ true)
and_true true b e = (refl, e)
and_true false b e = differ e

pub and_false : (a : Bool) → a && false ≡ false
and_false true = refl
and_false false = refl

-- neither of two tests holds
pub neither : (a b : Bool) → (a || b) ≡ false → (a ≡ false) × (b ≡ false)
neither true b h = absurd (let z : ◌≡◌ {A = ℕ} 0 1 = cc in omega arith)
neither false b h = (refl, h)

-- a test that holds, and the type that it holds
pub holds : (b : Bool) → T b → b ≡ true
holds true e = refl
holds false e = absurd e

pub held : (b : Bool) → b ≡ true → T b
held b e = rw e tt
