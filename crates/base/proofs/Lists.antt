-- Laws of lists that the kit does not have: stores, a part of a part, and beginnings. Assumes nothing.
use mathlib.Core.Path.{◌≡◌, refl, sym, ap, ◌∙◌}
use mathlib.Core.List.{List, [], ◌∷◌, ◌++◌}
use Prim.Native.Nat.{ℕ, zero, suc, ◌+◌, ◌<◌, ◌≤◌}
use native.Mathlib.Nat.{add-zero, add-suc, suc-add, zero-add}
use native.Mathlib.Omega.{arith}
use lib.ListN.{length, get_or, take, drop, set}
use lib.Seq.{sets, sets-eq, set_comm, take-suc, length-take-le, take-take, take-nil, drop-drop}

-- a store of two runs is two stores
pub sets_append : (xs ys d : List ℕ) (at : ℕ) → sets d at (xs ++ ys) ≡ sets (sets d at xs) (at + length xs) ys
sets_append [] ys d at = rw add-zero refl
sets_append (x ∷ xs) ys d at = rw (add-suc, ← suc-add) (sets_append xs ys (set d at x) (suc at))

-- the second from where the first ends
pub sets_behind : (xs ys d : List ℕ) (at b : ℕ) → at + length xs ≡ b → sets d at (xs ++ ys) ≡ sets (sets d at xs) b ys
sets_behind xs ys d at b e = sets_append xs ys d at ∙ rw e refl

-- a store of a run of n, and one more
pub sets_more : (xs : List ℕ) (y : ℕ) (d : List ℕ) (at n : ℕ) → length xs ≡ n → sets d at (xs ++ y ∷ []) ≡ set (sets d at xs) (at + n) y
sets_more xs y d at n e = sets_behind xs (y ∷ []) d at (at + n) (ap (λ (k : ℕ). at + k) e)

-- of the first j of a run, and one more
pub sets_take_more : (xs d : List ℕ) (at j : ℕ) → j < length xs → sets d at (take (suc j) xs) ≡ set (sets d at (take j xs)) (at + j) (get_or xs j 0)
sets_take_more xs d at j h = rw (take-suc xs j 0 h) (sets_more (take j xs) (get_or xs j 0) d at j (length-take-le j xs (omega arith)))

-- a store behind a run of stores may be made before it
pub set_sets : (xs d : List ℕ) (at i v : ℕ) → at + length xs ≤ i → set (sets d at xs) i v ≡ sets (set d i v) at xs
set_sets [] d at i v h = refl
set_sets (x ∷ xs) d at i v h =
    set_sets xs (set d at x) (suc at) i v (omega arith) ∙ ap (λ (l : List ℕ). sets l (suc at) xs) (set_comm d at i x v (λ e. omega arith))

-- a run of k stored at the front is the run, then what stood behind it
pub sets_front : (xs d : List ℕ) (k : ℕ) → length xs ≡ k → k ≤ length d → sets d 0 xs ≡ xs ++ drop k d
sets_front xs d k e h = rw (← e) (sets-eq xs d 0 (rw zero-add (omega arith)) ∙ rw zero-add refl)

-- a part of a list's first n is that part of the list
pub part_of_first : {A : Type 0} (o l n : ℕ) (xs : List A) → o + l ≤ n → take l (drop o (take n xs)) ≡ take l (drop o xs)
part_of_first zero l n xs h = take-take l n xs (omega arith)
part_of_first (suc o) l zero xs h = absurd (omega arith)
part_of_first (suc o) l (suc n) [] h = refl
part_of_first (suc o) l (suc n) (x ∷ xs) h = part_of_first o l n xs (omega arith)

-- and of the n from m on, that part of the list from m on
pub part_of_part : {A : Type 0} (o l n m : ℕ) (xs : List A) → o + l ≤ n → take l (drop o (take n (drop m xs))) ≡ take l (drop (m + o) xs)
part_of_part o l n m xs h = rw (part_of_first o l n (drop m xs) h, drop-drop o m xs) refl

-- only the first n of b matter to the first n of b ++ x
pub take_first : (n : ℕ) (b x : List ℕ) → take n (take n b ++ x) ≡ take n (b ++ x)
take_first zero b x = refl
take_first (suc n) [] x = refl
take_first (suc n) (c ∷ cs) x = ap (λ (r : List ℕ). c ∷ r) (take_first n cs x)

-- two beginnings may be taken in either order
pub take_comm : (m n : ℕ) (l : List ℕ) → take m (take n l) ≡ take n (take m l)
take_comm zero n l = sym (take-nil n)
take_comm (suc m) zero l = refl
take_comm (suc m) (suc n) [] = refl
take_comm (suc m) (suc n) (x ∷ xs) = ap (λ (r : List ℕ). x ∷ r) (take_comm m n xs)
