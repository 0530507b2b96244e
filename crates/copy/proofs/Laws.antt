-- Laws of copies: what is copied where it fits, what where it does not, and that the length is kept. Assumes nothing.
use mathlib.Core.Path.{◌≡◌, refl, sym, ap, ◌∙◌}
use mathlib.Core.Logic.{⊎_elim}
use mathlib.Core.List.{List, ◌++◌}
use Prim.Native.Nat.{ℕ, ◌+◌, ◌<◌, ◌≤◌}
use native.Mathlib.Omega.{arith}
use borrow.Author.Tests.{lt-ltb, le-ltb}
use lib.ListN.{length, take, drop}
use lib.Seq.{sets, sets-eq, paste, length-paste, take_all}
use Rattle.base.proofs.Ranges.{below_or_not}
use Rattle.copy.specs.Copy.{copied}

module _ (d : List ℕ) (at : ℕ) (s : List ℕ) (n : ℕ) where
  -- where the bytes fit and are there, they are pasted
  pub copied_fits : at + n ≤ length d → n ≤ length s → copied d at s n ≡ paste d at s n
  unfolding copied
  copied_fits f g = rw (le-ltb (length d) (at + n) f, le-ltb (length s) n g) refl

  -- all n bytes of s are stored
  pub copied_stored : at + n ≤ length d → length s ≡ n → copied d at s n ≡ sets d at s
  copied_stored f e =
      copied_fits f (omega arith)
      ∙ rw (take_all n s (omega arith)) (ap (λ (k : ℕ). take at d ++ s ++ drop (at + k) d) (sym e))
      ∙ sym (sets-eq s d at (omega arith))

  -- where they do not fit, nothing changes
  pub copied_beyond : length d < at + n → copied d at s n ≡ d
  unfolding copied
  copied_beyond f = rw (lt-ltb (length d) (at + n) f) refl

  -- where they fit and are not there, nothing changes
  pub copied_short : at + n ≤ length d → length s < n → copied d at s n ≡ d
  unfolding copied
  copied_short f g = rw (le-ltb (length d) (at + n) f, lt-ltb (length s) n g) refl

  -- a copy keeps the length
  pub length_copied : length (copied d at s n) ≡ length d
  length_copied =
      ⊎_elim
      (λ (f : length d < at + n). ap length (copied_beyond f))
      (λ (f : at + n ≤ length d).
      ⊎_elim
      (λ (g : length s < n). ap length (copied_short f g))
      (λ (g : n ≤ length s). ap length (copied_fits f g) ∙ length-paste d at s n f g)
      (below_or_not (length s) n))
      (below_or_not (length d) (at + n))
