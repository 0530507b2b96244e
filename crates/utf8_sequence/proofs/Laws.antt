-- Where the bytes that follow a lead byte end: by how many are to follow, and which of them are there. Assumes nothing.
use mathlib.Core.Path.{◌≡◌, refl, sym, ◌∙◌}
use mathlib.Core.Bool.{Bool, true, false, false≢true}
use mathlib.Core.Logic.{⊎_elim}
use mathlib.Core.List.{List}
use Prim.Native.Nat.{ℕ, zero, suc, ◌+◌, ◌<◌, ◌≤◌}
use native.Mathlib.Omega.{arith}
use native.Mathlib.Numerals.{add-one}
use lib.Dec.{leb}
use lib.ListN.{length, get_or, drop, drop_of_length-le}
use lib.Seq.{drop-cons}
use borrow.Author.Tests.{lt-leb}
use Rattle.base.specs.Choice.{pick}
use Rattle.base.proofs.Ranges.{below_or_not, either}
use Rattle.utf8_sequence.specs.Sequence.{follows, end_of}
use Rattle.utf8_sequence.specs.declared.Follow.{Follow}

-- behind the end none is there
pub none : (low high : ℕ) (s : List ℕ) (i : ℕ) → length s ≤ i → follows 1 low high (drop i s) ≡ false
unfolding follows
none low high s i l = rw (drop_of_length-le s {i = i} l) refl

-- before it, the byte that stands there
pub first : (low high : ℕ) (s : List ℕ) (i : ℕ) → i < length s
    → follows 1 low high (drop i s) ≡ pick (leb low (get_or s i 0)) (leb (get_or s i 0) high) false
unfolding follows
first low high s i l = rw (drop-cons s i 0) (by (leb low (get_or s i 0)) (leb (get_or s i 0) high)) where
  by : (a b : Bool) → pick a (pick b true false) false ≡ pick a b false
  by true true = refl
  by true false = refl
  by false b = refl

-- where one is there, its place is one of the text's
pub placed : (low high : ℕ) (s : List ℕ) (i : ℕ) → follows 1 low high (drop i s) ≡ true → i < length s
placed low high s i t =
    ⊎_elim (λ (l : i < length s). l) (λ (l : length s ≤ i). absurd (false≢true (sym (none low high s i l) ∙ t))) (below_or_not i (length s))

-- one more: the first, and the others from the next place on
step : (n low high : ℕ) (s : List ℕ) (i j : ℕ) → j ≡ i + 1
    → follows (suc n) low high (drop i s) ≡ pick (follows 1 low high (drop i s)) (follows n 0x80 0xBF (drop j s)) false
unfolding follows
step n low high s i j e =
    ⊎_elim
    (λ (l : i < length s). rw (e, add-one, drop-cons s i 0) (by (leb low (get_or s i 0)) (leb (get_or s i 0) high) (follows n 0x80 0xBF (drop (suc i) s))))
    (λ (l : length s ≤ i). rw (drop_of_length-le s {i = i} l) refl)
    (below_or_not i (length s)) where
      by : (a b t : Bool) → pick a (pick b t false) false ≡ pick (pick a (pick b true false) false) t false
      by true true t = refl
      by true false t = refl
      by false b t = refl

-- n do not follow where the first is not there
no_first : (n low high : ℕ) (s : List ℕ) (i : ℕ) → (n ≡ 0 → ⊥) → follows 1 low high (drop i s) ≡ false → follows n low high (drop i s) ≡ false
no_first zero low high s i h e = absurd (h refl)
no_first (suc n) low high s i h e = rw (step n low high s i (i + 1) refl, e) refl

-- nor where one behind it is not
no_later : (k n low high : ℕ) (s : List ℕ) (i j : ℕ) → k + 1 < n → j ≡ i + 1 + k → follows 1 0x80 0xBF (drop j s) ≡ false
    → follows n low high (drop i s) ≡ false
no_later k zero low high s i j h d e = absurd (omega arith)
no_later zero (suc n) low high s i j h d e =
    let m : j ≡ i + 1 = omega arith in
    let t = no_first n 0x80 0xBF s (i + 1) (λ z. omega arith) (rw m at e) in
    rw (step n low high s i (i + 1) refl, t) (either (follows 1 low high (drop i s)) false)
no_later (suc k) (suc n) low high s i j h d e =
    rw (step n low high s i (i + 1) refl, no_later k n 0x80 0xBF s (i + 1) j (omega arith) (omega arith) e)
    (either (follows 1 low high (drop i s)) false)

module _ (f : Follow) (s : List ℕ) (i : ℕ) where
  -- the bytes to come are there: the second of the sequence, the third, the fourth
  abbrev Second : Bool → Type 0
  Second t = follows 1 f.1 f.2 (drop i s) ≡ t

  abbrev Third : Bool → Type 0
  Third t = follows 1 0x80 0xBF (drop (i + 1) s) ≡ t

  abbrev Fourth : Bool → Type 0
  Fourth t = follows 1 0x80 0xBF (drop (i + 2) s) ≡ t

  nowhere : follows f.0 f.1 f.2 (drop i s) ≡ false → 0 ≡ end_of f s i
  nowhere e = rw e (sym (either (leb f.0 3) 0))

  pub no_second : (f.0 ≡ 0 → ⊥) → Second false → 0 ≡ end_of f s i
  no_second n e = nowhere (no_first f.0 f.1 f.2 s i n e)

  pub no_third : 1 < f.0 → Third false → 0 ≡ end_of f s i
  no_third n e = nowhere (no_later 0 f.0 f.1 f.2 s i (i + 1) n (omega arith) e)

  pub no_fourth : 2 < f.0 → Fourth false → 0 ≡ end_of f s i
  no_fourth n e = nowhere (no_later 1 f.0 f.1 f.2 s i (i + 2) n (omega arith) e)

  -- they end where as many are there as are to follow
  pub one_byte : f.0 ≡ 0 → i ≡ end_of f s i
  unfolding follows
  one_byte n = rw n (omega arith)

  pub two_bytes : f.0 ≡ 1 → Second true → i + 1 ≡ end_of f s i
  two_bytes n a = rw (n, a) refl

  pub three_bytes : f.0 ≡ 2 → Second true → Third true → i + 2 ≡ end_of f s i
  three_bytes n a b = rw (n, step 1 f.1 f.2 s i (i + 1) refl, a, b) refl

  pub four_bytes : f.0 ≡ 3 → Second true → Third true → Fourth true → i + 3 ≡ end_of f s i
  four_bytes n a b c = rw (n, step 2 f.1 f.2 s i (i + 1) refl, a, step 1 0x80 0xBF s (i + 1) (i + 2) (omega arith), b, c) refl

  pub too_many : 3 < f.0 → 0 ≡ end_of f s i
  too_many n = rw (lt-leb f.0 3 n) refl

-- for each return of `behind`
pub ruleset by_bytes = (placed, no_second, no_third, no_fourth, one_byte, two_bytes, three_bytes, four_bytes, too_many)
