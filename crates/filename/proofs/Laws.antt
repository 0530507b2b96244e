-- Laws of filenames: the bytes before a byte are a beginning, so is the stem, and a sound name is refused nowhere. Assumes nothing.
use mathlib.Core.Path.{◌≡◌, refl, sym, ap, ◌∙◌}
use mathlib.Core.Bool.{Bool, true, false, cond, not}
use mathlib.Core.Logic.{⊎_elim}
use mathlib.Core.List.{List, [], ◌∷◌}
use Prim.Native.Nat.{ℕ, suc, ◌+◌, ◌<◌, ◌≤◌}
use native.Mathlib.Omega.{arith}
use lib.Dec.{eqb, ltb, lit<, leb-suc-suc}
use lib.ListN.{length, get_or, take, length-take}
use borrow.Author.Tests.{lt-ltb, le-ltb, eqb-true, ltb-true}
use Rattle.std.specs.List.{position, position_or_len}
use Rattle.std.specs.Option.{unwrap_or}
use Rattle.base.specs.Choice.{pick}
use Rattle.base.proofs.Ranges.{below_or_not}
use Rattle.utf8.specs.Utf8.{utf8}
use Rattle.utf8.proofs.Laws.{cut}
use Rattle.filename.specs.Filename.{before, has, stem_of, open_check, after_open_check, sound}
use Rattle.std.specs.Prelude.{Err}
use Rattle.refusal.specs.declared.Refusal.TheVariants as Refusal
use Rattle.refusal.specs.Refusal.{accepted}

-- the bytes before the first b are a beginning
pub before_take : (b : ℕ) (s : List ℕ) → before b s ≡ take (length (before b s)) s
unfolding before
before_take b [] = refl
before_take b (x ∷ xs) = by (eqb x b) (before_take b xs) where
  by : (t : Bool) → before b xs ≡ take (length (before b xs)) xs
      → pick t [] (x ∷ before b xs) ≡ take (length (pick t [] (x ∷ before b xs))) (x ∷ xs)
  by true e = refl
  by false e = ap (λ (l : List ℕ). x ∷ l) e

-- so many bytes of the whole are they
pub take_before : (b : ℕ) (s : List ℕ) (k : ℕ) → k ≡ length (before b s) → take k s ≡ before b s
take_before b s k e = ap (λ (n : ℕ). take n s) e ∙ sym (before_take b s)

-- they are no more than the whole
pub length_before : (b : ℕ) (s : List ℕ) → length (before b s) ≤ length s
unfolding before
length_before b [] = omega arith
length_before b (x ∷ xs) = by (eqb x b) (length_before b xs) where
  by : (t : Bool) → length (before b xs) ≤ length xs → length (pick t [] (x ∷ before b xs)) ≤ suc (length xs)
  by true h = omega arith
  by false h = omega arith

-- one of the bytes is b just where fewer than all stand before the first b
pub has_before : (b : ℕ) (s : List ℕ) → has b s ≡ ltb (length (before b s)) (length s)
unfolding before has
has_before b [] = refl
has_before b (x ∷ xs) = by (eqb x b) (has_before b xs) where
  by : (t : Bool) → has b xs ≡ ltb (length (before b xs)) (length xs)
      → pick t true (has b xs) ≡ ltb (length (pick t [] (x ∷ before b xs))) (suc (length xs))
  by true e = sym (lt-ltb 0 (suc (length xs)) (omega arith))
  by false e = e ∙ sym (leb-suc-suc (suc (length (before b xs))) (length xs))

-- fewer than all: one is b
pub has_one : (b : ℕ) (s : List ℕ) → length (before b s) < length s → has b s ≡ true
has_one b s h = has_before b s ∙ lt-ltb (length (before b s)) (length s) h

-- all: none is b
pub has_none : (b : ℕ) (s : List ℕ) → length s ≤ length (before b s) → has b s ≡ false
has_none b s h = has_before b s ∙ le-ltb (length (before b s)) (length s) h

-- the byte behind them is b
pub at_before : (b : ℕ) (s : List ℕ) → length (before b s) < length s → get_or s (length (before b s)) 0 ≡ b
unfolding before
at_before b [] h = absurd (omega arith)
at_before b (x ∷ xs) h = by (eqb x b) refl (at_before b xs) h where
  by : (t : Bool) → eqb x b ≡ t → (length (before b xs) < length xs → get_or xs (length (before b xs)) 0 ≡ b)
      → length (pick t [] (x ∷ before b xs)) < suc (length xs) → get_or (x ∷ xs) (length (pick t [] (x ∷ before b xs))) 0 ≡ b
  by true e k h = eqb-true x b e
  by false e k h = k (omega arith)

-- they end at b's first place, or with the whole
place_of : (b : ℕ) (s : List ℕ) → position_or_len (λ x. eqb x b) s ≡ length (before b s)
unfolding before
place_of b [] = refl
place_of b (x ∷ xs) = by (eqb x b) (place_of b xs) where
  by : (t : Bool) → position_or_len (λ x. eqb x b) xs ≡ length (before b xs)
      → cond (not t) (1 + position_or_len (λ x. eqb x b) xs) 0 ≡ length (pick t [] (x ∷ before b xs))
  by true e = refl
  by false e = omega arith

pub place_or_end : (b : ℕ) (s : List ℕ) → unwrap_or (position (λ x. eqb x b) s) (length s) ≡ length (before b s)
place_or_end b s =
    ⊎_elim
    (λ (f : length (before b s) < length s). rw (place_of b s, lt-ltb (length (before b s)) (length s) f) refl)
    (λ (f : length s ≤ length (before b s)). rw (place_of b s, le-ltb (length (before b s)) (length s) f) (omega (arith, length_before b s)))
    (below_or_not (length (before b s)) (length s))

-- the stem is a beginning of the name
pub stem_take : (name : List ℕ) → stem_of name ≡ take (length (stem_of name)) name
unfolding stem_of
stem_take name = by (utf8 name) where
  by : (t : Bool) → pick t (before 0x2E name) [] ≡ take (length (pick t (before 0x2E name) [])) name
  by true = before_take 0x2E name
  by false = refl

-- it is no longer than the name
pub length_stem : (name : List ℕ) → length (stem_of name) ≤ length name
unfolding stem_of
length_stem name = by (utf8 name) where
  by : (t : Bool) → length (pick t (before 0x2E name) []) ≤ length name
  by true = length_before 0x2E name
  by false = omega arith

-- opening refuses a name without zero byte with 19
pub opening_none : (name : List ℕ) → length name ≤ length (before 0 name) → open_check name ≡ Err Refusal.FilenameEnd
unfolding open_check
opening_none name h = rw (has_none 0 name h)

-- and goes by the k bytes before the first zero where there is one
pub opening_one : (name : List ℕ) (k : ℕ) (t : Bool) → k ≡ length (before 0 name) → k < length name → t ≡ utf8 (take k name)
    → open_check name ≡ pick t accepted (Err Refusal.Filename)
unfolding open_check
opening_one name k t e l u =
    let h : has 0 name ≡ true = has_one 0 name (omega arith) in
    let v : utf8 (before 0 name) ≡ t = ap utf8 (sym (take_before 0 name k e)) ∙ sym u in
    rw (h, v) refl

-- the bytes before the first zero, and what opening says by them
pub ruleset opened = (length_before, length-take, opening_none, opening_one)

-- what the two tests of a sound name say
sound_utf8 : (t h : Bool) → pick t h false ≡ true → t ≡ true
sound_utf8 true h e = refl
sound_utf8 false h e = e

sound_has : (t h : Bool) → pick t h false ≡ true → h ≡ true
sound_has true h e = e
sound_has false true e = refl
sound_has false false e = e

-- UTF-8 of all bytes gives UTF-8 of those before the first ASCII byte b, where there is one
pub utf8_before : (b : ℕ) (s : List ℕ) → b < 0x80 → has b s ≡ true → utf8 s ≡ true → utf8 (before b s) ≡ true
utf8_before b s l h u =
    let k : length (before b s) < length s = ltb-true _ _ (sym (has_before b s) ∙ h) in
    rw (before_take b s) (cut s (length (before b s)) k (rw (at_before b s k) l) u)

-- opening a region does not refuse a sound name
pub sound_open : (name : List ℕ) → sound name ≡ true → open_check name ≡ accepted
unfolding sound open_check
sound_open name e =
    let u : utf8 name ≡ true = sound_utf8 (utf8 name) (has 0 name) e in
    let h : has 0 name ≡ true = sound_has (utf8 name) (has 0 name) e in
    rw (h, utf8_before 0 name (lit< tt) h u)

-- nor does the step after open
pub sound_after_open : (name : List ℕ) → sound name ≡ true → after_open_check name ≡ accepted
unfolding sound after_open_check
sound_after_open name e = rw (sound_utf8 (utf8 name) (has 0 name) e)
