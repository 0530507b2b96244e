-- Laws of UTF-8: what the class of a byte says of the text from there on, and that a text may be cut before any ASCII byte. Assumes nothing.
use mathlib.Core.Path.{◌≡◌, refl, sym, ap, ◌∙◌}
use mathlib.Core.Bool.{Bool, true, false, false≢true}
use mathlib.Core.List.{List, [], ◌∷◌, ◌++◌}
use Prim.Native.Nat.{ℕ, zero, suc, ◌+◌, ◌-◌, ◌<◌, ◌≤◌}
use native.Mathlib.Omega.{arith}
use lib.Dec.{T, leb, leb→le}
use lib.ListN.{length, get_or, take, drop}
use lib.Seq.{split_at, drop-cons, drop-drop}
use borrow.Author.Tests.{le-leb, lt-leb, eq-eqb, ne_eqb}
use Rattle.std.specs.List.{slice_get}
use Rattle.std.proofs.Common.{None, Some}
use Rattle.std.proofs.lemmas.Option.{slice_get_within, get_or_from_slice_get}
use Rattle.base.specs.Choice.{pick}
use Rattle.utf8_sequence.specs.Sequence.{follows, end_of}
use Rattle.utf8_sequence.specs.declared.Follow.{Follow}
use Rattle.utf8.specs.Utf8.{Range, from, within, Row, table, leads, after_first, goes_on, utf8}
use Rattle.utf8.specs.Classes.{follow, follow_of, Class, no_lead, lead, lead_of, class_of, Rule}
use Rattle.base.proofs.Ranges.{both_left, both_right, by_else, by_then}

-- P holds of what each row has after its first byte
abbrev Each : (List Range → Type 0) → List Row → Type 0
Each P [] = P []
Each P (r ∷ rs) = P r.after × Each P rs

-- what holds of either holds of the one chosen
chosen : {A : Type 0} (P : A → Type 0) (t : Bool) (a b : A) → P a → P b → P (pick t a b)
chosen P true a b p q = p
chosen P false a b p q = q

-- what holds of each row's rest, and of nothing, holds of what is to come after any byte
after_each : (P : List Range → Type 0) (rows : List Row) (b : ℕ) → Each P rows → P (after_first rows b)
unfolding after_first
after_each P [] b e = e
after_each P (r ∷ rs) b e = chosen P (within r.first b) r.after (after_first rs b) e.0 (after_each P rs b e.1)

-- the ranges of n bytes to come, the first of them low..high; those behind it are 0x80..0xBF
pending : ℕ → ℕ → ℕ → List Range
pending zero low high = []
pending (suc n) low high = from low high ∷ pending n 0x80 0xBF

abbrev ranges_of : Follow → List Range
ranges_of f = pending f.0 f.1 f.2

-- these are the table's, of each of its rows
ranges_follow : (b : ℕ) → ranges_of (follow_of (after_first table b)) ≡ after_first table b
unfolding table pending
ranges_follow b =
    after_each (λ (rs : List Range). ranges_of (follow_of rs) ≡ rs) table b
    (refl, (refl, (refl, (refl, (refl, (refl, (refl, (refl, (refl, refl)))))))))

-- bytes go on where those to come are there, and what stands behind them is UTF-8
goes_follows : (n low high : ℕ) (bs : List ℕ) → goes_on (pending n low high) bs ≡ pick (follows n low high bs) (utf8 (drop n bs)) false
unfolding goes_on pending follows
goes_follows zero low high bs = refl
goes_follows (suc n) low high [] = refl
goes_follows (suc n) low high (b ∷ bs) =
    by (leb low b) (leb b high) (goes_on (pending n 0x80 0xBF) bs) (follows n 0x80 0xBF bs) (utf8 (drop n bs)) (goes_follows n 0x80 0xBF bs) where
      by : (a b x t u : Bool) → x ≡ pick t u false → pick (pick a b false) x false ≡ pick (pick a (pick b t false) false) u false
      by true true x t u e = e
      by true false x t u e = refl
      by false b x t u e = refl

-- whether bytes are what stands behind a lead byte of a class, and UTF-8 behind that
abbrev pub goes_by : Class → List ℕ → Bool
goes_by no_lead bs = false
goes_by (lead f) bs = pick (follows f.0 f.1 f.2 bs) (utf8 (drop f.0 bs)) false

-- a text, by the class of its first byte
pub by_lead : (b : ℕ) (bs : List ℕ) → utf8 (b ∷ bs) ≡ goes_by (lead_of b) bs
unfolding goes_on lead_of
by_lead b bs = by (leads table b) where
  f : Follow
  f = follow_of (after_first table b)

  by : (t : Bool) → pick t (goes_on (after_first table b) bs) false ≡ goes_by (pick t (lead f) no_lead) bs
  by true = ap (λ (l : List Range). goes_on l bs) (sym (ranges_follow b)) ∙ goes_follows f.0 f.1 f.2 bs
  by false = refl

-- a text's first byte, and those behind it
pub first_byte : (r : List ℕ) (b : ℕ) → Some b ≡ slice_get r 0 → r ≡ b ∷ drop 1 r
first_byte r b e =
    drop-cons r 0 0 (slice_get_within r 0 b (sym e)) ∙ ap (λ (x : ℕ). x ∷ drop 1 r) (get_or_from_slice_get r 0 b 0 (sym e))

-- a text without a first byte
pub no_byte : (r : List ℕ) → None ≡ slice_get r 0 → r ≡ []
no_byte [] e = refl
no_byte (x ∷ xs) e = let z : ◌≡◌ {A = ℕ} 0 1 = cc in absurd (omega arith)

-- a text, by the class of the byte that it begins with
pub goes_turn : (r : List ℕ) (b : ℕ) (x : Class) → r ≡ b ∷ drop 1 r → x ≡ lead_of b → utf8 r ≡ goes_by x (drop 1 r)
goes_turn r b x h e = ap utf8 h ∙ rw e (by_lead b (drop 1 r))

-- what constants of the rule say of a byte: its digit is one of '0'..'9'; '0' leads nothing; any other is the row of what follows
module _ (digits : List ℕ) (rows : List Follow) (k : Rule digits rows) (b : ℕ) (l : b < 256) where
  pub is_digit : (0x30 ≤ get_or digits b 0) × (get_or digits b 0 ≤ 0x39)
  unfolding Rule
  is_digit = ((k b l).0, (k b l).1)

  pub no_row : get_or digits b 0 ≡ 0x30 → no_lead ≡ lead_of b
  unfolding Rule class_of
  no_row e = rw (eq-eqb _ _ e) at (k b l).2

  pub its_row : (get_or digits b 0 ≡ 0x30 → ⊥) → lead (get_or rows (get_or digits b 0 - 0x31) (follow 0 0 0)) ≡ lead_of b
  unfolding Rule class_of
  its_row n = rw (ne_eqb _ _ n) at (k b l).2

-- at most three bytes follow a lead byte
more_of : Class → ℕ
more_of no_lead = 0
more_of (lead f) = f.0

lead_more : (b : ℕ) → more_of (lead_of b) ≤ 3
unfolding lead_of table more_of
lead_more b = by (leads table b) where
  up_to_three : T (leb (follow_of (after_first table b)).0 3)
  up_to_three = after_each (λ (rs : List Range). T (leb (follow_of rs).0 3)) table b (tt, (tt, (tt, (tt, (tt, (tt, (tt, (tt, (tt, tt)))))))))

  by : (t : Bool) → more_of (pick t (lead (follow_of (after_first table b))) no_lead) ≤ 3
  by true = leb→le _ 3 up_to_three
  by false = omega arith

pub most_three : (b : ℕ) (f : Follow) → lead_of b ≡ lead f → f.0 ≤ 3
unfolding more_of
most_three b f e = rw e at (lead_more b)

-- bytes that follow are there
follows_length : (n low high : ℕ) (bs : List ℕ) → follows n low high bs ≡ true → n ≤ length bs
unfolding follows
follows_length zero low high bs t = omega arith
follows_length (suc n) low high [] t = absurd (false≢true t)
follows_length (suc n) low high (b ∷ bs) t =
    let u = by_then (leb low b) (pick (leb b high) (follows n 0x80 0xBF bs) false) false false≢true t in
    let v = by_then (leb b high) (follows n 0x80 0xBF bs) false false≢true u.1 in
    omega (arith, follows_length n 0x80 0xBF bs v.1)

-- a sequence at the beginning of a text, of which the row f tells what follows its lead byte, and the place e that its bytes end at
module _ (r : List ℕ) (b : ℕ) (f : Follow) (e : ℕ) (h : r ≡ b ∷ drop 1 r) (l : lead f ≡ lead_of b) (p : e ≡ end_of f r 1) where
  -- it ends where its bytes do: at most three follow
  ends : e ≡ pick (follows f.0 f.1 f.2 (drop 1 r)) (1 + f.0) 0
  ends = p ∙ rw (le-leb f.0 3 (most_three b f (sym l))) refl

  -- one of which not all bytes come: the text is not UTF-8
  pub not_whole : e ≡ 0 → utf8 r ≡ false
  not_whole z =
      let t = by_else (follows f.0 f.1 f.2 (drop 1 r)) (1 + f.0) 0 (λ n. omega arith) (sym ends ∙ z) in
      rw t.0 at (goes_turn r b (lead f) h l)

  -- one of which they do: it is for the bytes behind it to say
  pub whole : (e ≡ 0 → ⊥) → (0 < e) × (e ≤ length r) × (utf8 (drop e r) ≡ utf8 r)
  whole z =
      let t = by_then (follows f.0 f.1 f.2 (drop 1 r)) (1 + f.0) 0 (λ n. z (sym n)) (sym ends) in
      let g = rw (t.0, drop-drop f.0 1 r) at (goes_turn r b (lead f) h l) in
      let m = follows_length f.0 f.1 f.2 (drop 1 r) t.0 in
      let n = ap length h in
      (omega (arith, t.1), omega (arith, t.1, m, n), rw (sym t.1) (sym g))

-- each range to come is above ASCII
abbrev high : List Range → Bool
high [] = true
high (r ∷ rs) = pick (leb 0x80 r.low) (high rs) false

high_after : (b : ℕ) → T (high (after_first table b))
unfolding table
high_after b = after_each (λ (rs : List Range). T (high rs)) table b (tt, (tt, (tt, (tt, (tt, (tt, (tt, (tt, (tt, tt)))))))))

picks : (t a b : Bool) → (a ≡ true → b ≡ true) → pick t a false ≡ true → pick t b false ≡ true
picks true a b f u = f u
picks false a b f u = u

-- a text that goes on goes on up to any ASCII byte in it
goes_cut : (rs : List Range) (xs : List ℕ) (b : ℕ) (ys : List ℕ) → T (high rs) → b < 0x80
    → goes_on rs (xs ++ b ∷ ys) ≡ true → goes_on rs xs ≡ true
unfolding goes_on
goes_cut [] [] b ys g h t = refl
goes_cut (r ∷ rs) [] b ys g h t =
    let l : 0x80 ≤ r.low = leb→le 0x80 r.low (both_left (leb 0x80 r.low) (high rs) g) in
    rw (lt-leb r.low b (omega arith)) at t
goes_cut [] (x ∷ xs) b ys g h t =
    picks (leads table x) (goes_on (after_first table x) (xs ++ b ∷ ys)) (goes_on (after_first table x) xs)
    (λ u. goes_cut (after_first table x) xs b ys (high_after x) h u) t
goes_cut (r ∷ rs) (x ∷ xs) b ys g h t =
    picks (within r x) (goes_on rs (xs ++ b ∷ ys)) (goes_on rs xs)
    (λ u. goes_cut rs xs b ys (both_right (leb 0x80 r.low) (high rs) g) h u) t

-- an ASCII byte stands between sequences: a text is UTF-8 up to it
pub cut_before : (xs : List ℕ) (b : ℕ) (ys : List ℕ) → b < 0x80 → utf8 (xs ++ b ∷ ys) ≡ true → utf8 xs ≡ true
cut_before xs b ys h t = goes_cut [] xs b ys tt h t

-- the same at a place of the text
pub cut : (s : List ℕ) (i : ℕ) → i < length s → get_or s i 0 < 0x80 → utf8 s ≡ true → utf8 (take i s) ≡ true
cut s i l h t = cut_before (take i s) (get_or s i 0) (drop (suc i) s) h (rw (split_at s i 0 l) at t)

-- by a byte's class: its row, and what is no sequence
pub ruleset by_class = (first_byte, no_byte, is_digit, its_row, not_whole)
