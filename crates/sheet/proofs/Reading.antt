-- What may be read off a sheet: line i is of entry i alone; each byte of a line but the last is printable, and the last is a line feed; two tables with the same
-- sheet have as many entries, with the same names as printed, bases, lengths and marks. That a page keeps its length. Assumes nothing.
use mathlib.Core.Path.{◌≡◌, refl, sym, ap, subst, ◌∙◌}
use mathlib.Core.Bool.{Bool, true, false, ◌&&◌}
use mathlib.Core.Logic.{⊎_elim, ◌⊎◌, inl, inr}
use mathlib.Core.List.{List, [], ◌∷◌, ◌++◌, map}
use Prim.Native.Nat.{ℕ, zero, suc, ◌+◌, ◌-◌, ◌*◌, ◌/◌, ◌%◌, ◌^◌, ◌<◌, ◌≤◌}
use native.Mathlib.Omega.{arith}
use native.Mathlib.Nat.{pow-suc, pow-zero, div-lt_iff_lt-mul}
use borrow.Author.Tests.{lt-ltb, le-ltb, leb-true, ltb-true, ltb-false}
use lib.Dec.{ltb, leb, eqb, lit<, lit≤}
use lib.ListN.{length, get_or, take, drop, replicate, length-append, length-drop, get_or-append}
use lib.Seq.{take_all, take_at, drop_at, take-append-le, drop-append-le, drop-append-add, get_or-take, get_or-drop, get_or_at}
use Rattle.base.specs.Choice.{pick}
use Rattle.base.proofs.Ranges.{below_or_not, by_test}
use Rattle.base.proofs.Tests.{split, and_true}
use Rattle.field.specs.Field.{le, field_size}
use Rattle.field.specs.declared.Width.{Width}
use Rattle.field.proofs.Laws.{le_below, memory_most}
use Rattle.entry.specs.Entry.{entry_size, entries_in, entry_of, entry_in}
use Rattle.entry.specs.declared.RamdumpTable64.{RamdumpTable64}
use Rattle.entry.proofs.Laws.{number_within}
use Rattle.filename.specs.Filename.{before}
use Rattle.sheet.specs.Sheet.{
  blank,
  star,
  line_feed,
  printed,
  columns,
  digit,
  hex,
  mark,
  text_of,
  line_of,
  lines_of,
  sheet_bytes,
  sheet_size,
  sheet_of,
}
use Rattle.sheet.specs.Reading.{AllBytes, Printable, value_of, number_of, Alike}
use Rattle.sheet.proofs.Laws.{length_hex, length_columns, length_text, length_line, name_20, length_lines, length_sheet}

-- ---- printable

printable : (b : ℕ) → 0x20 ≤ b → b ≤ 0x7E → Printable b
printable b l m = record { least = l; most = m }

abbrev All : List ℕ → Type 0
All [] = Unit
All (x ∷ xs) = Printable x × All xs

all_append : (xs ys : List ℕ) → All xs → All ys → All (xs ++ ys)
all_append [] ys p q = q
all_append (x ∷ xs) ys p q = (p.0, all_append xs ys p.1 q)

all_at : (xs : List ℕ) (i : ℕ) → All xs → i < length xs → Printable (get_or xs i 0)
all_at [] i p h = absurd (omega arith)
all_at (x ∷ xs) zero p h = p.0
all_at (x ∷ xs) (suc i) p h = all_at xs i p.1 (omega arith)

-- whatever the byte
printed_is : (b : ℕ) → Printable (printed b)
unfolding printed
printed_is b =
    split Printable (leb 0x20 b && leb b 0x7E)
    (λ h. printable b (leb-true 0x20 b (and_true (leb 0x20 b) (leb b 0x7E) h).0) (leb-true b 0x7E (and_true (leb 0x20 b) (leb b 0x7E) h).1))
    (λ h. printable 0x3F (lit≤ tt) (lit≤ tt))

all_printed : (s : List ℕ) → All (map printed s)
all_printed [] = tt
all_printed (b ∷ s) = (printed_is b, all_printed s)

all_blanks : (n : ℕ) → All (replicate n blank)
all_blanks zero = tt
all_blanks (suc n) = (printable blank (lit≤ tt) (lit≤ tt), all_blanks n)

digit_is : (d : ℕ) → d < 16 → Printable (digit d)
unfolding digit
digit_is d h =
    split Printable (ltb d 10)
    (λ t. printable (0x30 + d) (omega arith) (omega (arith, ltb-true d 10 t)))
    (λ t. printable (0x41 + (d - 10)) (omega arith) (omega arith))

all_hex : (k v : ℕ) → All (hex k v)
unfolding hex
all_hex zero v = tt
all_hex (suc k) v = all_append (hex k (v / 16)) (digit (v % 16) ∷ []) (all_hex k (v / 16)) (digit_is (v % 16) (omega arith), tt)

mark_is : (n : ℕ) → Printable (mark n)
unfolding mark
mark_is n = split Printable (eqb n 0) (λ h. printable blank (lit≤ tt) (lit≤ tt)) (λ h. printable star (lit≤ tt) (lit≤ tt))

all_text : (e : RamdumpTable64) → All (text_of e)
unfolding text_of columns
all_text e =
    let b : Printable blank = printable blank (lit≤ tt) (lit≤ tt) in
    let s : List ℕ = before 0 e.filename in
    let m : List ℕ = mark e.save_pref ∷ [] in
    let n : All (columns e.filename) = all_append (map printed s) (replicate (20 - length s) blank) (all_printed s) (all_blanks (20 - length s)) in
    let l : All (hex 16 e.len ++ (blank ∷ m)) = all_append (hex 16 e.len) (blank ∷ m) (all_hex 16 e.len) (b, (mark_is e.save_pref, tt)) in
    let k : All (hex 16 e.base ++ (blank ∷ hex 16 e.len ++ (blank ∷ m))) =
    all_append (hex 16 e.base) (blank ∷ hex 16 e.len ++ (blank ∷ m)) (all_hex 16 e.base) (b, l) in
    all_append (columns e.filename) (blank ∷ hex 16 e.base ++ (blank ∷ hex 16 e.len ++ (blank ∷ m))) n (b, k)

-- ---- lines

module _ (f : ℕ) (t : List ℕ) where
  -- a page stays as long as it was
  pub length_page : (p : List ℕ) → length (sheet_of f t p).page ≡ length p
  unfolding sheet_of
  length_page p =
      by_test (ltb (length p) (sheet_size f t))
      (λ h. rw h refl)
      (λ h. let k : sheet_size f t ≤ length p = ltb-false (length p) (sheet_size f t) h in rw h (simp (length-append, length-drop, length_sheet f t) (omega arith)))

  -- a line of the first n
  lines_at : (n i : ℕ) → i < n → n ≤ entries_in f (length t) → take 57 (drop (57 * i) (lines_of f t n)) ≡ line_of (entry_in f t i)
  unfolding lines_of
  lines_at zero i l h = absurd (omega arith)
  lines_at (suc n) i l h =
      ⊎_elim
      (λ (b : i < n).
      let k : length (lines_of f t n) ≡ 57 * n = length_lines f t n (omega arith) in
      rw (
        drop-append-le (57 * i) (lines_of f t n) (line_of (entry_in f t n)) (omega arith),
        take-append-le 57 (drop (57 * i) (lines_of f t n)) (line_of (entry_in f t n)) (simp length-drop (omega arith)),
      )
      (lines_at n i b (omega arith)))
      (λ (b : n ≤ i).
      let e : i ≡ n = omega arith in
      let k : length (lines_of f t n) ≡ 57 * n = length_lines f t n (omega arith) in
      rw (e, drop_at (lines_of f t n) (line_of (entry_in f t n)) (57 * n) k)
      (take_all 57 (line_of (entry_in f t n)) (omega (arith, length_line (entry_in f t n) (name_20 f t n (omega arith))))))
      (below_or_not i n)

  module _ (i : ℕ) (h : i < entries_in f (length t)) where
    -- line i is of entry i alone
    pub line_at : take 57 (drop (57 * i) (sheet_bytes f t)) ≡ line_of (entry_in f t i)
    line_at = lines_at (entries_in f (length t)) i h (omega arith)

    -- a byte of it
    byte_at : (j : ℕ) → j < 57 → get_or (sheet_bytes f t) (57 * i + j) 0 ≡ get_or (line_of (entry_in f t i)) j 0
    byte_at j l =
        sym (get_or-drop (57 * i) (sheet_bytes f t) j 0)
        ∙ sym (get_or-take 57 (drop (57 * i) (sheet_bytes f t)) j 0 l)
        ∙ ap (λ (s : List ℕ). get_or s j 0) line_at

    -- no byte of a line but its last moves a cursor or ends it
    pub printable_at : (j : ℕ) → j < 56 → Printable (get_or (sheet_bytes f t) (57 * i + j) 0)
    unfolding line_of
    printable_at j l =
        let e : RamdumpTable64 = entry_in f t i in
        let k : length (text_of e) ≡ 56 = length_text e (name_20 f t i h) in
        rw (byte_at j (omega arith), get_or-append (text_of e) (line_feed ∷ []) 0 j (omega arith)) (all_at (text_of e) j (all_text e) (omega arith))

    -- and its last is a line feed
    pub ended_at : get_or (sheet_bytes f t) (57 * i + 56) 0 ≡ line_feed
    unfolding line_of
    ended_at = byte_at 56 (omega arith) ∙ get_or_at (text_of (entry_in f t i)) line_feed [] 0 56 (length_text (entry_in f t i) (name_20 f t i h))

-- so each byte of a sheet is printable or a line feed
pub byte_is : (f : ℕ) (t : List ℕ) (k : ℕ) → k < sheet_size f t → Printable (get_or (sheet_bytes f t) k 0) ⊎ (get_or (sheet_bytes f t) k 0 ≡ line_feed)
byte_is f t k h =
    let e : 57 * (k / 57) + k % 57 ≡ k = omega arith in
    let l : k / 57 < entries_in f (length t) = omega arith in
    ⊎_elim
    (λ (j : k % 57 < 56). inl (subst (λ (n : ℕ). Printable (get_or (sheet_bytes f t) n 0)) e (printable_at f t (k / 57) l (k % 57) j)))
    (λ (j : 56 ≤ k % 57).
    let q : 57 * (k / 57) + 56 ≡ k = omega arith in
    inr (subst (λ (n : ℕ). get_or (sheet_bytes f t) n 0 ≡ line_feed) q (ended_at f t (k / 57) l)))
    (below_or_not (k % 57) 56)

-- ---- what a line says

-- behind a run of n
after : (xs ys : List ℕ) (n k : ℕ) → length xs ≡ n → drop (n + k) (xs ++ ys) ≡ drop k ys
after xs ys n k e = rw (← e) (drop-append-add xs ys k)

-- what stands behind the name and its blank, behind the base and its blank
from_base : RamdumpTable64 → List ℕ
from_base e = hex 16 e.base ++ (blank ∷ hex 16 e.len ++ (blank ∷ mark e.save_pref ∷ []))

from_len : RamdumpTable64 → List ℕ
from_len e = hex 16 e.len ++ (blank ∷ mark e.save_pref ∷ [])

module _ (e : RamdumpTable64) (h : length e.filename ≡ 20) where
  text_in : take 56 (line_of e) ≡ text_of e
  unfolding line_of
  text_in = take_at (text_of e) (line_feed ∷ []) 56 (length_text e h)

  -- the columns of the name, the two numbers and the mark, each at its place
  pub name_in_lem : take 20 (text_of e) ≡ columns e.filename
  unfolding text_of from_base
  name_in_lem = take_at (columns e.filename) (blank ∷ from_base e) 20 (length_columns e.filename h)

  from_base_lem : drop 21 (text_of e) ≡ from_base e
  unfolding text_of from_base
  from_base_lem = after (columns e.filename) (blank ∷ from_base e) 20 1 (length_columns e.filename h)

  pub base_in : take 16 (drop 21 (text_of e)) ≡ hex 16 e.base
  unfolding from_base from_len
  base_in = ap (take 16) from_base_lem ∙ take_at (hex 16 e.base) (blank ∷ from_len e) 16 (length_hex 16 e.base)

  from_len_lem : drop 17 (drop 21 (text_of e)) ≡ from_len e
  unfolding from_base from_len
  from_len_lem = ap (drop 17) from_base_lem ∙ after (hex 16 e.base) (blank ∷ from_len e) 16 1 (length_hex 16 e.base)

  pub len_in : take 16 (drop 17 (drop 21 (text_of e))) ≡ hex 16 e.len
  unfolding from_len
  len_in = ap (take 16) from_len_lem ∙ take_at (hex 16 e.len) (blank ∷ mark e.save_pref ∷ []) 16 (length_hex 16 e.len)

  pub mark_in : drop 17 (drop 17 (drop 21 (text_of e))) ≡ mark e.save_pref ∷ []
  unfolding from_len
  mark_in = ap (drop 17) from_len_lem ∙ after (hex 16 e.len) (blank ∷ mark e.save_pref ∷ []) 16 1 (length_hex 16 e.len)

-- a digit is read back, and a number from its digits
value_digit : (d : ℕ) → d < 16 → value_of (digit d) ≡ d
unfolding digit value_of
value_digit d h =
    by_test (ltb d 10)
    (λ q. let l : d < 10 = ltb-true d 10 q in rw (q, lt-ltb (0x30 + d) 0x41 (omega arith)) (omega arith))
    (λ q. let l : 10 ≤ d = ltb-false d 10 q in rw (q, le-ltb (0x41 + (d - 10)) 0x41 (omega arith)) (omega arith))

number_append : (n : ℕ) (cs : List ℕ) (c : ℕ) → number_of n (cs ++ c ∷ []) ≡ 16 * number_of n cs + value_of c
unfolding number_of
number_append n [] c = refl
number_append n (x ∷ cs) c = number_append (16 * n + value_of x) cs c

pub number_hex : (k v : ℕ) → v < 16 ^ k → number_of 0 (hex k v) ≡ v
unfolding hex number_of
number_hex zero v h = omega (arith, pow-zero 16)
number_hex (suc k) v h =
    let q : v / 16 < 16 ^ k = (div-lt_iff_lt-mul (lit< tt)).1 (rw pow-suc at h) in
    number_append 0 (hex k (v / 16)) (digit (v % 16)) ∙ rw (number_hex k (v / 16) q, value_digit (v % 16) (omega arith)) (omega arith)

mark_tells : (m n : ℕ) → mark m ≡ mark n → eqb m 0 ≡ eqb n 0
unfolding mark
mark_tells m n = by (eqb m 0) (eqb n 0) where
  by : (a b : Bool) → pick a blank star ≡ pick b blank star → a ≡ b
  by true true e = refl
  by true false e = absurd (omega arith)
  by false true e = absurd (omega arith)
  by false false e = refl

-- entries whose lines are the same, with numbers that 16 digits hold
alike : (a b : RamdumpTable64) → length a.filename ≡ 20 → length b.filename ≡ 20 → a.base < 16 ^ 16 → b.base < 16 ^ 16 → a.len < 16 ^ 16
    → b.len < 16 ^ 16 → line_of a ≡ line_of b → Alike a b
alike a b p q ab bb al bl e =
    let x : text_of a ≡ text_of b = sym (text_in a p) ∙ ap (take 56) e ∙ text_in b q in
    let hb : hex 16 a.base ≡ hex 16 b.base = sym (base_in a p) ∙ ap (λ (s : List ℕ). take 16 (drop 21 s)) x ∙ base_in b q in
    let hl : hex 16 a.len ≡ hex 16 b.len = sym (len_in a p) ∙ ap (λ (s : List ℕ). take 16 (drop 17 (drop 21 s))) x ∙ len_in b q in
    let m : mark a.save_pref ∷ [] ≡ mark b.save_pref ∷ [] =
    sym (mark_in a p) ∙ ap (λ (s : List ℕ). drop 17 (drop 17 (drop 21 s))) x ∙ mark_in b q in
    record {
      name = sym (name_in_lem a p) ∙ ap (take 20) x ∙ name_in_lem b q;
      base = sym (number_hex 16 a.base ab) ∙ ap (number_of 0) hb ∙ number_hex 16 b.base bb;
      len = sym (number_hex 16 a.len al) ∙ ap (number_of 0) hl ∙ number_hex 16 b.len bl;
      preferred = mark_tells a.save_pref b.save_pref (cc);
    }

-- ---- two tables

module _ (v : Width) (t : List ℕ) (h : AllBytes t) (i : ℕ) where
  -- a number of an entry is one that 16 digits hold
  number_below : (k : ℕ) → k + field_size v ≤ entry_size (field_size v) → le (field_size v) (drop k (entry_of (field_size v) t i)) < 16 ^ 16
  number_below k l =
      let f : ℕ = field_size v in
      rw (number_within f k (entry_size f) (entry_size f * i) t l) (omega (arith, le_below f (entry_size f * i + k) t h, memory_most v))

  base_below : (entry_in (field_size v) t i).base < 16 ^ 16
  base_below = number_below (field_size v) (omega arith)

  len_below : (entry_in (field_size v) t i).len < 16 ^ 16
  len_below = number_below (2 * field_size v) (omega arith)

-- tables of either width with the same sheet have as many entries, and these are alike
pub same_sheet : (v w : Width) (t u : List ℕ) → AllBytes t → AllBytes u → sheet_bytes (field_size v) t ≡ sheet_bytes (field_size w) u
    → (entries_in (field_size v) (length t) ≡ entries_in (field_size w) (length u))
    × ((i : ℕ) → i < entries_in (field_size v) (length t) → Alike (entry_in (field_size v) t i) (entry_in (field_size w) u i))
same_sheet v w t u bt bu e =
    let n : ℕ = entries_in (field_size v) (length t) in
    let m : ℕ = entries_in (field_size w) (length u) in
    let l : 57 * n ≡ 57 * m = sym (length_sheet (field_size v) t) ∙ ap length e ∙ length_sheet (field_size w) u in
    let k : n ≡ m = omega arith in (
      k,
      λ i h.
          let h' : i < m = omega arith in
          alike (entry_in (field_size v) t i) (entry_in (field_size w) u i) (name_20 (field_size v) t i h) (name_20 (field_size w) u i h') (base_below v t bt i) (base_below w u bu i)
          (len_below v t bt i) (len_below w u bu i)
          (sym (line_at (field_size v) t i h) ∙ ap (λ (s : List ℕ). take 57 (drop (57 * i) s)) e ∙ line_at (field_size w) u i h'),
    )
