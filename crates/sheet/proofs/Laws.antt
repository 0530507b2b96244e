-- Laws of the sheet: the lengths of its parts, and what is stored where: digits from the last one on, the columns of a name, a line piece by piece, the
-- two outcomes. Assumes nothing.
use mathlib.Core.Path.{◌≡◌, refl, sym, ap, ◌∙◌}
use mathlib.Core.List.{List, [], ◌∷◌, ◌++◌, map}
use Prim.Native.Nat.{ℕ, zero, suc, ◌+◌, ◌-◌, ◌*◌, ◌/◌, ◌%◌, ◌<◌, ◌≤◌}
use native.Mathlib.Nat.{zero-add}
use native.Mathlib.Omega.{arith}
use borrow.Author.Tests.{lt-ltb, le-ltb}
use lib.ListN.{length, get_or, take, drop, set, replicate, length-append, length-map, length-replicate, get_or-replicate, get_or-append}
use lib.Seq.{sets, take_all, get_or-take, get_or-append-add, length-sets}
use Rattle.std.specs.Prelude.{Ok, Err}
use Rattle.base.specs.Told.{Tells}
use Rattle.base.proofs.Lists.{sets_append, sets_more, set_sets, sets_front}
use Rattle.base.proofs.Telling.{tells}
use Rattle.refusal.specs.declared.Refusal.TheVariants as Refusal
use Rattle.entry.specs.Entry.{entry_size, entries_in, entry_in}
use Rattle.entry.specs.declared.RamdumpTable64.{RamdumpTable64}
use Rattle.entry.proofs.Laws.{there_below, length_filename}
use Rattle.filename.specs.Filename.{before}
use Rattle.filename.proofs.Laws.{length_before, take_before}
use Rattle.sheet.specs.Sheet.{
  blank,
  line_feed,
  printed,
  columns,
  digit,
  hex,
  mark,
  text_of,
  line_of,
  lines_of,
  sheet_bytes,
  sheet_size,
  sheet_outcome,
  sheet_of,
  sheet_outcome_told,
}

-- ---- lengths

pub length_hex : (k v : ℕ) → length (hex k v) ≡ k
unfolding hex
length_hex zero v = refl
length_hex (suc k) v = simp (length-append, length_hex k (v / 16)) (omega arith)

-- a name of 20 bytes has its 20 columns
pub length_columns : (name : List ℕ) → length name ≡ 20 → length (columns name) ≡ 20
unfolding columns
length_columns name h = simp (length-append, length-map, length-replicate) (omega (arith, length_before 0 name))

-- so its first 20 columns are all of them
pub all_columns : (name : List ℕ) (j : ℕ) → length name ≡ 20 → j ≡ 20 → take j (columns name) ≡ columns name
all_columns name j h e = take_all j (columns name) (omega (arith, length_columns name h))

pub length_text : (e : RamdumpTable64) → length e.filename ≡ 20 → length (text_of e) ≡ 56
unfolding text_of
length_text e h = simp (length-append, length_hex, length_columns e.filename h) (omega arith)

pub length_line : (e : RamdumpTable64) → length e.filename ≡ 20 → length (line_of e) ≡ 57
unfolding line_of
length_line e h = simp (length-append, length_text e h) (omega arith)

-- ---- columns

-- an element of the bytes as they are printed
printed_at : (s : List ℕ) (j : ℕ) → j < length s → get_or (map printed s) j 0 ≡ printed (get_or s j 0)
printed_at [] j h = absurd (omega arith)
printed_at (b ∷ s) zero h = refl
printed_at (b ∷ s) (suc j) h = printed_at s j (omega arith)

-- the columns of a name of which k bytes stand before its first zero: these as they are printed, then blanks
module _ (name : List ℕ) (k : ℕ) (e : k ≡ length (before 0 name)) (j : ℕ) where
  pub column_printed : j < k → get_or (columns name) j 0 ≡ printed (get_or name j 0)
  unfolding columns
  column_printed h =
      get_or-append (map printed (before 0 name)) (replicate (20 - length (before 0 name)) blank) 0 j (simp length-map (omega arith))
      ∙ printed_at (before 0 name) j (omega arith)
      ∙ ap printed (ap (λ (s : List ℕ). get_or s j 0) (sym (take_before 0 name k e)) ∙ get_or-take k name j 0 h)

  pub column_blank : k ≤ j → j < 20 → get_or (columns name) j 0 ≡ blank
  unfolding columns
  column_blank h l =
      let n : length (map printed (before 0 name)) + (j - k) ≡ j = simp length-map (omega arith) in
      ap (λ (i : ℕ). get_or (columns name) i 0) (sym n)
      ∙ get_or-append-add (map printed (before 0 name)) (replicate (20 - length (before 0 name)) blank) (j - k) 0
      ∙ get_or-replicate (20 - length (before 0 name)) (j - k) blank 0 (omega arith)

-- ---- stores

-- the last digit first, then those before it
pub hex_stored : (d : List ℕ) (at k v : ℕ) → sets d at (hex (suc k) v) ≡ sets (set d (at + k) (digit (v % 16))) at (hex k (v / 16))
unfolding hex
hex_stored d at k v =
    let e : length (hex k (v / 16)) ≡ k = length_hex k (v / 16) in
    sets_append (hex k (v / 16)) (digit (v % 16) ∷ []) d at
    ∙ rw e (set_sets (hex k (v / 16)) d at (at + k) (digit (v % 16)) (omega arith))

-- a run, then a store behind it
behind : (xs : List ℕ) (y : ℕ) (ys d : List ℕ) (at b c : ℕ) → at + length xs ≡ b → suc b ≡ c
    → sets d at (xs ++ y ∷ ys) ≡ sets (set (sets d at xs) b y) c ys
behind xs y ys d at b c p q = sets_append xs (y ∷ ys) d at ∙ rw (p, q) refl

-- a line is stored piece by piece
pub line_stored : (e : RamdumpTable64) (d : List ℕ) (at : ℕ) → length e.filename ≡ 20
    → set
    (set
    (set (sets (set (sets (set (sets d at (columns e.filename)) (at + 20) blank) (at + 21) (hex 16 e.base)) (at + 37) blank) (at + 38) (hex 16 e.len))
    (at + 54)
    blank)
    (at + 55)
    (mark e.save_pref))
    (at + 56)
    line_feed
    ≡ sets d at (line_of e)
unfolding line_of text_of
line_stored e d at h =
    let name : List ℕ = columns e.filename in
    let base : List ℕ = hex 16 e.base in
    let len : List ℕ = hex 16 e.len in
    let m : List ℕ = mark e.save_pref ∷ [] in
    let d1 : List ℕ = set (sets d at name) (at + 20) blank in
    let d2 : List ℕ = set (sets d1 (at + 21) base) (at + 37) blank in
    let p : at + length name ≡ at + 20 = ap (λ (n : ℕ). at + n) (length_columns e.filename h) in
    let q : at + 21 + length base ≡ at + 37 = omega (arith, length_hex 16 e.base) in
    let r : at + 38 + length len ≡ at + 54 = omega (arith, length_hex 16 e.len) in
    let x : sets d at (text_of e) ≡ set (set (sets d2 (at + 38) len) (at + 54) blank) (at + 55) (mark e.save_pref) =
    behind name blank (base ++ (blank ∷ len ++ (blank ∷ m))) d at (at + 20) (at + 21) p (omega arith)
    ∙ behind base blank (len ++ (blank ∷ m)) d1 (at + 21) (at + 37) (at + 38) q (omega arith)
    ∙ behind len blank m d2 (at + 38) (at + 54) (at + 55) r (omega arith) in
    sym (sets_more (text_of e) line_feed d at 56 (length_text e h) ∙ ap (λ (l : List ℕ). set l (at + 56) line_feed) x)

-- ---- lines, over the width

module _ (f : ℕ) (t : List ℕ) where
  -- an entry of the table has a filename of 20 bytes
  pub name_20 : (i : ℕ) → i < entries_in f (length t) → length (entry_in f t i).filename ≡ 20
  name_20 i h = length_filename f t i (there_below f t i ∙ lt-ltb i (length t / entry_size f) h)

  -- the first n lines are 57 bytes each
  pub length_lines : (n : ℕ) → n ≤ entries_in f (length t) → length (lines_of f t n) ≡ 57 * n
  unfolding lines_of
  length_lines zero h = refl
  length_lines (suc n) h =
      simp (length-append, length_lines n (omega arith), length_line (entry_in f t n) (name_20 n (omega arith))) (omega arith)

  pub length_sheet : length (sheet_bytes f t) ≡ sheet_size f t
  length_sheet = length_lines (entries_in f (length t)) (omega arith)

  -- the first n lines, and one more
  pub lines_more : (d : List ℕ) (n : ℕ) → n < entries_in f (length t)
      → sets d 0 (lines_of f t (suc n)) ≡ sets (sets d 0 (lines_of f t n)) (57 * n) (line_of (entry_in f t n))
  unfolding lines_of
  lines_more d n h =
      sets_append (lines_of f t n) (line_of (entry_in f t n)) d 0 ∙ rw (zero-add, length_lines n (omega arith)) refl

  -- a page that is too short
  pub refuses : (p : List ℕ) → length p < sheet_size f t → Tells sheet_outcome_told (sheet_outcome (Err Refusal.SheetPage) p) (sheet_of f t p)
  unfolding sheet_of
  refuses p h = tells sheet_outcome_told (simp (lt-ltb (length p) (sheet_size f t) h))

  -- and one on which the lines are stored from its beginning on
  pub writes : (p q : List ℕ) → sheet_size f t ≤ length p → q ≡ sets p 0 (sheet_bytes f t)
      → Tells sheet_outcome_told (sheet_outcome (Ok (sheet_size f t)) q) (sheet_of f t p)
  unfolding sheet_of
  writes p q h e =
      let r : q ≡ sheet_bytes f t ++ drop (sheet_size f t) p = e ∙ sets_front (sheet_bytes f t) p (sheet_size f t) length_sheet h in
      tells sheet_outcome_told (rw (le-ltb (length p) (sheet_size f t) h) (ap (sheet_outcome (Ok (sheet_size f t))) r))

-- the stores of a line, and that none changes the page's length
pub ruleset line_steps = (line_stored, length-sets)
