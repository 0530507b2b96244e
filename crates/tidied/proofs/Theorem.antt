-- What document 02, request 6, claims with the equality of its request 7, of every image set (specs/Claim): the tidy form is an image set and equal to its own, equal
-- sets have equal tidy forms and only they, and tidying twice is tidying once. Assumes nothing.
use mathlib.Core.Path.{◌≡◌, refl, sym, ap, ◌∙◌}
use mathlib.Core.Bool.{true}
use mathlib.Core.Logic.{⊎_elim}
use mathlib.Core.List.{List, [], ◌∷◌, ◌++◌}
use mathlib.Core.Option.{none}
use Prim.Native.Nat.{ℕ, zero, suc, ◌<◌, ◌≤◌}
use native.Mathlib.Omega.{arith}
use lib.ListN.{length, take, drop, get_or-eq_default}
use lib.Seq.{take_at}
use Rattle.base.proofs.Ranges.{below_or_not}
use Rattle.bundle.specs.Bundle.{count_of, well_formed}
use Rattle.bundle.specs.Content.{Content, content_of}
use Rattle.bundle.proofs.Laws.{formed, content_past}
use Rattle.writer.specs.Writer.{bundle_bytes, most_data}
use Rattle.writer.proofs.Laws.{count_back, set_back, content_back}
use Rattle.tidied.specs.Tidy.{first_contents, contents_of, tidy_bytes, tidy_data, tidy_len_of, placed, TidyOutcome, tidy_of}
use Rattle.tidied.specs.Claim.{EqualSets, TidyForm, EqualExactly, SameImages, TwiceIsOnce}
use Rattle.tidied.proofs.Laws.{refused≢made, length_first, first_at, len_made, made_of, tidy_refused, tidy_short, tidy_fits}
use Rattle.std.specs.Prelude.{Result, Ok, Err}
use Rattle.refusal.specs.declared.Refusal.{Refusal}

-- ---- equal sets have the same contents

module _ (a b : List ℕ) where
  first_same : (k : ℕ) → ((i : ℕ) → i < k → content_of a i ≡ content_of b i) → first_contents a k ≡ first_contents b k
  unfolding first_contents
  first_same zero h = refl
  first_same (suc k) h =
      ap (λ (x : Content). first_contents a k ++ x ∷ []) (h k (omega arith))
      ∙ ap (λ (xs : List Content). xs ++ content_of b k ∷ []) (first_same k (λ i l. h i (omega arith)))

  contents_same : count_of b ≤ 64 → EqualSets a b → contents_of a ≡ contents_of b
  contents_same m e = ap (first_contents a) e.counts ∙ first_same (count_of b) (λ i l. e.contents i (omega arith))

-- ---- the tidy form of a well-formed set whose data is not too much

module _ (set : List ℕ) (w : well_formed true set ≡ true) (l : tidy_data set ≤ most_data) where
  few : length (contents_of set) ≤ 64
  few = rw length_first (formed true set w).few

  pub form_formed : well_formed true (tidy_bytes set) ≡ true
  form_formed = set_back (contents_of set) few l

  -- "tidying preserves the count"
  pub form_count : count_of (tidy_bytes set) ≡ count_of set
  form_count = count_back (contents_of set) few l ∙ length_first set (count_of set)

  -- each slot has its content, whatever its number
  pub form_same : (i : ℕ) → content_of (tidy_bytes set) i ≡ content_of set i
  form_same i =
      content_back (contents_of set) few l i
      ∙ ⊎_elim
      (λ (h : i < count_of set). first_at set (count_of set) i h)
      (λ (h : count_of set ≤ i). get_or-eq_default (contents_of set) none (rw length_first h) ∙ sym (content_past set i h))
      (below_or_not i (count_of set))

  form_equal : EqualSets (tidy_bytes set) set
  form_equal = record { counts = form_count; contents = λ i h. form_same i }

  form_contents : contents_of (tidy_bytes set) ≡ contents_of set
  form_contents = contents_same (tidy_bytes set) set (formed true set w).few form_equal

-- ---- what is not refused

pub record Given (set form : List ℕ) : Type 0 where
  pub good : well_formed true set ≡ true
  pub little : tidy_data set ≤ most_data
  pub is : form ≡ tidy_bytes set

pub given : (set form : List ℕ) → TidyForm set form → Given set form
given set form f = by (tidy_len_of set) refl
  where
    by : (x : Result ℕ Refusal) → tidy_len_of set ≡ x → Given set form
    by (Err why) e = absurd (refused≢made (sym (ap (λ (o : TidyOutcome). o.tidied) (tidy_refused set f.to why e)) ∙ f.made))
    by (Ok k) e =
        ⊎_elim
        (λ (h : length f.to < k). absurd (refused≢made (sym (ap (λ (o : TidyOutcome). o.tidied) (tidy_short set f.to k e h)) ∙ f.made)))
        (λ (h : k ≤ length f.to).
        let m = made_of set k e in
        let o : tidy_of set f.to ≡ _ = tidy_fits set f.to k e h in
        let n : Ok k ≡ Ok f.len = sym (ap (λ (o : TidyOutcome). o.tidied) o) ∙ f.made in
        let q : k ≡ f.len = cc in
        record {
          good = m.0;
          little = m.1;
          is =
              f.bytes
              ∙ ap (λ (o : TidyOutcome). take f.len o.to) o
              ∙ take_at (tidy_bytes set) (drop k f.to) f.len (m.2 ∙ q);
        })
        (below_or_not (length f.to) k)

-- ---- the three claims

pub same_images : SameImages
same_images a p f =
    let g = given a p f in
    rw g.is (form_formed a g.good g.little, form_equal a g.good g.little)

pub equal_exactly : EqualExactly
equal_exactly a b p q f g =
    let x = given a p f in
    let y = given b q g in (
      λ h. x.is ∙ ap bundle_bytes (contents_same a b (formed true b y.good).few h) ∙ sym y.is,
      λ e.
          let t : tidy_bytes a ≡ tidy_bytes b = sym x.is ∙ e ∙ y.is in
          record {
            counts = sym (form_count a x.good x.little) ∙ ap count_of t ∙ form_count b y.good y.little;
            contents =
                λ i h.
                sym (form_same a x.good x.little i)
                ∙ ap (λ (s : List ℕ). content_of s i) t
                ∙ form_same b y.good y.little i;
          },
    )

pub twice_is_once : TwiceIsOnce
unfolding tidy_of
twice_is_once a p f to =
    let g = given a p f in
    let t : List ℕ = tidy_bytes a in
    let s : contents_of t ≡ contents_of a = form_contents a g.good g.little in
    let e : tidy_bytes t ≡ tidy_bytes a = ap bundle_bytes s in
    let l : tidy_data t ≤ most_data = rw s g.little in
    let k : tidy_len_of t ≡ tidy_len_of a =
    len_made t (form_formed a g.good g.little) l
    ∙ ap (λ (x : List ℕ). Ok (length x)) e
    ∙ sym (len_made a g.good g.little) in
    rw g.is (ap (λ (x : List ℕ). placed x to (tidy_len_of t)) e ∙ ap (placed (tidy_bytes a) to) k)
