-- What document 02, request 6, claims of the tidy form: "Two sets are equal if each ID below 64, looked up as a plain slot, has the same bytes or is absent in both;
-- where neither is refused, equal sets must have equal tidy bytes, and only they. Tidying twice is tidying once." Request 7: "From now on sets are equal only if their
-- slot counts agree too". What it claims of sessions: two_runs/specs/Claim.
use Rattle.std.specs.Prelude.{ℕ, ◌<◌, ◌≡◌, true, ◌↔◌, List, take, Ok}
use Rattle.bundle.specs.Bundle.{count_of, well_formed}
use Rattle.bundle.specs.Content.{content_of}
use Rattle.tidied.specs.Tidy.{tidy_of}

-- "Two sets are equal if each ID below 64, looked up as a plain slot, has the same bytes or is absent in both": no one-image rule; "only if their slot counts agree
-- too"
pub record EqualSets (a b : List ℕ) : Type 0 where
  pub counts : count_of a ≡ count_of b
  pub contents : (id : ℕ) → id < 64 → content_of a id ≡ content_of b id

-- the set is not refused with some buffer, whose first bytes are then its tidy form
pub record TidyForm (set form : List ℕ) : Type 0 where
  pub to : List ℕ
  pub len : ℕ
  pub made : (tidy_of set to).tidied ≡ Ok len
  pub bytes : form ≡ take len (tidy_of set to).to

-- "where neither is refused, equal sets must have equal tidy bytes, and only they"
abbrev pub EqualExactly : Type 0
EqualExactly = (a b p q : List ℕ) → TidyForm a p → TidyForm b q → EqualSets a b ↔ (p ≡ q)

-- a tidy form is an image set, and equal to the one that it was made of
abbrev pub SameImages : Type 0
SameImages = (a p : List ℕ) → TidyForm a p → (well_formed true p ≡ true) × EqualSets p a

-- "Tidying twice is tidying once": with any buffer, answer and bytes are alike
abbrev pub TwiceIsOnce : Type 0
TwiceIsOnce = (a p : List ℕ) → TidyForm a p → (to : List ℕ) → tidy_of p to ≡ tidy_of a to
