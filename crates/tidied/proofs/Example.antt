-- Two sets whose files differ and which are equal: gaps, a shared range, an empty image with another start, an absent slot in the middle and one at the end. A third
-- that is not equal to them, since what is empty there is absent here; and a fourth, which lacks the last slot. Each is tidied by computation, and the claims hold of
-- them, their premises met. Assumes nothing.
use mathlib.Core.Path.{◌≡◌, refl, sym, ap, ◌∙◌}
use mathlib.Core.Bool.{true}
use mathlib.Core.List.{List, [], ◌∷◌, ◌++◌}
use Prim.Native.Nat.{ℕ}
use native.Mathlib.Omega.{arith}
use lib.ListN.{get_or, take, replicate}
use Rattle.field.specs.Field.{le, le_bytes, fields, words}
use Rattle.bundle.specs.Bundle.{slots_good, well_formed, slot_of}
use Rattle.writer.specs.Writer.{data_of, starts_from, bundle_bytes}
use Rattle.tidied.specs.Tidy.{first_contents, tidy_len_of, tidy_outcome, tidy_of}
use Rattle.tidied.specs.Claim.{EqualSets, TidyForm}
use Rattle.tidied.proofs.Theorem.{same_images, equal_exactly, twice_is_once}
use Rattle.std.specs.Prelude.{Ok, Err}
use Rattle.refusal.specs.declared.Refusal.TheVariants as Refusal

abbrev mark : ℕ
mark = 0xFFFFFFFF

-- five slots over "AB-": "AB", absent, empty, "B" of the same range, absent
abbrev one : List ℕ
one = words (5 ∷ 3 ∷ 0 ∷ mark ∷ 3 ∷ 1 ∷ mark ∷ 2 ∷ 0 ∷ 0 ∷ 1 ∷ 0 ∷ []) ++ 65 ∷ 66 ∷ 45 ∷ []

-- five slots over "B-AB": "AB", absent, empty, "B" of another range, absent
abbrev two : List ℕ
two = words (5 ∷ 4 ∷ 2 ∷ mark ∷ 1 ∷ 0 ∷ mark ∷ 2 ∷ 0 ∷ 0 ∷ 1 ∷ 0 ∷ []) ++ 66 ∷ 45 ∷ 65 ∷ 66 ∷ []

-- the same, but that the empty image is absent
abbrev three : List ℕ
three = words (5 ∷ 4 ∷ 2 ∷ mark ∷ mark ∷ 0 ∷ mark ∷ 2 ∷ 0 ∷ 0 ∷ 1 ∷ 0 ∷ []) ++ 66 ∷ 45 ∷ 65 ∷ 66 ∷ []

-- the same as the second, but that the last slot, which is absent, is not there
abbrev four : List ℕ
four = words (4 ∷ 4 ∷ 2 ∷ mark ∷ 1 ∷ 0 ∷ 2 ∷ 0 ∷ 0 ∷ 1 ∷ []) ++ 66 ∷ 45 ∷ 65 ∷ 66 ∷ []

-- the tidy form of the first two: five slots over "ABB", the empty image at 2, where "AB" ends
abbrev form : List ℕ
form = words (5 ∷ 3 ∷ 0 ∷ mark ∷ 2 ∷ 2 ∷ mark ∷ 2 ∷ 0 ∷ 0 ∷ 1 ∷ 0 ∷ []) ++ 65 ∷ 66 ∷ 66 ∷ []

-- of the third, and of the fourth
abbrev other : List ℕ
other = words (5 ∷ 3 ∷ 0 ∷ mark ∷ mark ∷ 2 ∷ mark ∷ 2 ∷ 0 ∷ 0 ∷ 1 ∷ 0 ∷ []) ++ 65 ∷ 66 ∷ 66 ∷ []

abbrev fewer : List ℕ
fewer = words (4 ∷ 3 ∷ 0 ∷ mark ∷ 2 ∷ 2 ∷ 2 ∷ 0 ∷ 0 ∷ 1 ∷ []) ++ 65 ∷ 66 ∷ 66 ∷ []

-- a buffer of 56 bytes, five more than the form has
abbrev room : List ℕ
room = replicate 56 7

one_tidied : tidy_of one room ≡ tidy_outcome (Ok 51) (form ++ replicate 5 7)
unfolding tidy_of tidy_len_of well_formed slots_good slot_of le le_bytes fields first_contents data_of starts_from bundle_bytes
one_tidied = refl

two_tidied : tidy_of two room ≡ tidy_outcome (Ok 51) (form ++ replicate 5 7)
unfolding tidy_of tidy_len_of well_formed slots_good slot_of le le_bytes fields first_contents data_of starts_from bundle_bytes
two_tidied = refl

three_tidied : tidy_of three room ≡ tidy_outcome (Ok 51) (other ++ replicate 5 7)
unfolding tidy_of tidy_len_of well_formed slots_good slot_of le le_bytes fields first_contents data_of starts_from bundle_bytes
three_tidied = refl

four_tidied : tidy_of four room ≡ tidy_outcome (Ok 43) (fewer ++ replicate 13 7)
unfolding tidy_of tidy_len_of well_formed slots_good slot_of le le_bytes fields first_contents data_of starts_from bundle_bytes
four_tidied = refl

-- ---- the premises met

form_one : TidyForm one form
unfolding le_bytes fields
form_one =
    record { to = room; len = 51; made = ap (λ o. o.tidied) one_tidied; bytes = sym (ap (λ o. take 51 o.to) one_tidied) }

form_two : TidyForm two form
unfolding le_bytes fields
form_two =
    record { to = room; len = 51; made = ap (λ o. o.tidied) two_tidied; bytes = sym (ap (λ o. take 51 o.to) two_tidied) }

form_three : TidyForm three other
unfolding le_bytes fields
form_three =
    record { to = room; len = 51; made = ap (λ o. o.tidied) three_tidied; bytes = sym (ap (λ o. take 51 o.to) three_tidied) }

form_four : TidyForm four fewer
unfolding le_bytes fields
form_four =
    record { to = room; len = 43; made = ap (λ o. o.tidied) four_tidied; bytes = sym (ap (λ o. take 43 o.to) four_tidied) }

-- the files differ, the sets are equal
files_differ : one ≡ two → ⊥
unfolding le_bytes fields
files_differ e = let z : ◌≡◌ {A = ℕ} 3 4 = ap (λ (s : List ℕ). get_or s 4 0) e in omega arith

equal : EqualSets one two
equal = (equal_exactly one two form form form_one form_two).1 refl

-- the third has another form: it is not equal
forms_differ : form ≡ other → ⊥
unfolding le_bytes fields
forms_differ e = let z : ◌≡◌ {A = ℕ} 2 255 = ap (λ (s : List ℕ). get_or s 16 0) e in omega arith

not_equal : EqualSets one three → ⊥
not_equal h = forms_differ ((equal_exactly one three form other form_one form_three).0 h)

-- and so the fourth, by its count alone
counts_differ : form ≡ fewer → ⊥
unfolding le_bytes fields
counts_differ e = let z : ◌≡◌ {A = ℕ} 5 4 = ap (λ (s : List ℕ). get_or s 0 0) e in omega arith

not_as_many : EqualSets one four → ⊥
not_as_many h = counts_differ ((equal_exactly one four form fewer form_one form_four).0 h)

-- the form is an image set, and equal to both
is_set : well_formed true form ≡ true
is_set = (same_images one form form_one).0

form_equal : EqualSets form two
form_equal = (same_images two form form_two).1

-- tidied again
again : tidy_of form room ≡ tidy_outcome (Ok 51) (form ++ replicate 5 7)
again = twice_is_once one form form_one room ∙ one_tidied

-- ---- refusals

-- a buffer of 50 bytes is one too short, and stays as it was
short : tidy_of one (replicate 50 7) ≡ tidy_outcome (Err Refusal.TidyRoom) (replicate 50 7)
unfolding tidy_of tidy_len_of well_formed slots_good slot_of le le_bytes fields first_contents data_of starts_from bundle_bytes
short = refl

-- of the form itself, too
short_again : tidy_of form (replicate 50 7) ≡ tidy_outcome (Err Refusal.TidyRoom) (replicate 50 7)
short_again = twice_is_once one form form_one (replicate 50 7) ∙ short

-- a byte behind the data: malformed, before the buffer is looked at
malformed : tidy_of (one ++ 0 ∷ []) [] ≡ tidy_outcome (Err Refusal.TidySet) []
unfolding tidy_of tidy_len_of well_formed slots_good slot_of le le_bytes fields first_contents data_of starts_from bundle_bytes
malformed = refl

-- no slot but absent ones: as many marks, and no data
abbrev marks : List ℕ
marks = words (2 ∷ 0 ∷ mark ∷ mark ∷ 0 ∷ 0 ∷ [])

nothing_there : tidy_of marks (replicate 24 7) ≡ tidy_outcome (Ok 24) marks
unfolding tidy_of tidy_len_of well_formed slots_good slot_of le le_bytes fields first_contents data_of starts_from bundle_bytes
nothing_there = refl

-- no slots: 8 zero bytes
no_slots : tidy_of (replicate 8 0) (replicate 8 7) ≡ tidy_outcome (Ok 8) (replicate 8 0)
unfolding tidy_of tidy_len_of well_formed slots_good slot_of le le_bytes fields first_contents data_of starts_from bundle_bytes
no_slots = refl
