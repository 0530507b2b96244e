-- Laws of selection: one turn of the search over the names, and what the next selected entry is.
use mathlib.Core.Path.{◌≡◌, refl, sym, ap, ◌∙◌}
use mathlib.Core.Bool.{Bool, true, false}
use mathlib.Core.List.{List, [], ◌∷◌, map}
use Prim.Native.Nat.{ℕ, zero, suc, ◌+◌, ◌-◌, ◌/◌, ◌<◌, ◌≤◌, ◌*◌}
use native.Mathlib.Omega.{arith}
use native.Mathlib.Numerals.{add-one}
use native.Mathlib.Nat.{le_refl, sub-zero, add-suc, suc-add, mul-le-mul_left, le_trans}
use borrow.Author.Tests.{eqb-true, eq-eqb, le-ltb, ltb-false, leb-true, leb-false, clash, eqb-false}
use lib.Dec.{eqb, leb}
use Rattle.std.specs.Char.{to_ascii_lowercase}
use Rattle.std.proofs.lemmas.Str.Ascii.{lowercase_is}
use lib.ListN.{length, take, drop, length-map, length-take, length-drop}
use Rattle.base.specs.Choice.{pick}
use Rattle.base.proofs.Ranges.{by_test, by_then}
use Rattle.bundle.proofs.Laws.{slot_within}
use Rattle.bundle.specs.Bundle.{slot_of}
use Rattle.bundle.specs.declared.Slot.TheVariants.{At}
use Rattle.entry.specs.Entry.{entry_size, there, entry_at}
use Rattle.std.specs.Prelude.{Some, None}
use Rattle.entry.specs.declared.RamdumpTable64.{RamdumpTable64}
use Rattle.entry.proofs.Laws.{there_below, entry_told, entry_untold, there_take, entry_of_take}
use Rattle.selection.specs.Selection.{low, with_name, names_from, same, member, selected_by, selected, selected_at, next_of}

-- the library lowers a byte as the definition does, and so a string of them
pub low_is : (b : ℕ) → to_ascii_lowercase b ≡ low b
unfolding low
low_is b =
    by_test (leb 65 b)
    (λ h.
    by_test (leb b 90)
    (λ k. (lowercase_is b).0 (leb-true 65 b h, leb-true b 90 k) ∙ rw (h, k) refl)
    (λ k. (lowercase_is b).2 (leb-false b 90 k) ∙ rw (h, k) refl))
    (λ h. (lowercase_is b).1 (leb-false 65 b h) ∙ rw h refl)

pub lowered_is : (xs : List ℕ) → map to_ascii_lowercase xs ≡ map low xs
lowered_is [] = refl
lowered_is (x ∷ xs) = rw (low_is x, lowered_is xs) refl

-- byte strings are the same by the test where they are equal, and only there
pub same_itself : (xs : List ℕ) → same xs xs ≡ true
unfolding same
same_itself [] = refl
same_itself (x ∷ xs) = rw (eq-eqb x x refl, same_itself xs) refl

pub same_equal : (xs ys : List ℕ) → same xs ys ≡ true → xs ≡ ys
unfolding same
same_equal [] [] h = refl
same_equal [] (y ∷ ys) h = absurd (clash h)
same_equal (x ∷ xs) [] h = absurd (clash h)
same_equal (x ∷ xs) (y ∷ ys) h =
    let r = by_then (eqb x y) (same xs ys) false clash h in
    rw (eqb-true x y r.0, same_equal xs ys r.1) refl

-- a stem is one of the names from slot i on, of n slots
abbrev pub named_from : List ℕ → ℕ → List ℕ → ℕ → Bool
named_from b n stem i = member (map low stem) (map (map low) (names_from b (n - i) i))

-- from slot 0 on they are all the names
pub named_all : (b : List ℕ) (n : ℕ) (stem : List ℕ) → member (map low stem) (map (map low) (names_from b n 0)) ≡ named_from b n stem 0
named_all b n stem = rw sub-zero refl

-- behind the last slot there is no name
pub named_done : (b : List ℕ) (n : ℕ) (stem : List ℕ) (i : ℕ) → n ≤ i → named_from b n stem i ≡ false
unfolding names_from member
named_done b n stem i h =
    let e : n - i ≡ 0 = omega arith in
    rw e refl

-- the name of a slot is the stem, or the search goes on behind it
pub named_at : (b : List ℕ) (n : ℕ) (stem : List ℕ) (i start size : ℕ) → i < n → slot_of b i ≡ At start size
    → named_from b n stem i ≡ pick (same (map low stem) (map low (take size (drop start b)))) true (named_from b n stem (i + 1))
unfolding names_from member
named_at b n stem i start size h e =
    let k : n - i ≡ suc (n - (i + 1)) = omega arith in
    rw (k, add-one i, e) refl

-- a slot that adds no name is passed over: an absent or a missing one
pub named_without : (b : List ℕ) (n : ℕ) (stem : List ℕ) (i : ℕ) → i < n → ((rest : List (List ℕ)) → with_name b (slot_of b i) rest ≡ rest)
    → named_from b n stem i ≡ named_from b n stem (i + 1)
unfolding names_from
named_without b n stem i h e =
    let k : n - i ≡ suc (n - (i + 1)) = omega arith in
    rw (k, add-one i, e) refl

-- a name that is the stem ends the search, and another is passed over
pub named_here : (b : List ℕ) (n : ℕ) (stem : List ℕ) (i start size : ℕ) → i < n → slot_of b i ≡ At start size
    → map low (take size (drop start b)) ≡ map low stem → named_from b n stem i ≡ true
named_here b n stem i start size h e q = named_at b n stem i start size h e ∙ rw (q, same_itself (map low stem)) refl

pub named_other : (b : List ℕ) (n : ℕ) (stem : List ℕ) (i start size : ℕ) → i < n → slot_of b i ≡ At start size
    → (map low (take size (drop start b)) ≡ map low stem → ⊥) → named_from b n stem i ≡ named_from b n stem (i + 1)
named_other b n stem i start size h e d =
    let name : List ℕ = map low (take size (drop start b)) in
    named_at b n stem i start size h e
    ∙ by_test (same (map low stem) name) (λ s. absurd (d (sym (same_equal (map low stem) name s)))) (λ s. rw s refl)

-- one of another length than the stem's among them
pub named_unequal : (b : List ℕ) (n : ℕ) (stem : List ℕ) (i start size : ℕ) → i < n → slot_of b i ≡ At start size → (size ≡ length stem → ⊥)
    → named_from b n stem i ≡ named_from b n stem (i + 1)
named_unequal b n stem i start size h e d =
    let name : List ℕ = take size (drop start b) in
    let w : length name ≡ size = simp (length-take, length-drop) (omega (arith, slot_within b i start size e)) in
    named_other b n stem i start size h e (λ q. d (sym w ∙ sym (length-map name low) ∙ ap length q ∙ length-map stem low))

-- an entry that is not there is not selected
pub selected_missing : (f : ℕ) (names t : List ℕ) (i : ℕ) → there f t i ≡ false → selected_at f names t i ≡ false
selected_missing f names t i h = rw h refl

-- one that is told, by what is told of it
pub selected_told : (f : ℕ) (names t : List ℕ) (i : ℕ) {x : RamdumpTable64} → entry_at f t i ≡ Some x
    → selected_by names x.save_pref x.filename ≡ selected_at f names t i
unfolding selected
selected_told f names t i e =
    let w = entry_told f t i e in
    ap (λ (x : RamdumpTable64). selected_by names x.save_pref x.filename) w.1 ∙ rw w.0 refl

-- one that is not told lies behind the table's end
pub beyond_told : (f : ℕ) (t : List ℕ) (i : ℕ) → entry_at f t i ≡ None → length t / entry_size f ≤ i
beyond_told f t i e = ltb-false i (length t / entry_size f) (sym (there_below f t i) ∙ entry_untold f t i e)

-- an entry that is selected is the next selected one
pub next_here : (f : ℕ) (names t : List ℕ) (k i : ℕ) → selected_at f names t i ≡ true → next_of f names t (suc k) i ≡ i
unfolding next_of
next_here f names t k i h = rw h refl

-- behind one that is not, the next one is sought
pub next_on : (f : ℕ) (names t : List ℕ) (k i : ℕ) → selected_at f names t i ≡ false → next_of f names t (suc k) i ≡ next_of f names t k (suc i)
unfolding next_of
next_on f names t k i h = rw h refl

-- of no entries, the place itself
pub next_none : (f : ℕ) (names t : List ℕ) (i : ℕ) → next_of f names t 0 i ≡ i
unfolding next_of
next_none f names t i = refl

-- the same of the entries before e
pub found_before : (f : ℕ) (names t : List ℕ) (e i : ℕ) → i < e → selected_at f names t i ≡ true → next_of f names t (e - i) i ≡ i
found_before f names t e i h s =
    let k : e - i ≡ suc (e - (i + 1)) = omega arith in
    rw k (next_here f names t (e - (i + 1)) i s)

pub passed_before : (f : ℕ) (names t : List ℕ) (e i : ℕ) → i < e → selected_at f names t i ≡ false
    → next_of f names t (e - i) i ≡ next_of f names t (e - (i + 1)) (i + 1)
passed_before f names t e i h s =
    let k : e - i ≡ suc (e - (i + 1)) = omega arith in
    rw (k, add-one i) (next_on f names t (e - suc i) i s)

-- behind the table's end no entry is selected, and so there is no next one
pub next_beyond : (f : ℕ) (names t : List ℕ) (k i : ℕ) → length t / entry_size f ≤ i → next_of f names t k i ≡ i + k
next_beyond f names t zero i h = next_none f names t i ∙ omega arith
next_beyond f names t (suc k) i h =
    let e : there f t i ≡ false = there_below f t i ∙ le-ltb i (length t / entry_size f) h in
    next_on f names t k i (selected_missing f names t i e) ∙ next_beyond f names t k (suc i) (omega arith) ∙ omega arith

-- the next selected of k entries from i on lies from i on
pub next_from : (f : ℕ) (names t : List ℕ) (k i : ℕ) → i ≤ next_of f names t k i
next_from f names t zero i = rw next_none (le_refl i)
next_from f names t (suc k) i =
    by_test (selected_at f names t i)
    (λ h. rw (next_here f names t k i h) (le_refl i))
    (λ h. rw (next_on f names t k i h) (omega (arith, next_from f names t k (suc i))))

-- and not behind the k
pub next_to : (f : ℕ) (names t : List ℕ) (k i : ℕ) → next_of f names t k i ≤ i + k
next_to f names t zero i = rw next_none (omega arith)
next_to f names t (suc k) i =
    by_test (selected_at f names t i)
    (λ h. rw (next_here f names t k i h) (omega arith))
    (λ h. rw (next_on f names t k i h) (omega (arith, next_to f names t k (suc i))))

-- where there is one, it is selected
pub next_selected : (f : ℕ) (names t : List ℕ) (k i : ℕ) → next_of f names t k i < i + k → selected_at f names t (next_of f names t k i) ≡ true
next_selected f names t zero i l = absurd (omega (arith, next_none f names t i))
next_selected f names t (suc k) i l =
    by_test (selected_at f names t i)
    (λ h. ap (selected_at f names t) (next_here f names t k i h) ∙ h)
    (λ h. ap (selected_at f names t) (next_on f names t k i h) ∙ next_selected f names t k (suc i) (omega (arith, next_on f names t k i h)))

-- and none before it is
pub next_first : (f : ℕ) (names t : List ℕ) (k i j : ℕ) → i ≤ j → j < next_of f names t k i → selected_at f names t j ≡ false
next_first f names t zero i j h l = absurd (omega (arith, next_none f names t i))
next_first f names t (suc k) i j h l =
    by_test (selected_at f names t i)
    (λ e. absurd (omega (arith, next_here f names t k i e)))
    (λ e.
    by_test (eqb i j)
    (λ q. ap (selected_at f names t) (sym (eqb-true i j q)) ∙ e)
    (λ q.
    let n : i ≡ j → ⊥ = eqb-false i j q in
    next_first f names t k (suc i) j (omega arith) (omega (arith, next_on f names t k i e))))

-- whether an entry is selected depends on the table's bytes up to its end alone
pub selected_at_take : (f : ℕ) (names t : List ℕ) (i n : ℕ) → entry_size f * (i + 1) ≤ n → selected_at f names (take n t) i ≡ selected_at f names t i
selected_at_take f names t i n h = rw (there_take f t i n h, entry_of_take f t i n h) refl

-- so does the next selected one, on the bytes up to the end of the k entries
pub next_take : (f : ℕ) (names t : List ℕ) (k i n : ℕ) → entry_size f * (i + k) ≤ n → next_of f names (take n t) k i ≡ next_of f names t k i
next_take f names t zero i n h = next_none f names (take n t) i ∙ sym (next_none f names t i)
next_take f names t (suc k) i n h =
    let m : entry_size f * (i + 1) ≤ n = le_trans (mul-le-mul_left (entry_size f) (omega arith)) h in
    let e : selected_at f names (take n t) i ≡ selected_at f names t i = selected_at_take f names t i n m in
    let r : next_of f names (take n t) k (suc i) ≡ next_of f names t k (suc i) = next_take f names t k (suc i) n (rw (suc-add, ← add-suc) h) in
    by_test (selected_at f names t i)
    (λ s. next_here f names (take n t) k i (e ∙ s) ∙ sym (next_here f names t k i s))
    (λ s. next_on f names (take n t) k i (e ∙ s) ∙ r ∙ sym (next_on f names t k i s))

-- a slot of a list of names, told: where the search ends
pub ruleset name_steps = (slot_within, lowered_is, named_all, named_done, named_here)

-- an entry of a table, told: where the search ends, and where it goes on
pub ruleset next_steps = (selected_told, beyond_told, found_before, passed_before, next_none, next_beyond)
