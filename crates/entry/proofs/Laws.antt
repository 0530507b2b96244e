-- Laws of table entries, over the width f of their numbers: what is told of an entry, which are there, and that nothing behind one matters.
use mathlib.Core.Path.{◌≡◌, refl, sym, ap, ◌∙◌}
use mathlib.Core.Bool.{true, false}
use mathlib.Core.List.{List}
use Prim.Native.Nat.{ℕ, zero, suc, ◌+◌, ◌*◌, ◌/◌, ◌<◌, ◌≤◌}
use native.Mathlib.Omega.{arith}
use native.Mathlib.Nat.{mul-add, mul-one, mul_comm, le-div_iff_mul-le, div-lt_iff_lt-mul}
use borrow.Author.Tests.{le-leb, lt-leb, lt-ltb, le-ltb, leb-true, leb-false}
use lib.Dec.{ltb}
use lib.ListN.{length, take, drop, length-take, length-drop}
use lib.Seq.{drop-drop}
use Rattle.base.proofs.Lists.{part_of_first}
use Rattle.base.proofs.Ranges.{by_test}
use Rattle.field.specs.Field.{le}
use Rattle.field.proofs.Laws.{le_within}
use Rattle.std.specs.Prelude.{Some, None}
use Rattle.entry.specs.declared.RamdumpTable64.{RamdumpTable64}
use Rattle.entry.specs.Entry.{entry_size, entries_in, entry_of, filename_of, there, entry_in, entries_from, entry_at}

-- a number that lies within the n bytes from m on is that of the whole list
pub number_within : (w k n m : ℕ) (l : List ℕ) → k + w ≤ n → le w (drop k (take n (drop m l))) ≡ le w (drop (m + k) l)
number_within w k n m l h = rw (le_within w k n (drop m l) h, drop-drop k m l) refl

-- an entry that is there is told with its fields
pub entry_there : (f : ℕ) (t : List ℕ) (i : ℕ) → there f t i ≡ true → entry_at f t i ≡ Some (entry_in f t i)
unfolding entry_at
entry_there f t i h = simp h

-- one that is not there is not
pub entry_missing : (f : ℕ) (t : List ℕ) (i : ℕ) → there f t i ≡ false → entry_at f t i ≡ None
unfolding entry_at
entry_missing f t i h = simp h

-- what is told is there, and is the entry's bytes decoded; where nothing is told there is none
pub entry_told : (f : ℕ) (t : List ℕ) (i : ℕ) {x : RamdumpTable64} → entry_at f t i ≡ Some x → (there f t i ≡ true) × (x ≡ entry_in f t i)
entry_told f t i {x} e =
    by_test (there f t i)
    (λ h. let q : Some x ≡ Some (entry_in f t i) = sym e ∙ entry_there f t i h in (h, cc))
    (λ h. let q : Some x ≡ None = sym e ∙ entry_missing f t i h in absurd (let z : ◌≡◌ {A = ℕ} 0 1 = cc in omega arith))

pub entry_untold : (f : ℕ) (t : List ℕ) (i : ℕ) → entry_at f t i ≡ None → there f t i ≡ false
entry_untold f t i e =
    by_test (there f t i)
    (λ h. let q : Some (entry_in f t i) ≡ None = sym (entry_there f t i h) ∙ e in absurd (let z : ◌≡◌ {A = ℕ} 0 1 = cc in omega arith))
    (λ h. h)

-- the next entry's place
next_place : (n i : ℕ) → n * (i + 1) ≡ n * i + n
next_place n i = rw (mul-add n i 1, mul-one n) refl

-- an entry that is there ends within the table, one that is not does not
pub there_fits : (f : ℕ) (t : List ℕ) (i : ℕ) → there f t i ≡ true → entry_size f * i + entry_size f ≤ length t
there_fits f t i h = rw (← next_place (entry_size f) i) (leb-true (entry_size f * (i + 1)) (length t) h)

pub missing_beyond : (f : ℕ) (t : List ℕ) (i : ℕ) → there f t i ≡ false → length t < entry_size f * i + entry_size f
missing_beyond f t i h = rw (← next_place (entry_size f) i) (leb-false (entry_size f * (i + 1)) (length t) h)

-- the entries that are there are those before length / size
pub there_below : (f : ℕ) (t : List ℕ) (i : ℕ) → there f t i ≡ ltb i (length t / entry_size f)
there_below f t i =
    let e : (i + 1) * entry_size f ≡ entry_size f * i + entry_size f = mul_comm (i + 1) (entry_size f) ∙ next_place (entry_size f) i in
    by_test (there f t i)
    (λ h.
    let w : (i + 1) * entry_size f ≤ length t = rw e (there_fits f t i h) in
    let q : i + 1 ≤ length t / entry_size f = (le-div_iff_mul-le {k = entry_size f} (omega arith)).1 w in
    h ∙ sym (lt-ltb i (length t / entry_size f) (omega arith)))
    (λ h.
    let w : length t < (i + 1) * entry_size f = rw e (missing_beyond f t i h) in
    let q : length t / entry_size f < i + 1 = (div-lt_iff_lt-mul {k = entry_size f} (omega arith)).1 w in
    h ∙ sym (le-ltb i (length t / entry_size f) (omega arith)))

-- what is found at one of them is the entry, decoded
pub entry_found : (f : ℕ) (t : List ℕ) (i : ℕ) → i < entries_in f (length t) → entry_at f t i ≡ Some (entry_in f t i)
entry_found f t i h = entry_there f t i (there_below f t i ∙ lt-ltb i (length t / entry_size f) h)

pub length_entries : (f : ℕ) (t : List ℕ) (k i : ℕ) → length (entries_from f t k i) ≡ k
unfolding entries_from
length_entries f t zero i = refl
length_entries f t (suc k) i = ap suc (length_entries f t k (suc i))

-- an entry that is there has its bytes, and its filename 20
pub length_entry : (f : ℕ) (t : List ℕ) (i : ℕ) → there f t i ≡ true → length (entry_of f t i) ≡ entry_size f
length_entry f t i h = simp (length-take, length-drop) (omega (arith, there_fits f t i h))

pub length_filename : (f : ℕ) (t : List ℕ) (i : ℕ) → there f t i ≡ true → length (filename_of f (entry_of f t i)) ≡ 20
length_filename f t i h = simp (length-take, length-drop) (omega (arith, there_fits f t i h))

-- nothing behind entry i matters to it: of the table's first n bytes and of the table it is the same
pub there_take : (f : ℕ) (t : List ℕ) (i n : ℕ) → entry_size f * (i + 1) ≤ n → there f (take n t) i ≡ there f t i
there_take f t i n h =
    by_test (there f t i)
    (λ e.
    let w : entry_size f * (i + 1) ≤ length t = leb-true (entry_size f * (i + 1)) (length t) e in
    le-leb (entry_size f * (i + 1)) (length (take n t)) (simp length-take (omega arith)) ∙ sym e)
    (λ e.
    let w : length t < entry_size f * (i + 1) = leb-false (entry_size f * (i + 1)) (length t) e in
    lt-leb (entry_size f * (i + 1)) (length (take n t)) (simp length-take (omega arith)) ∙ sym e)

pub entry_of_take : (f : ℕ) (t : List ℕ) (i n : ℕ) → entry_size f * (i + 1) ≤ n → entry_of f (take n t) i ≡ entry_of f t i
entry_of_take f t i n h = part_of_first (entry_size f * i) (entry_size f) n t (rw (← next_place (entry_size f) i) h)

pub entry_at_take : (f : ℕ) (t : List ℕ) (i n : ℕ) → entry_size f * (i + 1) ≤ n → entry_at f (take n t) i ≡ entry_at f t i
unfolding entry_at
entry_at_take f t i n h = rw (there_take f t i n h, entry_of_take f t i n h) refl
