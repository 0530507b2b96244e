-- Laws of bundles: the slots one by one, what a well-formed bundle is made of, where its slots lie, and how much they hold.
use mathlib.Core.Path.{◌≡◌, refl, sym, ap, ◌∙◌}
use mathlib.Core.Bool.{Bool, true, false, false≢true, ◌&&◌}
use mathlib.Core.List.{List}
use mathlib.Core.Option.{none}
use Prim.Native.Nat.{ℕ, zero, suc, ◌+◌, ◌*◌, ◌<◌, ◌≤◌}
use native.Mathlib.Omega.{arith}
use native.Mathlib.Nat.{add-zero, zero-add}
use native.Mathlib.Numerals.{add-one}
use borrow.Author.Tests.{ltb-false, leb-true, eqb-true, le-ltb, le-leb, lt-leb, eq-eqb}
use lib.Dec.{ltb, leb, eqb}
use lib.ListN.{length, take, drop, length-drop}
use lib.Seq.{length-take-le}
use Rattle.std.specs.List.{list_all, range_with_len}
use Rattle.base.specs.Choice.{pick}
use Rattle.base.proofs.Ranges.{by_else, by_then, either}
use Rattle.bundle.specs.Bundle.{count_of, data_size_of, slot_start_of, slot_length_of, data_from, absent, slot_good, slots_good, well_formed, slot_of}
use Rattle.bundle.specs.Content.{size_in, content_at, content_of}
use Rattle.bundle.specs.declared.Slot.{Slot}
use Rattle.bundle.specs.declared.Slot.TheVariants as S
use Rattle.std.specs.Prelude.{Err}
use Rattle.refusal.specs.declared.Refusal.{Refusal}
use Rattle.refusal.specs.Refusal.{accepted}

-- what a check's answer tells of its test
pub checked_good : (t : Bool) (k : Refusal) → pick t accepted (Err k) ≡ accepted → t ≡ true
checked_good t k h = (by_then t accepted (Err k) (λ q. let z : ◌≡◌ {A = ℕ} 0 1 = cc in omega arith) h).0

pub checked_refused : (t : Bool) (k n : Refusal) → pick t accepted (Err k) ≡ Err n → t ≡ false
checked_refused t k n h = (by_else t accepted (Err k) (λ q. let z : ◌≡◌ {A = ℕ} 0 1 = cc in omega arith) h).0

-- the answers differ
missing≢at : {s l : ℕ} → S.Missing ≡ S.At s l → ⊥
missing≢at q = let z : ◌≡◌ {A = ℕ} 0 1 = cc in omega arith

absent≢at : {s l : ℕ} → S.Absent ≡ S.At s l → ⊥
absent≢at q = let z : ◌≡◌ {A = ℕ} 0 1 = cc in omega arith

absent≢missing : S.Absent ≡ S.Missing → ⊥
absent≢missing q = let z : ◌≡◌ {A = ℕ} 0 1 = cc in omega arith

-- k slots from i on, each by its number
pub slots_list : (gaps : Bool) (b : List ℕ) (k i : ℕ) → list_all (slot_good gaps b) (range_with_len i k) ≡ slots_good gaps b k i
unfolding slots_good
slots_list gaps b zero i = refl
slots_list gaps b (suc k) i = by (slot_good gaps b i) (rw (add-one i) (slots_list gaps b k (suc i))) where
  by : (t : Bool) → list_all (slot_good gaps b) (range_with_len (i + 1) k) ≡ slots_good gaps b k (suc i)
      → (t && list_all (slot_good gaps b) (range_with_len (i + 1) k)) ≡ pick t (slots_good gaps b k (suc i)) false
  by true e = e
  by false e = refl

-- each of k good slots from i on is good
slots_each : (gaps : Bool) (b : List ℕ) (k i j : ℕ) → slots_good gaps b k i ≡ true → j < k → slot_good gaps b (i + j) ≡ true
unfolding slots_good
slots_each gaps b zero i j h l = absurd (omega arith)
slots_each gaps b (suc k) i zero h l = rw add-zero (by_then (slot_good gaps b i) (slots_good gaps b k (suc i)) false false≢true h).0
slots_each gaps b (suc k) i (suc j) h l =
    let t = by_then (slot_good gaps b i) (slots_good gaps b k (suc i)) false false≢true h in
    let r : slot_good gaps b (suc i + j) ≡ true = slots_each gaps b k (suc i) j t.1 (omega arith) in
    let e : i + suc j ≡ suc i + j = omega arith in
    rw e r

-- what a well-formed bundle is made of: its header, at most 64 slots, exactly its data, and good slots
pub record Formed (gaps : Bool) (b : List ℕ) : Type 0 where
  pub header : 8 ≤ length b
  pub few : count_of b ≤ 64
  pub exact : length b ≡ 8 + 8 * count_of b + data_size_of b
  pub each : (i : ℕ) → i < count_of b → slot_good gaps b i ≡ true

pub formed : (gaps : Bool) (b : List ℕ) → well_formed gaps b ≡ true → Formed gaps b
unfolding well_formed
formed gaps b h =
    let r = by_else (ltb (length b) 8) false _ false≢true h in
    let s = by_else (ltb 64 (count_of b)) false _ false≢true r.1 in
    let t = by_then (eqb (length b) (8 + 8 * count_of b + data_size_of b)) (slots_good gaps b (count_of b) 0) false false≢true s.1 in
    record {
      header = ltb-false _ _ r.0;
      few = ltb-false _ _ s.0;
      exact = eqb-true _ _ t.0;
      each = λ i l. rw zero-add at (slots_each gaps b (count_of b) 0 i t.1 l);
    }

-- k slots from i on that are good one by one are good
slots_all : (gaps : Bool) (b : List ℕ) (k i : ℕ) → ((j : ℕ) → i ≤ j → j < i + k → slot_good gaps b j ≡ true) → slots_good gaps b k i ≡ true
unfolding slots_good
slots_all gaps b zero i h = refl
slots_all gaps b (suc k) i h = simp (h i (omega arith) (omega arith)) (slots_all gaps b k (suc i) (λ j l m. h j (omega arith) (omega arith)))

-- what is made of these is well-formed
pub is_formed : (gaps : Bool) (b : List ℕ) → Formed gaps b → well_formed gaps b ≡ true
unfolding well_formed
is_formed gaps b f =
    simp
    (le-ltb _ _ f.header, le-ltb _ _ f.few, eq-eqb _ _ f.exact)
    (slots_all gaps b (count_of b) 0 (λ j l m. f.each j (omega arith)))

-- a present slot of a well-formed bundle lies within its bytes
pub slot_fits : (gaps : Bool) (b : List ℕ) (i : ℕ) → well_formed gaps b ≡ true → i < count_of b → absent b i ≡ false
    → data_from b + slot_start_of b i + slot_length_of b i ≤ length b
slot_fits gaps b i h l p =
    let f = formed gaps b h in
    let g : leb (slot_start_of b i + slot_length_of b i) (data_size_of b) ≡ true = rw p at (f.each i l) in
    let r : slot_start_of b i + slot_length_of b i ≤ data_size_of b = leb-true _ _ g in
    omega arith

-- a slot that is marked absent is told so
pub slot_absent : (gaps : Bool) (b : List ℕ) (i : ℕ) → well_formed gaps b ≡ true → i < count_of b → absent b i ≡ true → slot_of b i ≡ S.Absent
unfolding slot_of
slot_absent gaps b i h l p =
    let f = formed gaps b h in
    let d : data_from b ≤ length b = omega arith in
    simp (le-ltb _ _ f.header, le-ltb _ _ d, lt-leb _ _ l, p)

-- any other slot of a well-formed bundle is told with its place and length
pub slot_present : (gaps : Bool) (b : List ℕ) (i : ℕ) → well_formed gaps b ≡ true → i < count_of b → absent b i ≡ false
    → slot_of b i ≡ S.At (data_from b + slot_start_of b i) (slot_length_of b i)
unfolding slot_of
slot_present gaps b i h l p =
    let f = formed gaps b h in
    let d : data_from b ≤ length b = omega arith in
    simp (le-ltb _ _ f.header, le-ltb _ _ d, lt-leb _ _ l, p, le-ltb _ _ (slot_fits gaps b i h l p))

-- in a well-formed name list no slot is absent
pub name_present : (b : List ℕ) (i : ℕ) → well_formed false b ≡ true → i < count_of b → absent b i ≡ false
name_present b i h l = (by_else (absent b i) false _ false≢true ((formed false b h).each i l)).0

-- no bytes have a slot past their count
pub slot_past : (b : List ℕ) (i : ℕ) → count_of b ≤ i → slot_of b i ≡ S.Missing
unfolding slot_of
slot_past b i l = simp (le-leb _ _ l, either)

-- a slot below the count of a well-formed bundle is not missing
below : (gaps : Bool) (b : List ℕ) (i : ℕ) → well_formed gaps b ≡ true → i < count_of b → slot_of b i ≡ S.Missing → (a : Bool) → absent b i ≡ a → ⊥
below gaps b i h l m true p = absent≢missing (sym (slot_absent gaps b i h l p) ∙ m)
below gaps b i h l m false p = missing≢at (sym m ∙ slot_present gaps b i h l p)

-- a well-formed bundle lacks only the slots past its count
pub slot_missing : (gaps : Bool) (b : List ℕ) (i : ℕ) → well_formed gaps b ≡ true → slot_of b i ≡ S.Missing → count_of b ≤ i
slot_missing gaps b i h m =
    let n : i < count_of b → ⊥ = λ l. below gaps b i h l m (absent b i) refl in
    omega arith

-- of any bytes, a slot that is told lies within them
pub slot_within : (b : List ℕ) (i s l : ℕ) → slot_of b i ≡ S.At s l → s + l ≤ length b
unfolding slot_of
slot_within b i s l h =
    let r = by_else (ltb (length b) 8) S.Missing _ missing≢at h in
    let d = by_else (ltb (length b) (data_from b)) S.Missing _ missing≢at r.1 in
    let n = by_else (leb (count_of b) i) S.Missing _ missing≢at d.1 in
    let p = by_else (absent b i) S.Absent _ absent≢at n.1 in
    let f = by_else (ltb (length b) (data_from b + slot_start_of b i + slot_length_of b i)) S.Missing _ missing≢at p.1 in
    let e : data_from b + slot_start_of b i ≡ s = cc in
    let g : slot_length_of b i ≡ l = cc in
    let r : data_from b + slot_start_of b i + slot_length_of b i ≤ length b = ltb-false _ _ f.0 in
    omega arith

-- a slot that is there has as many bytes as it says
pub length_there : (b : List ℕ) (i start size : ℕ) → slot_of b i ≡ S.At start size → length (take size (drop start b)) ≡ size
length_there b i start size e = length-take-le size (drop start b) (rw length-drop (omega (arith, slot_within b i start size e)))

pub size_there : (b : List ℕ) (i start size : ℕ) → slot_of b i ≡ S.At start size → size_in (content_of b i) ≡ size
size_there b i start size e = ap (λ (x : Slot). size_in (content_at b x)) e ∙ length_there b i start size e

-- past the count there is nothing
pub content_past : (b : List ℕ) (i : ℕ) → count_of b ≤ i → content_of b i ≡ none
content_past b i h = ap (content_at b) (slot_past b i h)
