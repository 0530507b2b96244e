-- Laws of little-endian fields, each once over the width: a field of a + b bytes, reading back what was written, bounds.
use mathlib.Core.Path.{◌≡◌, refl, sym, ap, ◌∙◌}
use mathlib.Core.List.{List, [], ◌∷◌, ◌++◌, append_assoc, append-nil}
use mathlib.Core.Logic.{⊎_elim, ◌⊎◌, inl, inr}
use Prim.Native.Nat.{ℕ, zero, suc, min, ◌+◌, ◌-◌, ◌*◌, ◌/◌, ◌%◌, ◌^◌, ◌<◌, ◌≤◌}
use native.Mathlib.Omega.{arith}
use native.Mathlib.Nat.{
  pow-suc,
  pow-zero,
  div-lt_iff_lt-mul,
  add-zero,
  add-suc,
  suc-add,
  mul_assoc,
  mul_comm,
  mul-zero,
  mul-suc,
  add_comm,
  zero-add,
  add_assoc,
  pow-succ',
  one-le-pow,
  div-div-eq-div-mul,
}
use borrow.Author.Tests.{le-leb, lt-leb}
use lib.ListN.{length, get_or, drop, take, drop_of_length-le, length-append}
use lib.Arith.{mod-mul}
use lib.Dec.{lit<}
use lib.Seq.{sets, sets-eq, drop_at, drop-append-add, length-take-le}
use Rattle.base.proofs.Lists.{sets_behind}
use Rattle.base.proofs.Ranges.{below_or_not}
use Rattle.std.specs.Prelude.{Some, None, Ok, Err, replicate}
use Rattle.std.specs.Int.{byte_at, bytes_low_first}
use Rattle.std.proofs.lemmas.Option.{none-some, same_Some}
use Rattle.std.proofs.lemmas.List.{drop_min, length-drop, drop-drop, take_all}
use borrow.Rule.Slice.PartMut.{put_mid}
use Rattle.field.specs.Field.{le, le_bytes, fields, field_at, put_at, written, short, field_size}
use Rattle.field.specs.declared.Width.{Width}
use Rattle.field.specs.declared.Width.TheVariants as WI

-- the first byte, and the rest
pub le_step : (w : ℕ) (at : ℕ) (s : List ℕ) → le (suc w) (drop at s) ≡ get_or s at 0 + 256 * le w (drop (suc at) s)
unfolding le
le_step zero zero [] = refl
le_step (suc w) zero [] = refl
le_step zero zero (b ∷ bs) = refl
le_step (suc w) zero (b ∷ bs) = refl
le_step zero (suc at) [] = refl
le_step (suc w) (suc at) [] = refl
le_step zero (suc at) (b ∷ bs) = le_step zero at bs
le_step (suc w) (suc at) (b ∷ bs) = le_step (suc w) at bs

le_zero : (s : List ℕ) → le zero s ≡ 0
unfolding le
le_zero s = refl

-- where no byte stands, 0
pub le_past : (w at : ℕ) (s : List ℕ) → length s ≤ at → le w (drop at s) ≡ 0
unfolding le
le_past zero at s h = refl
le_past (suc w) at s h = rw (drop_of_length-le s h) refl

-- a field of a + b bytes is one of a bytes and one of b bytes above it
pub le_split : (a b at : ℕ) (s : List ℕ) → le (a + b) (drop at s) ≡ le a (drop at s) + 256 ^ a * le b (drop (at + a) s)
le_split zero b at s = rw (zero-add b, add-zero at, le_zero, pow-zero 256) (omega arith)
le_split (suc a) b at s =
    rw (suc-add a b, le_step (a + b) at s, le_step a at s, le_split a b (suc at) s, suc-add at a, add-suc at a, pow-suc 256 a)
    (let L : ℕ = le b (drop (suc (at + a)) s) in
    let e : 256 ^ a * 256 * L ≡ 256 * (256 ^ a * L) = ap (λ (k : ℕ). k * L) (mul_comm (256 ^ a) 256) ∙ mul_assoc 256 (256 ^ a) L in
    omega arith)

-- a number that w bytes hold is read back
pub le_of_bytes : (w v : ℕ) (rest : List ℕ) → v < 256 ^ w → le w (le_bytes w v ++ rest) ≡ v
unfolding le le_bytes
le_of_bytes zero v rest h = omega (arith, pow-zero 256)
le_of_bytes (suc w) v rest h =
    let q : v / 256 < 256 ^ w = (div-lt_iff_lt-mul (lit< tt)).1 (rw pow-suc at h) in
    rw (le_of_bytes w (v / 256) rest q) (omega arith)

pub length_le_bytes : (w v : ℕ) → length (le_bytes w v) ≡ w
unfolding le_bytes
length_le_bytes zero v = refl
length_le_bytes (suc w) v = ap suc (length_le_bytes w (v / 256))

-- the bytes of a number of a + b bytes
pub le_bytes_split : (a b v : ℕ) → le_bytes (a + b) v ≡ le_bytes a v ++ le_bytes b (v / 256 ^ a)
unfolding le_bytes
le_bytes_split zero b v = rw zero-add (ap (le_bytes b) (omega arith))
le_bytes_split (suc a) b v =
    rw (suc-add a b, le_bytes_split a b (v / 256), pow-succ' 256 a, div-div-eq-div-mul v 256 (256 ^ a))

-- what is written at a place is read back there
pub read_back : (w v at : ℕ) (d : List ℕ) → at + w ≤ length d → v < 256 ^ w → le w (drop at (sets d at (le_bytes w v))) ≡ v
read_back w v at d h hv =
    rw (sets-eq (le_bytes w v) d at (rw length_le_bytes h), append_assoc, drop_at (take at d) _ at (length-take-le at d (omega arith)))
    (le_of_bytes w v _ hv)

-- four bytes, as code that reads them has them
pub le4 : (at : ℕ) (s : List ℕ) → le 4 (drop at s) ≡ get_or s at 0 + 256 * (get_or s (at + 1) 0 + 256 * (get_or s (at + 2) 0 + 256 * get_or s (at + 3) 0))
le4 at s =
    let e1 : at + 1 ≡ suc at = omega arith in
    let e2 : at + 2 ≡ suc (suc at) = omega arith in
    let e3 : at + 3 ≡ suc (suc (suc at)) = omega arith in
    rw (le_step 3 at s, le_step 2 (suc at) s, le_step 1 (suc (suc at)) s, le_step 0 (suc (suc (suc at))) s, le_zero, e1, e2, e3) (omega arith)

-- eight
pub le8 : (at : ℕ) (s : List ℕ)
    → le 8 (drop at s)
    ≡ get_or s at 0
    + 256 * (get_or s (at + 1) 0
    + 256 * (get_or s (at + 2) 0
    + 256 * (get_or s (at + 3) 0
    + 256 * (get_or s (at + 4) 0
    + 256 * (get_or s (at + 5) 0
    + 256 * (get_or s (at + 6) 0
    + 256 * get_or s (at + 7) 0))))))
le8 at s = rw (le_split 4 4 at s, le4 at s, le4 (at + 4) s, add_assoc at 4 1, add_assoc at 4 2, add_assoc at 4 3) (omega arith)

-- the same of the first bytes of a list
pub le4_front : (s : List ℕ) → le 4 s ≡ get_or s 0 0 + 256 * (get_or s 1 0 + 256 * (get_or s 2 0 + 256 * get_or s 3 0))
le4_front s = le4 0 s

pub le8_front : (s : List ℕ)
    → le 8 s
    ≡ get_or s 0 0
    + 256 * (get_or s 1 0
    + 256 * (get_or s 2 0
    + 256 * (get_or s 3 0
    + 256 * (get_or s 4 0
    + 256 * (get_or s 5 0
    + 256 * (get_or s 6 0
    + 256 * get_or s 7 0))))))
le8_front s = le8 0 s

pow_pos256 : (w : ℕ) → zero < 256 ^ w
pow_pos256 w = one-le-pow w 256 (lit< tt)

-- w bytes hold what is left modulo 256 ^ w
pub le_bytes_mod : (w v : ℕ) → le_bytes w (v % 256 ^ w) ≡ le_bytes w v
unfolding le_bytes
le_bytes_mod zero v = refl
le_bytes_mod (suc w) v =
    let e : v % 256 ^ suc w ≡ (v / 256 % 256 ^ w) * 256 + v % 256 = rw pow-suc (mod-mul v (pow_pos256 w) (lit< tt)) in
    let a : (v % 256 ^ suc w) % 256 ≡ v % 256 = omega arith in
    let b : (v % 256 ^ suc w) / 256 ≡ v / 256 % 256 ^ w = omega arith in
    rw (a, b, le_bytes_mod w (v / 256)) refl

-- a memory of either width ends at or below 2^64, and behind any table's length
pub memory_most : (v : Width) → 256 ^ field_size v ≤ 256 ^ 8
memory_most WI.Bits32 = omega arith
memory_most WI.Bits64 = omega arith

pub memory_least : (v : Width) → 65536 < 256 ^ field_size v
memory_least WI.Bits32 = omega arith
memory_least WI.Bits64 = omega arith

-- w bytes write a number below 256 ^ w
pub le_below : (w at : ℕ) (s : List ℕ) → ((i : ℕ) → get_or s i 0 < 256) → le w (drop at s) < 256 ^ w
le_below zero at s h = rw le_zero (pow_pos256 zero)
le_below (suc w) at s h = rw (le_step w at s, pow-suc 256 w) (omega (arith, le_below w (suc at) s h, h at))

-- a field reads no byte behind it
pub le_take : (w n : ℕ) (s : List ℕ) → w ≤ n → le w (take n s) ≡ le w s
unfolding le
le_take zero n s h = refl
le_take (suc w) zero s h = absurd (omega arith)
le_take (suc w) (suc n) [] h = refl
le_take (suc w) (suc n) (b ∷ bs) h = ap (λ (k : ℕ). b + 256 * k) (le_take w n bs (omega arith))

-- a field within the first n bytes reads none behind them
pub le_within : (w at n : ℕ) (s : List ℕ) → at + w ≤ n → le w (drop at (take n s)) ≡ le w (drop at s)
le_within w zero n s h = le_take w n s (omega arith)
le_within w (suc at) zero s h = absurd (omega arith)
le_within w (suc at) (suc n) [] h = refl
le_within w (suc at) (suc n) (b ∷ bs) h = le_within w at n bs (omega arith)

-- the library's bytes of a number, from byte i on, are those of this page
byte_is : (i v : ℕ) → byte_at i v ≡ v / 256 ^ i % 256
byte_is zero v = omega (arith, pow-zero 256)
byte_is (suc i) v = refl

bytes_from : (w i v : ℕ) → bytes_low_first i w v ≡ le_bytes w (v / 256 ^ i)
unfolding le_bytes
bytes_from zero i v = refl
bytes_from (suc w) i v = rw (byte_is i v, bytes_from w (suc i) v, pow-suc 256 i, div-div-eq-div-mul v (256 ^ i) 256) refl

-- all of them
pub bytes_are : (k v : ℕ) → bytes_low_first 0 k v ≡ le_bytes k v
bytes_are k v = bytes_from k 0 v ∙ ap (le_bytes k) (omega (arith, pow-zero 256))

-- a part of d replaced by the bytes of a number is the number stored
pub bytes_stored : (at k v : ℕ) (d : List ℕ) → at + k ≤ length d → sets d at (le_bytes k v) ≡ put_mid at (at + k - at) d (le_bytes k v)
bytes_stored at k v d h =
    let m : at + k - at ≡ k = omega arith in
    rw (m, sets-eq (le_bytes k v) d at (rw length_le_bytes h), length_le_bytes, drop-drop k at d) (append_assoc (take at d) (le_bytes k v) (drop (at + k) d))

-- so it is of the bytes that the library gives
pub number_stored : (at k v : ℕ) (d : List ℕ) → at + k ≤ length d → sets d at (le_bytes k v) ≡ put_mid at (at + k - at) d (bytes_low_first 0 k v)
number_stored at k v d h = bytes_stored at k v d h ∙ ap (put_mid at (at + k - at) d) (sym (bytes_are k v))

-- from a place on, a place past the end being the end
pub from_place : (at m : ℕ) (s : List ℕ) → m ≡ min at (length s) → take (length s - m) (drop m s) ≡ drop at s
from_place at m s e = rw (e, drop_min at s) (take_all (length s - min at (length s)) (drop at s) (rw length-drop (omega arith)))

-- zeros behind the bytes say nothing
pub le_zeros : (w k : ℕ) (s : List ℕ) → le w (s ++ replicate k 0) ≡ le w s
unfolding le
le_zeros zero k s = refl
le_zeros (suc w) zero [] = refl
le_zeros (suc w) (suc k) [] = let e = le_zeros w k [] ∙ le_past w 0 [] (omega arith) in omega (arith, e)
le_zeros (suc w) k (b ∷ bs) = ap (λ (n : ℕ). b + 256 * n) (le_zeros w k bs)

-- a field that lies within the bytes is told; of one that does not there is none
pub field_is : {A : Type 0} (w : ℕ) (of : ℕ → A) (s : List ℕ) (at : ℕ) → at + w ≤ length s → field_at w of s at ≡ Some (of (le w (drop at s)))
unfolding field_at
field_is w of s at h = simp (le-leb _ _ h)

pub field_short : {A : Type 0} (w : ℕ) (of : ℕ → A) (s : List ℕ) (at : ℕ) → length s < at + w → field_at w of s at ≡ None
unfolding field_at
field_short w of s at h = simp (lt-leb _ _ h)

pub put_done : (w : ℕ) (d : List ℕ) (at v : ℕ) → at + w ≤ length d → put_at w d at v ≡ written (Ok tt) (sets d at (le_bytes w v))
unfolding put_at
put_done w d at v h = simp (le-leb _ _ h)

pub put_short : (w : ℕ) (d : List ℕ) (at v : ℕ) → length d < at + w → put_at w d at v ≡ written (Err short) d
unfolding put_at
put_short w d at v h = simp (lt-leb _ _ h)

-- a field is told exactly where it lies within the bytes
pub field_cases : {A : Type 0} (w : ℕ) (of : ℕ → A) (s : List ℕ) (at : ℕ)
    → ((field_at w of s at ≡ Some (of (le w (drop at s)))) × (at + w ≤ length s)) ⊎ ((field_at w of s at ≡ None) × (length s < at + w))
field_cases w of s at =
    ⊎_elim
    (λ (h : length s < at + w). inr (field_short w of s at h, h))
    (λ (h : at + w ≤ length s). inl (field_is w of s at h, h))
    (below_or_not (length s) (at + w))

-- so what is told says where the field lies
module _ {A : Type 0} (w : ℕ) (of : ℕ → A) (s : List ℕ) (at : ℕ) where
  pub told_is : (x : A) → field_at w of s at ≡ Some x → (at + w ≤ length s) × (x ≡ of (le w (drop at s)))
  told_is x e = ⊎_elim (λ h. (h.1, same_Some _ _ (sym e ∙ h.0))) (λ h. absurd (none-some _ (sym h.0 ∙ e))) (field_cases w of s at)

  pub told_short : field_at w of s at ≡ None → length s < at + w
  told_short e = ⊎_elim (λ h. absurd (none-some _ (sym e ∙ h.0))) (λ h. h.1) (field_cases w of s at)

-- two lists with one front have its fields
pub le_same : (w at k : ℕ) (s t : List ℕ) → at + w ≤ k → take k s ≡ take k t → le w (drop at s) ≡ le w (drop at t)
le_same w at k s t h e = sym (le_within w at k s h) ∙ ap (λ (l : List ℕ). le w (drop at l)) e ∙ le_within w at k t h

-- ---- rows of fields

-- a row's length
pub length_fields : (w : ℕ) (vs : List ℕ) → length (fields w vs) ≡ w * length vs
unfolding fields
length_fields w [] = sym (mul-zero w)
length_fields w (v ∷ vs) = rw (length-append, length_le_bytes w v, length_fields w vs, mul-suc w (length vs)) (add_comm w (w * length vs))

-- behind one field stands what follows it
drop_field : (w v n : ℕ) (s : List ℕ) → drop (w + n) (le_bytes w v ++ s) ≡ drop n s
drop_field w v n s = ap (λ (k : ℕ). drop (k + n) (le_bytes w v ++ s)) (sym (length_le_bytes w v)) ∙ drop-append-add (le_bytes w v) s n

-- field i of a row of fields of w bytes is read back, whatever stands behind the row
pub field_back : (w i : ℕ) (vs rest : List ℕ) → i < length vs → get_or vs i 0 < 256 ^ w → le w (drop (w * i) (fields w vs ++ rest)) ≡ get_or vs i 0
unfolding fields
field_back w i [] rest h b = absurd (omega arith)
field_back w zero (v ∷ vs) rest h b = rw (mul-zero w, append_assoc) (le_of_bytes w v _ b)
field_back w (suc i) (v ∷ vs) rest h b =
    rw (mul-suc w i, add_comm (w * i) w, append_assoc, drop_field w v (w * i) (fields w vs ++ rest)) (field_back w i vs rest (omega arith) b)

-- a row of two rows
pub fields_append : (w : ℕ) (us vs : List ℕ) → fields w (us ++ vs) ≡ fields w us ++ fields w vs
unfolding fields
fields_append w [] vs = refl
fields_append w (u ∷ us) vs = ap (λ (s : List ℕ). le_bytes w u ++ s) (fields_append w us vs) ∙ sym (append_assoc (le_bytes w u) (fields w us) (fields w vs))

-- a row of k fields is stored, and one field more
pub fields_stored : (w k : ℕ) (vs : List ℕ) (v : ℕ) (d : List ℕ) (at : ℕ) → length vs ≡ k
    → sets d at (fields w (vs ++ v ∷ [])) ≡ sets (sets d at (fields w vs)) (at + w * k) (le_bytes w v)
unfolding fields
fields_stored w k vs v d at e =
    ap (sets d at) (fields_append w vs (v ∷ []) ∙ ap (λ (s : List ℕ). fields w vs ++ s) (append-nil (le_bytes w v)))
    ∙ sets_behind (fields w vs) (le_bytes w v) d at (at + w * k) (ap (λ (n : ℕ). at + n) (length_fields w vs ∙ ap (λ (n : ℕ). w * n) e))
