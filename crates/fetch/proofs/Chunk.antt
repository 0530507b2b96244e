-- The chunk size is a multiple of 512 from 2,048 to 65,536, and nothing else of it is used: what the count of chunks, a quotient by it, obeys,
-- by whether one chunk is all, and where a region's chunks end. (omega divides by numerals alone.) Assumes nothing.
use mathlib.Core.Path.{◌≡◌, refl, ◌∙◌}
use mathlib.Core.Bool.{false}
use Prim.Native.Nat.{ℕ, suc, ◌+◌, ◌-◌, ◌*◌, ◌/◌, ◌%◌, ◌^◌, ◌≤◌, ◌<◌, min}
use native.Mathlib.Omega.{arith}
use native.Mathlib.Nat.{add-zero, mul_comm, mul-suc, mul-le-mul_right, add-div_right, div-eq_of_lt, div-lt_iff_lt-mul}
use lib.Dec.{ltb, lit≤}
use borrow.Author.Tests.{ltb-true, ltb-false}
use Rattle.base.proofs.Ranges.{by_test}
use Rattle.field.specs.Field.{field_size}
use Rattle.field.specs.declared.Width.{Width}
use Rattle.field.specs.declared.Width.TheVariants as WI
use Rattle.entry.specs.Entry.{entry_size}
use Rattle.verdict.specs.Opening.{chunk_of}
use Rattle.verdict.specs.declared.Opening.{Opening}
use Rattle.session.specs.declared.Region.{Region}
use Rattle.session.specs.RegionPhase.{recounted, asks_for}
use Rattle.fetch.specs.Plain.{chunk_count}

pub record Chunk (z : ℕ) : Type 0 where
  pub multiple : z % 512 ≡ 0
  pub least : 2048 ≤ z
  pub most : z ≤ 65536

pub chunk_good : (u : Opening) → Chunk (chunk_of u)
unfolding chunk_of
chunk_good u = record { multiple = refl; least = lit≤ tt; most = lit≤ tt }

-- ---- the most chunks of a region, by the width: 2^64 or 2^32 bytes divided by 2,048

abbrev pub most_reads : Width → ℕ
most_reads WI.Bits32 = 2 ^ 21
most_reads WI.Bits64 = 2 ^ 53

most_bytes : (v : Width) → 256 ^ field_size v ≡ 2048 * most_reads v
most_bytes WI.Bits32 = omega arith
most_bytes WI.Bits64 = omega arith

-- r memory reads for the table and i regions: n for one region more
pub reads_more : (v : Width) (r n i j : ℕ) → r ≤ 1 + i * most_reads v → n ≤ most_reads v → i ≤ j → r + n ≤ 1 + suc j * most_reads v
reads_more WI.Bits32 r n i j h k l = omega arith
reads_more WI.Bits64 r n i j h k l = omega arith

-- a table of n bytes has 1,260 entries of 32 bits at most, 1,024 of 64
pub reads_within : (v : Width) (r n i : ℕ) → r ≤ 1 + i * most_reads v → i ≤ n / entry_size (field_size v) → n ≤ 65536 → r ≤ 2 ^ 63 + 1
reads_within WI.Bits32 r n i h k l = omega arith
reads_within WI.Bits64 r n i h k l = omega arith

module _ (u : Opening) (z : Chunk (chunk_of u)) where
  pub chunk_some : 0 < chunk_of u
  chunk_some = omega (arith, z.least)

  -- ---- the count of chunks

  pub count_none : chunk_count u 0 ≡ 0
  count_none = div-eq_of_lt (omega (arith, chunk_some))

  -- the count of one byte or more is one more than that of all but the last byte, by whole chunks
  count_last : (l : ℕ) → 0 < l → chunk_count u l ≡ suc ((l - 1) / chunk_of u)
  count_last l k =
      let h : 0 < chunk_of u = chunk_some in
      let e : l + (chunk_of u - 1) ≡ l - 1 + chunk_of u = omega arith in
      rw (e, add-div_right (l - 1) h) (omega arith)

  -- one chunk off the front is one less
  pub count_step : (l : ℕ) → 0 < l → chunk_count u l ≡ suc (chunk_count u (l - min (chunk_of u) l))
  count_step l k =
      let h : 0 < chunk_of u = chunk_some in
      by_test (ltb (chunk_of u) l)
      (λ m.
      let i : chunk_of u < l = ltb-true _ _ m in
      let e : l - min (chunk_of u) l + (chunk_of u - 1) ≡ l - 1 = omega arith in
      count_last l k ∙ rw e refl)
      (λ m.
      let i : l ≤ chunk_of u = ltb-false _ _ m in
      let e : l - min (chunk_of u) l ≡ 0 = omega arith in
      let f : l - 1 < chunk_of u = omega arith in
      rw (count_last l k, e, count_none, div-eq_of_lt f) refl)

  -- a region has no more chunks than its width lets it have
  pub count_most : (v : Width) (l : ℕ) → l ≤ 256 ^ field_size v → chunk_count u l ≤ most_reads v
  count_most v l k =
      let m : 2048 * most_reads v ≤ chunk_of u * most_reads v = mul-le-mul_right (most_reads v) z.least in
      let h : 0 < chunk_of u = chunk_some in
      let q : l + (chunk_of u - 1) < suc (most_reads v) * chunk_of u =
      rw (mul_comm (suc (most_reads v)) (chunk_of u), mul-suc (chunk_of u) (most_reads v)) (omega (arith, most_bytes v)) in
      let r : chunk_count u l < suc (most_reads v) = (div-lt_iff_lt-mul chunk_some).1 q in
      omega arith

-- ---- where a region's chunk ends before the region does, it ends at a multiple of 512

abbrev pub CutAt : Region → Type 0
CutAt x = x.done + x.outstanding < x.len → (x.done + x.outstanding) % 512 ≡ 0

-- the next chunk is asked for
pub asked_cut : (u : Opening) (x : Region) → CutAt x → x.outstanding ≡ 0 → x.done < x.len → CutAt (recounted x x.done (asks_for u x) false)
asked_cut u x c z l =
    let e : (x.done + x.outstanding) % 512 ≡ 0 = c (omega arith) in
    let m : x.done % 512 ≡ 0 = rw (z, add-zero) at e in
    λ i. omega (arith, (chunk_good u).multiple)

-- n bytes of it are handed out
pub handed_cut : (x : Region) (n : ℕ) → CutAt x → n ≤ x.outstanding → CutAt (recounted x (x.done + n) (x.outstanding - n) false)
handed_cut x n c l = let e : x.done + n + (x.outstanding - n) ≡ x.done + x.outstanding = omega arith in rw e c
