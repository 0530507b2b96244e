-- The device: the bytes of its memory, the memory reads that it decodes, and its deliveries: each by the list, or by reading back what was written.
-- Assumes nothing.
use mathlib.Core.Path.{◌≡◌, refl, ap, ◌∙◌}
use mathlib.Core.Bool.{false}
use mathlib.Core.List.{List, [], ◌∷◌, ◌++◌}
use Prim.Native.Nat.{ℕ, zero, suc, ◌+◌, ◌-◌, ◌^◌, ◌≤◌, ◌<◌}
use native.Mathlib.Omega.{arith}
use native.Mathlib.Nat.{add-zero, suc-add, add-suc, sub-zero, suc-sub-suc}
use lib.ListN.{length, take, drop, length-take}
use lib.Seq.{take-take}
use Rattle.field.specs.Field.{le, le_bytes, field_size, fields}
use Rattle.field.specs.declared.Width.{Width}
use Rattle.field.specs.declared.Width.TheVariants as WI
use Rattle.field.proofs.Laws.{memory_least}
use Rattle.packet.specs.Packet.{address_in, length_in}
use Rattle.build.specs.Build.{bytes_of}
use Rattle.build.specs.declared.Request.TheVariants as Q
use Rattle.build.proofs.RoundTrip.{read_address, read_length}
use Rattle.fetch.specs.Plain.{is_read, reads_as, bytes_at}
use Rattle.fetch.specs.Device.{served}
use Rattle.base.proofs.Tests.{neither}

pub no_bytes : (mem : ℕ → ℕ) (at : ℕ) → bytes_at mem at 0 ≡ []
unfolding bytes_at
no_bytes mem at = refl

pub length_bytes_at : (mem : ℕ → ℕ) (a k : ℕ) → length (bytes_at mem a k) ≡ k
unfolding bytes_at
length_bytes_at mem a zero = refl
length_bytes_at mem a (suc k) = ap suc (length_bytes_at mem (suc a) k)

pub take_bytes_at : (mem : ℕ → ℕ) (a k j : ℕ) → j ≤ k → take j (bytes_at mem a k) ≡ bytes_at mem a j
unfolding bytes_at
take_bytes_at mem a k zero h = refl
take_bytes_at mem a zero (suc j) h = absurd (omega arith)
take_bytes_at mem a (suc k) (suc j) h = ap (λ (l : List ℕ). mem a ∷ l) (take_bytes_at mem (suc a) k j (omega arith))

pub drop_bytes_at : (mem : ℕ → ℕ) (a k j : ℕ) → j ≤ k → drop j (bytes_at mem a k) ≡ bytes_at mem (a + j) (k - j)
unfolding bytes_at
drop_bytes_at mem a k zero h = rw (add-zero, sub-zero) refl
drop_bytes_at mem a zero (suc j) h = absurd (omega arith)
drop_bytes_at mem a (suc k) (suc j) h =
    rw (add-suc, ← suc-add, suc-sub-suc) (drop_bytes_at mem (suc a) k j (omega arith))

pub bytes_at_split : (mem : ℕ → ℕ) (a k j : ℕ) → j ≤ k → bytes_at mem a k ≡ bytes_at mem a j ++ bytes_at mem (a + j) (k - j)
unfolding bytes_at
bytes_at_split mem a k zero h = rw (add-zero, sub-zero) refl
bytes_at_split mem a zero (suc j) h = absurd (omega arith)
bytes_at_split mem a (suc k) (suc j) h =
    rw (add-suc, ← suc-add, suc-sub-suc) (ap (λ (l : List ℕ). mem a ∷ l) (bytes_at_split mem (suc a) k j (omega arith)))

-- ---- memory reads

-- a packet that is no memory read gets nothing
pub unserved : (mem : ℕ → ℕ) (p : List ℕ) → is_read p ≡ false → served mem p ≡ []
unfolding served
unserved mem p e =
    let q = neither (reads_as WI.Bits32 p) (reads_as WI.Bits64 p) e in
    rw (q.0, q.1) refl

-- where no byte is asked for, no address is read
at_address : (mem : ℕ → ℕ) (a b k m : ℕ) → a + k ≤ m → (a < m → b ≡ a) → bytes_at mem b k ≡ bytes_at mem a k
unfolding bytes_at
at_address mem a b zero m h f = refl
at_address mem a b (suc k) m h f = ap (λ (x : ℕ). bytes_at mem x (suc k)) (f (omega arith))

-- a memory read of either width is answered by the address and the length in it
served_as_lem : (mem : ℕ → ℕ) (v : Width) (a k : ℕ)
    → served mem (bytes_of (Q.MemRead v a k))
    ≡ bytes_at mem (address_in (field_size v) (bytes_of (Q.MemRead v a k))) (length_in (field_size v) (bytes_of (Q.MemRead v a k)))
unfolding served bytes_of fields le le_bytes
served_as_lem mem WI.Bits32 a k = refl
served_as_lem mem WI.Bits64 a k = refl

-- the device reads back the address and the length that the host wrote: a table and a chunk have at most 65,536 bytes, which either width holds
pub served_read : (mem : ℕ → ℕ) (v : Width) (a k : ℕ) → a + k ≤ 256 ^ field_size v → k ≤ 65536
    → served mem (bytes_of (Q.MemRead v a k)) ≡ bytes_at mem a k
served_read mem v a k h l =
    rw (served_as_lem mem v a k, read_length v a k (omega (arith, memory_least v)))
    (at_address mem a (address_in (field_size v) (bytes_of (Q.MemRead v a k))) k (256 ^ field_size v) h (read_address v a k))

-- ---- deliveries: beginnings of the queue, empty only when nothing is queued

pub record Came (d q : List ℕ) : Type 0 where
  pub begins : d ≡ take (length d) q
  pub some : 0 < length q → 0 < length d

take_again : (m : ℕ) (q : List ℕ) → take m q ≡ take (length (take m q)) q
take_again zero q = refl
take_again (suc m) [] = refl
take_again (suc m) (x ∷ xs) = ap (λ (l : List ℕ). x ∷ l) (take_again m xs)

pub first_came : (m : ℕ) (q : List ℕ) → (0 < length q → 0 < m) → Came (take m q) q
first_came m q h = record { begins = take_again m q; some = λ l. omega (arith, h l, length-take m q) }

pub no_longer : (d q : List ℕ) → Came d q → length d ≤ length q
no_longer d q v = omega (arith, ap length v.begins, length-take (length d) q)

-- the first bytes of a delivery are those of the queue
pub first_of : (d q : List ℕ) (k : ℕ) → Came d q → k ≤ length d → take k d ≡ take k q
first_of d q k v h = ap (take k) v.begins ∙ take-take k (length d) q h
