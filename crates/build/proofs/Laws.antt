-- Laws of the packets that are built: their sizes, the front of the out buffer, the two outcomes of a build. Assumes nothing.
use mathlib.Core.Path.{◌≡◌, refl}
use mathlib.Core.List.{List, ◌++◌}
use Prim.Native.Nat.{ℕ, ◌%◌, ◌^◌, ◌<◌, ◌≤◌}
use native.Mathlib.Omega.{arith}
use borrow.Author.Tests.{lt-ltb, le-ltb}
use lib.ListN.{length, take, drop, length-append, length-drop}
use lib.Seq.{sets, take_at, drop_at}
use Rattle.std.proofs.lemmas.List.{append_assoc, drop-append-le, length-take-le, take-append-drop}
use Rattle.base.proofs.Lists.{sets_front}
use Rattle.field.specs.Field.{le_bytes, fields}
use Rattle.field.proofs.Laws.{le_bytes_mod}
use Rattle.field.specs.declared.Width.TheVariants as WI
use Rattle.build.specs.Build.{bytes_of, size_of, front, build_outcome, build_of}
use Rattle.build.specs.declared.Request.{Request}
use Rattle.build.specs.declared.Request.TheVariants as Q
use Rattle.std.specs.Prelude.{Ok, Err}
use Rattle.refusal.specs.declared.Refusal.TheVariants as Refusal

-- a packet has the size that 01 gives
pub length_bytes : (q : Request) → length (bytes_of q) ≡ size_of q
unfolding bytes_of fields le_bytes
length_bytes (Q.HelloResp m) = refl
length_bytes Q.Done = refl
length_bytes (Q.Execute c) = refl
length_bytes (Q.ExecuteData c) = refl
length_bytes Q.SwitchMode = refl
length_bytes Q.Reset = refl
length_bytes (Q.MemRead WI.Bits32 a k) = refl
length_bytes (Q.MemRead WI.Bits64 a k) = refl

-- no packet is longer than 48 bytes
pub size_most : (q : Request) → size_of q ≤ 48
size_most (Q.HelloResp m) = omega arith
size_most Q.Done = omega arith
size_most (Q.Execute c) = omega arith
size_most (Q.ExecuteData c) = omega arith
size_most Q.SwitchMode = omega arith
size_most Q.Reset = omega arith
size_most (Q.MemRead WI.Bits32 a k) = omega arith
size_most (Q.MemRead WI.Bits64 a k) = omega arith

-- the bytes to be sent are the packet's
pub take_front : (q : Request) (o : List ℕ) → take (size_of q) (front q o) ≡ bytes_of q
take_front q o = take_at (bytes_of q) _ (size_of q) (length_bytes q)

-- those behind them are as they were
pub drop_front : (q : Request) (o : List ℕ) → drop (size_of q) (front q o) ≡ drop (size_of q) o
drop_front q o = drop_at (bytes_of q) _ (size_of q) (length_bytes q)

-- the out buffer stays as long as it was
pub length_front : (q : Request) (o : List ℕ) → size_of q ≤ length o → length (front q o) ≡ length o
length_front q o h = simp (length-append, length-drop, length_bytes q) (omega arith)

-- a packet stored at 0 is the front
pub stored_front : (q : Request) (o : List ℕ) → size_of q ≤ length o → sets o 0 (bytes_of q) ≡ front q o
stored_front q o = sets_front (bytes_of q) o (size_of q) (length_bytes q)

-- refused below 48 bytes, else built
pub build_short : (q : Request) (o : List ℕ) → length o < 48 → build_of q o ≡ build_outcome (Err Refusal.OutBuffer) o
unfolding build_of
build_short q o h = simp (lt-ltb _ _ h)

pub build_long : (q : Request) (o : List ℕ) → 48 ≤ length o → build_of q o ≡ build_outcome (Ok (size_of q)) (front q o)
unfolding build_of
build_long q o h = simp (le-ltb _ _ h)

-- a packet stored in the first 48 bytes, the rest behind them, is the front
pub build_within : (q : Request) (o : List ℕ) → 48 ≤ length o
    → build_of q o ≡ build_outcome (Ok (size_of q)) (sets (take 48 o) 0 (bytes_of q) ++ drop 48 o)
build_within q o h =
    let m : size_of q ≤ length (take 48 o) = rw (length-take-le 48 o h) (size_most q) in
    rw (
      build_long q o h,
      stored_front q (take 48 o) m,
      append_assoc,
      ← drop-append-le (size_of q) (take 48 o) (drop 48 o) m,
      take-append-drop 48 o,
    )
    refl

-- a memory read of 32 bits holds what is left of its numbers modulo 2^32
pub narrowed : (a k : ℕ) → bytes_of (Q.MemRead WI.Bits32 (a % 256 ^ 4) (k % 256 ^ 4)) ≡ bytes_of (Q.MemRead WI.Bits32 a k)
unfolding bytes_of fields
narrowed a k = rw (le_bytes_mod 4 a, le_bytes_mod 4 k) refl
