-- Packets that the host sends: which are memory reads, by the request; and how many reports of a list are so or so, by induction on it.
-- Assumes nothing.
use mathlib.Core.Path.{◌≡◌, refl}
use mathlib.Core.Bool.{Bool, true, false}
use mathlib.Core.List.{List, [], ◌∷◌, ◌++◌, map}
use Prim.Native.Nat.{ℕ, ◌+◌, ◌≤◌}
use native.Mathlib.Omega.{arith}
use native.Mathlib.Nat.{add_assoc, zero-add}
use lib.ListN.{length}
use Rattle.field.specs.Field.{le, le_bytes, fields}
use Rattle.field.specs.declared.Width.TheVariants as WI
use Rattle.build.specs.Build.{bytes_of, front}
use Rattle.build.specs.declared.Request.{Request}
use Rattle.build.specs.declared.Request.TheVariants as Q
use Rattle.build.proofs.Laws.{size_most, length_front}
use Rattle.fetch.specs.Plain.{Report, byte, is_read, empty_if}
use Rattle.fetch.specs.Meaning.{read_in, how_many, reads_in}

-- the out buffer is as long as before
pub length_out : (q : Request) (o : List ℕ) → 48 ≤ length o → length (front q o) ≡ length o
length_out q o h = length_front q o (omega (arith, size_most q))

-- ---- memory reads, by the command and by the request

abbrev pub asks : Request → Bool
asks (Q.HelloResp m) = false
asks Q.Done = false
asks (Q.Execute c) = false
asks (Q.ExecuteData c) = false
asks Q.SwitchMode = false
asks Q.Reset = false
asks (Q.MemRead v a k) = true

pub asks_read : (q : Request) → is_read (bytes_of q) ≡ asks q
unfolding bytes_of fields le le_bytes
asks_read (Q.HelloResp m) = refl
asks_read Q.Done = refl
asks_read (Q.Execute c) = refl
asks_read (Q.ExecuteData c) = refl
asks_read Q.SwitchMode = refl
asks_read Q.Reset = refl
asks_read (Q.MemRead WI.Bits32 a k) = refl
asks_read (Q.MemRead WI.Bits64 a k) = refl

-- ---- in lists of reports

pub many_append : (p : Report → Bool) (l m : List Report) → how_many p (l ++ m) ≡ how_many p l + how_many p m
unfolding how_many
many_append p [] m = rw zero-add refl
many_append p (r ∷ l) m = rw (many_append p l m, add_assoc) refl

-- bytes and empty reads are none
pub none_of_bytes : (p : Report → Bool) → ((b : ℕ) → p (byte b) ≡ false) → (l : List ℕ) → how_many p (map byte l) ≡ 0
unfolding how_many
none_of_bytes p h [] = refl
none_of_bytes p h (b ∷ l) = rw (h b, none_of_bytes p h l) refl

pub reads_bytes : (l : List ℕ) → reads_in (map byte l) ≡ 0
reads_bytes l = none_of_bytes read_in (λ b. refl) l

pub reads_empty_lem : (b : Bool) → reads_in (empty_if b) ≡ 0
unfolding how_many
reads_empty_lem true = refl
reads_empty_lem false = refl
