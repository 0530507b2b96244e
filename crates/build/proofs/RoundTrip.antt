-- The fields of what was built, read back: a packet is a row of words and, of a memory read, a row of numbers of its width; a field of a row is found at its
-- place.
-- Assumes nothing.
use mathlib.Core.Path.{◌≡◌, refl, ap, ◌∙◌}
use mathlib.Core.Bool.{Bool, true, false}
use Rattle.base.specs.Choice.{pick}
use mathlib.Core.List.{List, [], ◌∷◌, ◌++◌, append-nil}
use Prim.Native.Nat.{ℕ, zero, suc, ◌+◌, ◌*◌, ◌^◌, ◌<◌}
use native.Mathlib.Omega.{arith}
use native.Mathlib.Nat.{mul-zero, mul-one}
use lib.Dec.{T, ltb, ltb→lt}
use lib.ListN.{length, drop, get_or}
use lib.Seq.{drop-append-add}
use Rattle.base.proofs.Ranges.{both_left, both_right}
use Rattle.field.specs.Field.{le, le_bytes, field_size, fields, words}
use Rattle.field.specs.declared.Width.{Width}
use Rattle.field.specs.declared.Width.TheVariants as WI
use Rattle.field.proofs.Laws.{length_fields, field_back}
use Rattle.command.specs.Command.{mode_number, command_number, kind_number}
use Rattle.command.specs.declared.SaharaMode.TheVariants as M
use Rattle.command.specs.declared.SaharaCmdModeCmd.TheVariants as E
use Rattle.build.specs.Build.{read_kind, bytes_of, size_of}
use Rattle.build.specs.declared.Request.{Request}
use Rattle.build.specs.declared.Request.TheVariants as Q

-- each of a list is below b
abbrev below : ℕ → List ℕ → Bool
below b [] = true
below b (k ∷ ks) = pick (ltb k b) (below b ks) false

-- each of a list whose numbers are below b is below b
each_below : (b : ℕ) (vs : List ℕ) (i : ℕ) → T (below b vs) → i < length vs → get_or vs i 0 < b
each_below b [] i t h = absurd (omega arith)
each_below b (v ∷ vs) zero t h = ltb→lt v b (both_left (ltb v b) (below b vs) t)
each_below b (v ∷ vs) (suc i) t h = each_below b vs i (both_right (ltb v b) (below b vs) t) (omega arith)

-- the words of a packet, from its first byte on, the width of the numbers behind them, and these
abbrev pub words_in : Request → List ℕ
words_in (Q.HelloResp m) = 2 ∷ 48 ∷ 2 ∷ 1 ∷ 0 ∷ mode_number m ∷ 0 ∷ 0 ∷ 0 ∷ 0 ∷ 0 ∷ 0 ∷ []
words_in Q.Done = 5 ∷ 8 ∷ []
words_in (Q.Execute c) = 0x0d ∷ 12 ∷ command_number c ∷ []
words_in (Q.ExecuteData c) = 0x0f ∷ 12 ∷ command_number c ∷ []
words_in Q.SwitchMode = 0x0c ∷ 12 ∷ 0 ∷ []
words_in Q.Reset = 7 ∷ 8 ∷ []
words_in (Q.MemRead v a k) = kind_number (read_kind v) ∷ size_of (Q.MemRead v a k) ∷ []

abbrev pub numbers_width : Request → Width
numbers_width (Q.HelloResp m) = WI.Bits64
numbers_width Q.Done = WI.Bits64
numbers_width (Q.Execute c) = WI.Bits64
numbers_width (Q.ExecuteData c) = WI.Bits64
numbers_width Q.SwitchMode = WI.Bits64
numbers_width Q.Reset = WI.Bits64
numbers_width (Q.MemRead v a k) = v

abbrev pub numbers_in : Request → List ℕ
numbers_in (Q.HelloResp m) = []
numbers_in Q.Done = []
numbers_in (Q.Execute c) = []
numbers_in (Q.ExecuteData c) = []
numbers_in Q.SwitchMode = []
numbers_in Q.Reset = []
numbers_in (Q.MemRead v a k) = a ∷ k ∷ []

-- their bytes
abbrev pub number_bytes : Request → List ℕ
number_bytes q = fields (field_size (numbers_width q)) (numbers_in q)

-- a packet is its words and its numbers
pub bytes_are : (q : Request) → bytes_of q ≡ words (words_in q) ++ number_bytes q
unfolding bytes_of fields le_bytes
bytes_are (Q.HelloResp m) = refl
bytes_are Q.Done = refl
bytes_are (Q.Execute c) = refl
bytes_are (Q.ExecuteData c) = refl
bytes_are Q.SwitchMode = refl
bytes_are Q.Reset = refl
bytes_are (Q.MemRead WI.Bits32 a k) = refl
bytes_are (Q.MemRead WI.Bits64 a k) = refl

words_fit : (q : Request) → T (below (256 ^ 4) (words_in q))
words_fit (Q.HelloResp M.WaitingForImage) = tt
words_fit (Q.HelloResp M.ImageTransferComplete) = tt
words_fit (Q.HelloResp M.MemoryDebug) = tt
words_fit (Q.HelloResp M.Command) = tt
words_fit Q.Done = tt
words_fit (Q.Execute E.Nop) = tt
words_fit (Q.Execute E.ReadSerialNum) = tt
words_fit (Q.Execute E.ReadHwId) = tt
words_fit (Q.Execute E.ReadOemKeyHash) = tt
words_fit (Q.ExecuteData E.Nop) = tt
words_fit (Q.ExecuteData E.ReadSerialNum) = tt
words_fit (Q.ExecuteData E.ReadHwId) = tt
words_fit (Q.ExecuteData E.ReadOemKeyHash) = tt
words_fit Q.SwitchMode = tt
words_fit Q.Reset = tt
words_fit (Q.MemRead WI.Bits32 a k) = tt
words_fit (Q.MemRead WI.Bits64 a k) = tt

-- each word of each packet is read back
pub words_back : (q : Request) (i : ℕ) → i < length (words_in q) → le 4 (drop (4 * i) (bytes_of q)) ≡ get_or (words_in q) i 0
words_back q i h =
    ap (λ (s : List ℕ). le 4 (drop (4 * i) s)) (bytes_are q)
    ∙ field_back 4 i (words_in q) (number_bytes q) h (each_below (256 ^ 4) (words_in q) i (words_fit q) h)

-- the length field is the packet's size
pub length_back : (q : Request) → le 4 (drop 4 (bytes_of q)) ≡ size_of q
length_back (Q.HelloResp m) = words_back (Q.HelloResp m) 1 (omega arith)
length_back Q.Done = words_back Q.Done 1 (omega arith)
length_back (Q.Execute c) = words_back (Q.Execute c) 1 (omega arith)
length_back (Q.ExecuteData c) = words_back (Q.ExecuteData c) 1 (omega arith)
length_back Q.SwitchMode = words_back Q.SwitchMode 1 (omega arith)
length_back Q.Reset = words_back Q.Reset 1 (omega arith)
length_back (Q.MemRead v a k) = words_back (Q.MemRead v a k) 1 (omega arith)

-- each number that its width holds is read back
pub numbers_back : (q : Request) (i : ℕ)
    → i < length (numbers_in q)
    → get_or (numbers_in q) i 0 < 256 ^ field_size (numbers_width q)
    → le (field_size (numbers_width q)) (drop (4 * length (words_in q) + field_size (numbers_width q) * i) (bytes_of q)) ≡ get_or (numbers_in q) i 0
numbers_back q i h b =
    rw (
      bytes_are q,
      ← length_fields 4 (words_in q),
      drop-append-add (words (words_in q)) (number_bytes q) (field_size (numbers_width q) * i),
      ← append-nil (number_bytes q),
    )
    (field_back (field_size (numbers_width q)) i (numbers_in q) [] h b)

-- the address and the length of a memory read of either width
module _ (v : Width) (a k : ℕ) where
  pub read_address : a < 256 ^ field_size v → le (field_size v) (drop 8 (bytes_of (Q.MemRead v a k))) ≡ a
  read_address h = rw mul-zero at (numbers_back (Q.MemRead v a k) 0 (omega arith) h)

  pub read_length : k < 256 ^ field_size v → le (field_size v) (drop (8 + field_size v) (bytes_of (Q.MemRead v a k))) ≡ k
  read_length h = rw mul-one at (numbers_back (Q.MemRead v a k) 1 (omega arith) h)

-- its four fields
pub mem_read_back : (v : Width) (a k : ℕ) → a < 256 ^ field_size v → k < 256 ^ field_size v
    → (le 4 (drop 0 (bytes_of (Q.MemRead v a k))) ≡ kind_number (read_kind v))
    × (le 4 (drop 4 (bytes_of (Q.MemRead v a k))) ≡ size_of (Q.MemRead v a k))
    × (le (field_size v) (drop 8 (bytes_of (Q.MemRead v a k))) ≡ a)
    × (le (field_size v) (drop (8 + field_size v) (bytes_of (Q.MemRead v a k))) ≡ k)
mem_read_back v a k ha hk = (
  words_back (Q.MemRead v a k) 0 (omega arith),
  words_back (Q.MemRead v a k) 1 (omega arith),
  read_address v a k ha,
  read_length v a k hk,
)
