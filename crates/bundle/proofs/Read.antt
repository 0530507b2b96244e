-- What a check and a slot come to of bytes that end within the header, the starts or the lengths. Assumes nothing.
use mathlib.Core.Path.{◌≡◌}
use mathlib.Core.Bool.{Bool, false}
use mathlib.Core.List.{List}
use Prim.Native.Nat.{ℕ, ◌+◌, ◌*◌, ◌<◌}
use native.Mathlib.Omega.{arith}
use borrow.Author.Tests.{lt-ltb, ne_eqb}
use lib.ListN.{length}
use Rattle.base.proofs.Ranges.{either}
use Rattle.bundle.specs.Bundle.{count_of, data_size_of, data_from, well_formed, slot_of}
use Rattle.bundle.specs.declared.Slot.TheVariants as S

pub no_room : (gaps : Bool) (b : List ℕ) → length b < 8 + 8 * count_of b → well_formed gaps b ≡ false
unfolding well_formed
no_room gaps b h =
    let q : length b ≡ 8 + 8 * count_of b + data_size_of b → ⊥ = λ q. omega arith in
    simp (ne_eqb _ _ q, either)

pub no_slots : (b : List ℕ) (i : ℕ) → length b < 8 + 8 * count_of b → slot_of b i ≡ S.Missing
unfolding slot_of
no_slots b i h = simp (lt-ltb (length b) (data_from b) (omega arith), either)
