-- `tidy::put_lengths` meets its contract: each pass stores one more length. Assumes nothing.
use mathlib.Core.Path.{◌≡◌, refl, sym, ap, ◌∙◌}
use mathlib.Core.List.{List, map}
use Prim.Native.Nat.{ℕ, suc, ◌+◌, ◌*◌}
use native.Mathlib.Numerals.{add-one}
use native.Mathlib.Omega.{arith}
use lib.Seq.{sets}
use Rattle.field.specs.Field.{le_bytes, fields, words}
use Rattle.bundle.specs.Content.{size_in, content_of}
use Rattle.tidied.specs.Tidy.{first_contents}
use Rattle.tidied.proofs.Laws.{data_up_to, lengths_stored}
use Rattle.tidy.proofs.put_lengths.Goals as goal

pub loop-i-init : goal.loop-i-init
unfolding fields first_contents
loop-i-init c = refl

pub overflow_cast-length_at : goal.overflow_cast-length_at
overflow_cast-length_at c =
    let l = c.loop-i in
    let a = c.args in
    omega (arith, c.length_at.ensures, data_up_to a.set.now l.i a.n (omega arith))

pub loop-i-preserved : goal.loop-i-preserved
loop-i-preserved c =
    let l = c.loop-i in
    let a = c.args in
    let B : List ℕ = a.set.now in
    let x : c.store.new.to ≡ sets l.to (a.at + 4 * l.i) (le_bytes 4 c.length_at.result) = c.store.ensures in
    let y : c.store.new.to ≡ sets a.to.now a.at (words (map size_in (first_contents B (suc l.i)))) =
    x
    ∙ ap (λ (k : ℕ). sets l.to (a.at + 4 * l.i) (le_bytes 4 k)) c.length_at.ensures
    ∙ ap (λ (d : List ℕ). sets d (a.at + 4 * l.i) (le_bytes 4 (size_in (content_of B l.i)))) l.invariant
    ∙ sym (lengths_stored B a.to.now a.at l.i) in
    rw add-one y
