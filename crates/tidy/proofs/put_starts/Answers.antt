-- `tidy::put_starts` meets its contract: each pass stores one more start. Assumes nothing.
use mathlib.Core.Path.{◌≡◌, refl, sym, ap, ◌∙◌}
use mathlib.Core.List.{List}
use Prim.Native.Nat.{ℕ, suc, ◌+◌, ◌*◌}
use native.Mathlib.Numerals.{add-one}
use native.Mathlib.Omega.{arith}
use lib.ListN.{length}
use lib.Seq.{sets}
use Rattle.field.specs.Field.{le_bytes, fields, words}
use Rattle.bundle.specs.Content.{content_of}
use Rattle.writer.specs.Writer.{data_of, start_for, starts_from}
use Rattle.tidied.specs.Tidy.{first_contents}
use Rattle.tidied.proofs.Laws.{data_none, data_grows, data_up_to, starts_stored}
use Rattle.tidy.proofs.put_starts.Goals as goal

pub loop-i-init : goal.loop-i-init
unfolding fields starts_from first_contents
loop-i-init c = (sym (data_none c.args.set.now), refl)

pub overflow_cast-sum : goal.overflow_cast-sum
overflow_cast-sum c =
    let l = c.loop-i in
    let a = c.args in
    omega (arith, data_up_to a.set.now l.i a.n (omega arith))

pub loop-i-preserved : goal.loop-i-preserved
loop-i-preserved c =
    let l = c.loop-i in
    let a = c.args in
    let B : List ℕ = a.set.now in
    let x : c.store.new.to ≡ sets l.to (8 + 4 * l.i) (le_bytes 4 c.start_at.result) = c.store.ensures in
    let v : c.start_at.result ≡ start_for (length (data_of (first_contents B l.i))) (content_of B l.i) =
    c.start_at.ensures ∙ ap (λ (k : ℕ). start_for k (content_of B l.i)) l.invariant.0 in
    let e : l.sum + c.size_at-sum.result ≡ length (data_of (first_contents B (suc l.i))) =
    omega (arith, c.size_at-sum.ensures, l.invariant.0, data_grows B l.i) in
    let y : c.store.new.to ≡ sets a.to.now 8 (words (starts_from 0 (first_contents B (suc l.i)))) =
    x
    ∙ ap (λ (k : ℕ). sets l.to (8 + 4 * l.i) (le_bytes 4 k)) v
    ∙ ap
    (λ (d : List ℕ). sets d (8 + 4 * l.i) (le_bytes 4 (start_for (length (data_of (first_contents B l.i))) (content_of B l.i))))
    l.invariant.1
    ∙ sym (starts_stored B a.to.now l.i) in
    (rw add-one e, rw add-one y)
