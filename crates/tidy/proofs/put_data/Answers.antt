-- `tidy::put_data` meets its contract: each pass stores the bytes of one more slot. Assumes nothing.
use mathlib.Core.Path.{◌≡◌, refl, sym, ap, ◌∙◌}
use mathlib.Core.List.{List}
use Prim.Native.Nat.{ℕ, suc, ◌+◌}
use native.Mathlib.Numerals.{add-one}
use native.Mathlib.Omega.{arith}
use lib.ListN.{length}
use lib.Seq.{sets}
use Rattle.bundle.specs.Content.{bytes_in, content_of}
use Rattle.writer.specs.Writer.{data_of}
use Rattle.tidied.specs.Tidy.{first_contents}
use Rattle.tidied.proofs.Laws.{data_none, data_grows, data_up_to, data_stored}
use Rattle.tidy.proofs.put_data.Goals as goal

pub loop-i-init : goal.loop-i-init
unfolding data_of first_contents
loop-i-init c = (sym (data_none c.args.set.now), refl)

pub overflow_add-at : goal.overflow_add-at
overflow_add-at c =
    let l = c.loop-i in
    let a = c.args in
    omega (arith, data_up_to a.set.now l.i a.n (omega arith))

pub put_content-requires : goal.put_content-requires
put_content-requires c =
    let l = c.loop-i in
    let a = c.args in
    omega (arith, data_up_to a.set.now l.i a.n (omega arith))

pub overflow_add-sum : goal.overflow_add-sum
overflow_add-sum c =
    let l = c.loop-i in
    let a = c.args in
    omega (arith, c.size_at-sum.ensures, data_up_to a.set.now l.i a.n (omega arith))

pub loop-i-preserved : goal.loop-i-preserved
loop-i-preserved c =
    let l = c.loop-i in
    let a = c.args in
    let B : List ℕ = a.set.now in
    let e : l.sum + c.size_at-sum.result ≡ length (data_of (first_contents B (suc l.i))) =
    omega (arith, c.size_at-sum.ensures, l.invariant.0, data_grows B l.i) in
    let y : c.put_content.new.to ≡ sets a.to.now a.at (data_of (first_contents B (suc l.i))) =
    c.put_content.ensures
    ∙ ap (λ (k : ℕ). sets l.to (a.at + k) (bytes_in (content_of B l.i))) l.invariant.0
    ∙ ap (λ (d : List ℕ). sets d (a.at + length (data_of (first_contents B l.i))) (bytes_in (content_of B l.i))) l.invariant.1
    ∙ sym (data_stored B a.to.now a.at l.i) in
    (rw add-one e, rw add-one y)
