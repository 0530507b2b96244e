-- `sheet::put_lines` meets its contract: each pass stores one more line. Assumes nothing.
use mathlib.Core.Path.{sym, ap, ◌∙◌}
use Prim.Native.Nat.{◌*◌}
use native.Mathlib.Numerals.{add-one}
use native.Mathlib.Omega.{arith}
use lib.Seq.{sets}
use Rattle.field.specs.Field.{field_size}
use Rattle.entry.specs.declared.RamdumpTable64.{RamdumpTable64}
use Rattle.entry.proofs.Laws.{entry_told}
use Rattle.sheet.specs.Sheet.{line_of}
use Rattle.sheet.proofs.Laws.{lines_more}
use Rattle.sheet.proofs.put_lines.Goals as goal

pub loop-i-preserved : goal.loop-i-preserved
loop-i-preserved c =
    let l = c.loop-i in
    let a = c.args in
    let q = (entry_told (field_size a.width) a.table.now l.i (sym c.entry_at.ensures ∙ c.unwrap-e.ensures)).1 in
    rw (add-one, lines_more (field_size a.width) a.table.now a.page.now l.i (omega arith), ← l.invariant)
    (c.put_line.ensures ∙ ap (λ (y : RamdumpTable64). sets l.page (57 * l.i) (line_of y)) q)
