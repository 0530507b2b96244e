-- `forecast::forecast_table` meets its contract: the search begins at the next selected entry, and goes on behind the one that is taken. Assumes nothing.
use Rattle.std.proofs.Common.{◌≡◌, ℕ, length, sym, ap, ◌∙◌, arith}
use Rattle.std.proofs.lemmas.Result.{err_from_is_err_and}
use Rattle.std.specs.Prelude.{Ok, Err}
use Rattle.field.specs.Field.{field_size}
use Rattle.entry.specs.Entry.{entries_in, entry_in, entries_of}
use Rattle.entry.specs.declared.RamdumpTable64.{RamdumpTable64}
use Rattle.entry.proofs.Laws.{entry_told, length_entries}
use Rattle.base.proofs.Telling.{tells}
use Rattle.forecast_sums.specs.Forecast.{forecast_of, forecast_chunk as chunk, forecast_told}
use Rattle.forecast_sums.specs.Sums.{more_of}
use Rattle.forecast_sums.proofs.Laws.{sums_are, stays}
use Rattle.forecast.proofs.Search.{begins, goes_on, refused}
use Rattle.forecast.proofs.forecast_table.Goals as goal

pub loop-i-init : goal.loop-i-init
loop-i-init c =
    let a = c.args in
    begins chunk a.names.now (field_size a.width) a.table.now c.entries_in-n.result c.next_selected-i.result c.in_ok-sums.sums _ c.entries_in-n.ensures
    c.next_selected-i.ensures (sym c.start.ensures ∙ c.in_ok-sums.was)

-- the names are malformed
pub returns-in_err-sums : goal.returns-in_err-sums
returns-in_err-sums c =
    let names = c.args.names.now in
    let f = field_size c.args.width in
    let t = c.args.table.now in
    let p = err_from_is_err_and c.from_residual.result c.from_residual.ensures.1 in
    let w = c.in_err-sums.was in
    let q : forecast_of chunk (entries_of f t) names ≡ Err c.in_err-sums.field-0.0 =
    sym (sums_are chunk names (entries_of f t) (rw (length_entries f t (entries_in f (length t)) 0) (omega arith)))
    ∙ rw (← c.start.ensures, w) (stays chunk names (entries_of f t) _) in
    tells forecast_told (p.1 ∙ ap Err p.2 ∙ sym q)

-- a selected entry is refused
pub returns-in_err-sums-2 : goal.returns-in_err-sums-2
returns-in_err-sums-2 c =
    let a = c.args in
    let l = c.loop-i in
    let names = a.names.now in
    let f = field_size a.width in
    let t = a.table.now in
    let n : ℕ = c.entries_in-n.result in
    let p = err_from_is_err_and c.from_residual-in_err-sums-2.result c.from_residual-in_err-sums-2.ensures.1 in
    let x : c.unwrap-e.result ≡ entry_in f t l.i = (entry_told f t l.i (sym c.entry_at.ensures ∙ c.unwrap-e.ensures)).1 in
    let w = c.in_err-sums-2.was in
    let e : more_of chunk (Ok l.sums) (entry_in f t l.i).len ≡ Err c.in_err-sums-2.field-0.0 =
    ap (λ (y : RamdumpTable64). more_of chunk (Ok l.sums) y.len) (sym x) ∙ sym c.more.ensures ∙ w in
    let q : forecast_of chunk (entries_of f t) names ≡ Err c.in_err-sums-2.field-0.0 =
    sym (sums_are chunk names (entries_of f t) (rw (length_entries f t (entries_in f (length t)) 0) (omega (arith, c.entries_in-n.ensures))))
    ∙ refused chunk names f t n l.i l.sums _ _ (omega (arith, c.entries_in-n.ensures)) c.loop-i-test.true l.invariant e in
    tells forecast_told (p.1 ∙ ap Err p.2 ∙ sym q)

pub loop-i-preserved : goal.loop-i-preserved
loop-i-preserved c =
    let a = c.args in
    let l = c.loop-i in
    let f = field_size a.width in
    let t = a.table.now in
    let n : ℕ = c.entries_in-n.result in
    let x : c.unwrap-e.result ≡ entry_in f t l.i = (entry_told f t l.i (sym c.entry_at.ensures ∙ c.unwrap-e.ensures)).1 in
    let w = c.in_ok-sums-2.was in
    let e : more_of chunk (Ok l.sums) (entry_in f t l.i).len ≡ Ok c.in_ok-sums-2.sums =
    ap (λ (y : RamdumpTable64). more_of chunk (Ok l.sums) y.len) (sym x) ∙ sym c.more.ensures ∙ w in
    goes_on chunk a.names.now f t n l.i _ l.sums c.in_ok-sums-2.sums _ (omega (arith, c.entries_in-n.ensures)) c.loop-i-test.true l.invariant e
    c.next_selected-i-in-loop-i.ensures
