-- `forecast::forecast` meets its contract: an entry more is the first of those that were left; a refusal is handed on. Assumes nothing.
use Rattle.std.proofs.Common.{◌≡◌, ℕ, ◌+◌, ◌<◌, List, length, get_or, drop, refl, sym, ap, ◌∙◌, add-one, arith, drop-cons}
use Rattle.std.proofs.lemmas.Result.{err_from_is_err_and}
use Rattle.std.specs.Prelude.{Result, Ok, Err}
use Rattle.base.proofs.Telling.{tells}
use Rattle.refusal.specs.declared.Refusal.{Refusal}
use Rattle.entry.specs.declared.RamdumpTable64.{RamdumpTable64}
use Rattle.forecast_sums.specs.Forecast.{forecast_of, forecast_chunk as chunk, forecast_told}
use Rattle.forecast_sums.specs.Sums.{add_of, add_all}
use Rattle.forecast_sums.specs.declared.Forecast.{Forecast}
use Rattle.forecast_sums.proofs.Laws.{sums_are, stays}
use Rattle.forecast.proofs.forecast.Goals as goal

-- of the entries from i on, the first is added and the rest are left
one_added : (names : List ℕ) (es : List RamdumpTable64) (i : ℕ) (e : RamdumpTable64) (s : Result Forecast Refusal) → i < length es
    → add_all chunk names (add_of chunk names s (get_or es i e)) (drop (i + 1) es) ≡ add_all chunk names s (drop i es)
unfolding add_all
one_added names es i e s h = rw (add-one i, drop-cons es i e h) refl

-- the names are malformed
pub returns-in_err-sums : goal.returns-in_err-sums
returns-in_err-sums c =
    let names = c.args.names.now in
    let es = c.args.entries.now in
    let p = err_from_is_err_and c.from_residual.result c.from_residual.ensures.1 in
    let w = c.in_err-sums.was in
    let q : forecast_of chunk es names ≡ Err c.in_err-sums.field-0.0 =
    sym (sums_are chunk names es (omega arith)) ∙ rw (← c.start.ensures, w) (stays chunk names es _) in
    tells forecast_told (p.1 ∙ ap Err p.2 ∙ sym q)

-- an entry is refused
pub returns-in_err-sums-2 : goal.returns-in_err-sums-2
returns-in_err-sums-2 c =
    let names = c.args.names.now in
    let es = c.args.entries.now in
    let i = c.loop-e.e-index in
    let p = err_from_is_err_and c.from_residual-in_err-sums-2.result c.from_residual-in_err-sums-2.ensures.1 in
    let e = c.in_err-sums-2.ensures in
    let q : forecast_of chunk es names ≡ Err c.in_err-sums-2.field-0.0 =
    sym (sums_are chunk names es (omega arith))
    ∙ sym c.loop-e.invariant
    ∙ sym (one_added names es i _ (Ok c.loop-e.sums) c.loop-e-test.true)
    ∙ ap (λ (r : Result Forecast Refusal). add_all chunk names r (drop (i + 1) es)) (sym e)
    ∙ stays chunk names (drop (i + 1) es) _ in
    tells forecast_told (p.1 ∙ ap Err p.2 ∙ sym q)

pub loop-e-preserved : goal.loop-e-preserved
loop-e-preserved c =
    let e = c.in_ok-sums-2.ensures in
    rw e (one_added _ _ c.loop-e.e-index _ (Ok c.loop-e.sums) c.loop-e-test.true ∙ c.loop-e.invariant)
