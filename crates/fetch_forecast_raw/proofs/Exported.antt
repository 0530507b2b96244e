-- From the promise of `worgesli_forecast_table` to what a run of C calls comes to. The run's numbers are a session's, so their width is one; they decode to the
-- entries of the first `count` bytes; the promise counts with the session's chunk (`chunk_is`); then `foretold_raw`. That the function ensures just this is
-- read off its own contract (`ensures_it`). Assumes nothing.
use mathlib.Core.Path.{◌≡◌, refl, sym, ap, ◌∙◌}
use mathlib.Core.Logic.{⊎_elim}
use mathlib.Core.Bool.{true, false, not, ◌||◌}
use mathlib.Core.List.{List, ◌++◌}
use Prim.Native.Nat.{ℕ}
use native.Mathlib.Omega.{arith}
use lib.ListN.{take}
use seplogic.Ra.Ura.{Ura}
use base.Logic.{SProp, ent, via, snd∗, ex_e}
use base.Fml.{Lft}
use prog.Memory.{Memory}
use prog.Routine.{Routine}
use types.Logic.{Logic, sem}
use contract.Monad.{Fun, fact, fact_mono}
use denote.Ref.{Bor}
use denote.Triple.Clauses.{ensured, lasts}
use Rattle.base.proofs.Tests.{split}
use Rattle.bundle.specs.Bundle.{well_formed}
use Rattle.field.specs.Field.{field_size}
use Rattle.field.specs.declared.Width.{Width}
use Rattle.field.specs.declared.Width.TheVariants as WI
use Rattle.entry.specs.Entry.{entries_of}
use Rattle.entry.specs.declared.RamdumpTable64.{RamdumpTable64}
use Rattle.verdict.specs.Opening.{chunk_of}
use Rattle.forecast_sums.specs.Forecast.{bytes_needed, reads_needed, passes, needs, forecast_of}
use Rattle.forecast_sums.specs.declared.Forecast.{Forecast}
use Rattle.forecast_sums.proofs.Laws.{chunk_is}
use Rattle.std.specs.Prelude.{Result, Ok}
use Rattle.refusal.specs.declared.Refusal.{Refusal}
use Rattle.raw.specs.declared.RawSession.{RawSession}
use Rattle.raw.specs.Raw.{width_number, width_of, is_width, phase_of, raw_of, session_of}
use Rattle.raw_records.specs.Records.{raw_forecast}
use Rattle.raw_records.specs.declared.RawForecast.{RawForecast}
use Rattle.steps.specs.Steps.{final, Throughout}
use Rattle.steps.proofs.Steps.{final_related}
use Rattle.raw_forecast.specs.RawForecast.{forecast_raw}
use Rattle.worgesli.specs.contracts.worgesli_forecast_table as exported
use Rattle.session.specs.declared.Session.{Session}
use Rattle.fetch.specs.Plain.{Setting}
use Rattle.fetch.specs.Device.{definitions, Lent, start, next}
use Rattle.fetch.proofs.Simulation.{Both, both_start, both_kept}
use Rattle.fetch_raw.specs.Calls.{Call, Called, calling}
use Rattle.fetch_raw.proofs.Theorem.{Numbers, opened_alike, call_alike}
use Rattle.fetch_forecast.specs.Claim.{Decodes, Lends}
use Rattle.fetch_forecast_raw.specs.Exported.{HasTable, behind, TrueOf, ForetellsExported}
use Rattle.fetch_forecast_raw.proofs.Raw.{foretold_raw}

-- a session's numbers tell a width
pub width_is : (v : Width) → is_width (width_number v) ≡ true
width_is WI.Bits32 = refl
width_is WI.Bits64 = refl

width_told : (s : Session) (k : Called) → Numbers s k → is_width k.numbers.width ≡ true
unfolding raw_of
width_told s k e = ap (λ (r : RawSession). is_width r.width) (sym e) ∙ width_is s.width

-- numbers that have their table decode to the entries of its first `count` bytes
decodes : (r : RawSession) (b : List ℕ) → HasTable r → Decodes (session_of r) b (entries_of (field_size (width_of r.width)) (take r.count b))
unfolding session_of phase_of
decodes r b h = ⊎_elim (λ e. rw e refl) (λ e. rw e refl) h

-- an answer that refuses nothing tells the three numbers, as no refusal is 0
abbrev Numbered : Result Forecast Refusal → Type 0
Numbered x = (raw_forecast x).refused ≡ 0 → x ≡ Ok (needs (raw_forecast x).regions (raw_forecast x).bytes (raw_forecast x).reads)

needs_told : (n : ℕ) (es : List RamdumpTable64) (names : List ℕ) → Numbered (forecast_of n es names)
unfolding forecast_of
needs_told n es names =
    split Numbered (not (well_formed false names)) (λ e h. absurd (omega arith))
    (λ e. split Numbered (passes (bytes_needed names es) || passes (reads_needed n names es)) (λ i h. absurd (omega arith)) (λ i h. refl))

-- of a width, the promise is the forecast of the table's entries, with every session's chunk
pub promised_is : (t : List ℕ) (n : ℕ) (names : List ℕ) (c : Setting) → is_width n ≡ true
    → forecast_raw t n names ≡ forecast_of (chunk_of c.opening) (entries_of (field_size (width_of n)) t) names
unfolding forecast_raw
promised_is t n names c e = rw (e, chunk_is c.opening) refl

module _ (choice : ℕ → Call) (c : Setting) where
  -- the numbers are those of the session that the definitions have there
  pub numbers_are : (ls : List Lent) → Both definitions (calling choice) Numbers (opened_alike choice) (call_alike choice) c
      (final (next definitions c) (start definitions c) ls) (behind choice c ls)
  numbers_are ls =
      final_related (next definitions c) (next (calling choice) c) (Both definitions (calling choice) Numbers (opened_alike choice) (call_alike choice) c)
      (both_kept definitions (calling choice) Numbers (opened_alike choice) (call_alike choice) c) ls (start definitions c) (start (calling choice) c)
      (both_start definitions (calling choice) Numbers (opened_alike choice) (call_alike choice) c)

pub foretold_exported : (choice : ℕ → Call) → ForetellsExported choice
foretold_exported choice c before after g t x p z l m k r =
    let w = behind choice c before in
    let n : RawSession = w.state.numbers in
    let es : List RamdumpTable64 = entries_of (field_size (width_of n.width)) (take n.count w.table) in
    let e : forecast_raw (take n.count w.table) n.width c.names ≡ forecast_of (chunk_of c.opening) es c.names =
    promised_is (take n.count w.table) n.width c.names c (width_told _ w.state (numbers_are choice c before).state) in
    let q : x ≡ raw_forecast (forecast_of (chunk_of c.opening) es c.names) = p ∙ ap raw_forecast e in
    rw q
    (foretold_raw choice c before after g es (decodes n w.table t) _ _ _
    (needs_told (chunk_of c.opening) es c.names (sym (ap (λ (y : RawForecast). y.refused) q) ∙ z)) l m k r)

-- ---- the function's own contract, in every model of the logic

module _ {M : Type 1} {𝓤 : Ura M} (𝓛 : Logic 𝓤) (mem : Memory → SProp 𝓤) (run : Routine → Fun 𝓤) (κ κ' : Lft) (table names : Bor (List ℕ)) where
  -- all that a call ensures of its answer x
  abbrev Ensured : ℕ → RawForecast → SProp 𝓤
  Ensured width x = ensured 𝓛 exported.ended (exported.clauses 𝓛 mem run) (κ, (κ', tt)) (table, (width, (names, tt))) tt x

  -- it is the promise
  pub ensures_it : (width : ℕ) (x : RawForecast) → ent 𝓤 (Ensured width x) (fact 𝓤 (x ≡ raw_forecast (forecast_raw table.now width names.now)))
  ensures_it width x =
      ex_e 𝓤 _
      (λ ws.
      snd∗ 𝓤 (sem 𝓛 (lasts exported.ended (κ, (κ', tt)) (table, (width, (names, tt))) ws))
      (fact 𝓤 (x ≡ raw_forecast (forecast_raw table.now width names.now))))

  -- so a call that is lent the table's bytes, the session's width and the run's names answers what is true of the run
  pub foretold_ensured : (choice : ℕ → Call) (c : Setting) (before after : List Lent)
      → Throughout (next (calling choice) c) (Lends (calling choice) c) (start (calling choice) c) (before ++ after)
      → HasTable (behind choice c before).state.numbers
      → table.now ≡ take (behind choice c before).state.numbers.count (behind choice c before).table → names.now ≡ c.names → (x : RawForecast)
      → ent 𝓤 (Ensured (behind choice c before).state.numbers.width x) (fact 𝓤 (TrueOf choice c (before ++ after) x))
  foretold_ensured choice c before after g t lent named x =
      via 𝓤 _ (ensures_it _ x)
      (fact_mono 𝓤 _ (TrueOf choice c (before ++ after) x) (λ e. foretold_exported choice c before after g t x (rw (lent, named) at e)))
