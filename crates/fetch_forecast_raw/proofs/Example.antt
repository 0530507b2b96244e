-- The theorem is about something: the boards of fetch_forecast_shown/proofs/Example, of either width, by every choice of calls, a forecast asked for between
-- regions and in one. The premises go over from the definitions' run by the laws of related machines. Assumes nothing.
use mathlib.Core.Path.{◌≡◌, refl, sym, ap, subst, ◌∙◌}
use mathlib.Core.Logic.{◌⊎◌, inl, inr}
use mathlib.Core.List.{List, [], ◌∷◌, ◌++◌}
use Prim.Native.Nat.{ℕ}
use lib.ListN.{take, drop}
use Rattle.field.specs.Field.{field_size}
use Rattle.field.specs.declared.Width.{Width}
use Rattle.field.specs.declared.Width.TheVariants as WI
use Rattle.entry.specs.Entry.{entries_of}
use Rattle.entry.specs.declared.RamdumpTable64.{RamdumpTable64}
use Rattle.verdict.specs.Opening.{chunk_of}
use Rattle.verdict.specs.declared.Finish.TheVariants as Finish
use Rattle.forecast_sums.specs.Forecast.{forecast_of}
use Rattle.session.specs.declared.Phase.{Phase}
use Rattle.session.specs.declared.Phase.TheVariants as P
use Rattle.session.specs.declared.Session.{Session}
use Rattle.raw.specs.Raw.{width_number, width_of, counts_of, raw_of}
use Rattle.raw_records.specs.Records.{raw_forecast}
use Rattle.steps.specs.Steps.{final, Throughout}
use Rattle.steps.proofs.Steps.{fair_related}
use Rattle.fetch.specs.Plain.{finished}
use Rattle.fetch.specs.Device.{definitions, Lent, World, start, next}
use Rattle.fetch.specs.Claim.{reports}
use Rattle.fetch.proofs.Simulation.{Both, both_start, both_made, both_kept, same_reports}
use Rattle.fetch_raw.specs.Calls.{Call, Called, calling}
use Rattle.fetch_raw.proofs.Theorem.{Numbers, opened_alike, call_alike}
use Rattle.fetch_forecast.specs.Claim.{DecodesIn, Decodes, Lends, Comes}
use Rattle.fetch_forecast_shown.proofs.Example.{board, first_steps, last_steps, told, entries, fit, DecodedBehind, decoded, decoded_inside, forecast, reported}
use Rattle.fetch_forecast_raw.specs.Exported.{HasTable, promised_for, behind}
use Rattle.fetch_forecast_raw.proofs.Exported.{width_is, promised_is, numbers_are, foretold_exported}

-- ---- a session that decodes to a list: its numbers have the table, and the promise is that list's forecast

table_told : (f : ℕ) (p : Phase) (b : List ℕ) (es : List RamdumpTable64) → DecodesIn f p b es
    → (((counts_of p).phase ≡ 4) ⊎ ((counts_of p).phase ≡ 5)) × (entries_of f (take (counts_of p).count b) ≡ es)
table_told f (P.Packet h) b es e = absurd e
table_told f (P.Response x) b es e = absurd e
table_told f (P.Switched k) b es e = absurd e
table_told f (P.Table x) b es e = absurd e
table_told f (P.Between k i) b es e = (inl refl, e)
table_told f (P.Region k x) b es e = (inr refl, e)
table_told f (P.Ended k) b es e = absurd e

width_back : (v : Width) → width_of (width_number v) ≡ v
width_back WI.Bits32 = refl
width_back WI.Bits64 = refl

has_table : (s : Session) (b : List ℕ) (es : List RamdumpTable64) → Decodes s b es → HasTable (raw_of s)
unfolding raw_of
has_table s b es e = (table_told (field_size s.width) s.phase b es e).0

promised : (s : Session) (b : List ℕ) (es : List RamdumpTable64) → Decodes s b es
    → promised_for (raw_of s) b board.names ≡ raw_forecast (forecast_of (chunk_of board.opening) es board.names)
unfolding raw_of
promised s b es e =
    let t : List ℕ = take (counts_of s.phase).count b in
    let x : entries_of (field_size (width_of (width_number s.width))) t ≡ es =
    rw (width_back s.width) (table_told (field_size s.width) s.phase b es e).1 in
    ap raw_forecast
    (promised_is t (width_number s.width) board.names board (width_is s.width)
    ∙ ap (λ (l : List RamdumpTable64). forecast_of (chunk_of board.opening) l board.names) x)

-- ---- the run

module _ (choice : ℕ → Call) (v : Width) where
  abbrev Same : World Session → World Called → Type 0
  Same = Both definitions (calling choice) Numbers (opened_alike choice) (call_alike choice) board

  fit_raw : Throughout (next (calling choice) board) (Lends (calling choice) board) (start (calling choice) board) (first_steps v ++ last_steps)
  fit_raw =
      fair_related (next (calling choice) board) (next definitions board) (λ w s. Same s w)
      (λ w s l b. both_kept definitions (calling choice) Numbers (opened_alike choice) (call_alike choice) board s w l b)
      (Lends (calling choice) board) (Lends definitions board)
      (λ w s l b z. rw (← (both_made definitions (calling choice) Numbers (opened_alike choice) (call_alike choice) board s w l b).answer) z)
      (first_steps v ++ last_steps) (start (calling choice) board) (start definitions board)
      (both_start definitions (calling choice) Numbers (opened_alike choice) (call_alike choice) board) (fit v)

  -- where the session that these numbers are decodes to the entries
  module _ (ls : List Lent) (d : DecodedBehind v ls) where
    abbrev s : World Session
    s = final (next definitions board) (start definitions board) ls

    same : Same s (behind choice board ls)
    same = numbers_are choice board ls

    there : HasTable (behind choice board ls).state.numbers
    there = subst HasTable same.state (has_table s.state s.table (entries v) d)

    -- two regions, 5 bytes, two memory reads, and nothing refused
    foreseen : promised_for (behind choice board ls).state.numbers (behind choice board ls).table board.names
        ≡ record { regions = 2; bytes = 5; reads = 2; refused = 0 }
    foreseen =
        rw (← same.state, ← same.table) (promised s.state s.table (entries v) d ∙ ap raw_forecast (forecast v))

  reported_raw : reports (calling choice) board (start (calling choice) board) (first_steps v ++ last_steps) ≡ told v ++ (finished Finish.Dumped 2 ∷ [])
  reported_raw =
      sym (same_reports definitions (calling choice) Numbers (opened_alike choice) (call_alike choice) board (first_steps v ++ last_steps)) ∙ reported v

  claimed : Comes 2 5 2 2 (reports (calling choice) board (start (calling choice) board) (first_steps v ++ last_steps))
  claimed =
      foretold_exported choice board (first_steps v) last_steps fit_raw (there (first_steps v) (decoded v)) _ (sym (foreseen (first_steps v) (decoded v))) refl
      (told v) [] 2 reported_raw

  claimed_inside : Comes 2 5 2 2 (reports (calling choice) board (start (calling choice) board) (first_steps v ++ last_steps))
  claimed_inside =
      foretold_exported choice board (first_steps v ++ take 3 last_steps) (drop 3 last_steps) fit_raw
      (there (first_steps v ++ take 3 last_steps) (decoded_inside v)) _ (sym (foreseen (first_steps v ++ take 3 last_steps) (decoded_inside v))) refl
      (told v) [] 2 reported_raw
