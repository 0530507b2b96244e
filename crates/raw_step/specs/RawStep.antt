-- The step, the channel's end and the bytes asked for over sessions as plain numbers: numbers that are a session's are read as it, and what it does is
-- told as numbers; any other numbers are refused with 18, as document 01 has it for counts that are no session's ("a session count above its limit"),
-- behind 1, 2 and 3 ("Where several apply, the first written here is given"), and nothing is touched.
use Rattle.std.specs.Prelude.{ℕ, true, false, not, List, ltb, length}
use Rattle.base.specs.Choice.{pick}
use Rattle.bundle.specs.Bundle.{well_formed}
use Rattle.session.specs.Outcome.{Outcome}
use Rattle.session.specs.Step.{step_of, closed_of}
use Rattle.waiting.specs.Wanted.{wanted_of}
use Rattle.refusal.specs.declared.Refusal.{Refusal}
use Rattle.raw.specs.declared.RawSession.{RawSession}
use Rattle.raw.specs.declared.RawStepped.{RawStepped}
use Rattle.raw.specs.Raw.{session_of, is_session, raw_stepped, refused_raw}
pub use Rattle.in_place.specs.Place.{raw_at}

-- a step's whole outcome, as numbers
pub record RawOutcome : Type 0 where
  pub stepped : RawStepped
  pub table : List ℕ
  pub reply : List ℕ
  pub out : List ℕ

abbrev pub raw_outcome : RawStepped → List ℕ → List ℕ → List ℕ → RawOutcome
raw_outcome r t y o = record { stepped = r; table = t; reply = y; out = o }

abbrev pub raw_outcome_of : Outcome → RawOutcome
raw_outcome_of x = raw_outcome (raw_stepped x.stepped) x.table x.reply x.out

-- what numbers that are no session's are refused with: image set, names and out buffer
abbrev pub no_session : List ℕ → List ℕ → List ℕ → Refusal
no_session set names o =
    pick (not (well_formed true set)) Refusal.ImageSet
    (pick (not (well_formed false names)) Refusal.NameList (pick (ltb (length o) 48) Refusal.OutBuffer Refusal.Limit))

-- the step: session, delivery, image set, names, table, reply and out buffers
unfoldable pub step_raw : RawSession → List ℕ → List ℕ → List ℕ → List ℕ → List ℕ → List ℕ → RawOutcome
step_raw r d set names t y o =
    pick (is_session r) (raw_outcome_of (step_of (session_of r) d set names t y o)) (raw_outcome (refused_raw r (no_session set names o)) t y o)

-- the channel's end. No buffer is lent here, and what is no session cannot be ended: 18
unfoldable pub closed_raw : RawSession → RawStepped
closed_raw r = pick (is_session r) (raw_stepped (closed_of (session_of r))) (refused_raw r Refusal.Limit)

-- the bytes to read for the next step; what is no session wants none
unfoldable pub wanted_raw : RawSession → ℕ
wanted_raw r = pick (is_session r) (wanted_of (session_of r)) 0
