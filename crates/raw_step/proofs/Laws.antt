-- The functions over numbers by whether they are a session's; and for the numbers of a session they are the functions over sessions. Assumes nothing.
use mathlib.Core.Path.{◌≡◌, refl, sym, ap, ◌∙◌}
use mathlib.Core.Bool.{true, false}
use mathlib.Core.List.{List}
use Prim.Native.Nat.{ℕ}
use lib.Dec.{ltb}
use lib.ListN.{length}
use Rattle.base.specs.Choice.{pick}
use Rattle.base.proofs.Ranges.{by_test}
use Rattle.bundle.specs.Bundle.{well_formed}
use Rattle.session.specs.declared.Phase.{Phase}
use Rattle.session.specs.declared.Session.{Session}
use Rattle.session.specs.Outcome.{untouched}
use Rattle.session.specs.Step.{step_of, closed_of}
use Rattle.session.specs.Guard.{phase_step}
use Rattle.waiting.specs.Wanted.{wanted_of}
use Rattle.session.proofs.Parts.{step_1, step_2, step_phase}
use Rattle.refusal.specs.declared.Refusal.{Refusal}
use Rattle.raw.specs.declared.RawSession.{RawSession}
use Rattle.raw.specs.declared.RawStepped.{RawStepped}
use Rattle.raw.specs.Raw.{raw_of, phase_of, session_of, is_session, raw_stepped, refused_raw}
use Rattle.raw.proofs.Laws.{session_back, session_is, refused_told}
use Rattle.raw_step.specs.RawStep.{raw_outcome, raw_outcome_of, no_session, step_raw, closed_raw, wanted_raw}

-- the phase of the session that numbers are read as
phase_read : (r : RawSession) → (session_of r).phase ≡ phase_of r
unfolding session_of
phase_read r = refl

module _ (r : RawSession) (d set names t y o : List ℕ) where
  step_no : is_session r ≡ false → raw_outcome (refused_raw r (no_session set names o)) t y o ≡ step_raw r d set names t y o
  unfolding step_raw
  step_no e = rw e refl

  pub step_is : is_session r ≡ true → raw_outcome_of (step_of (session_of r) d set names t y o) ≡ step_raw r d set names t y o
  unfolding step_raw
  step_is e = rw e refl

  -- refused in the step of a session, and of any other numbers
  refused_both : (why : Refusal) → step_of (session_of r) d set names t y o ≡ untouched (session_of r) why t y o → no_session set names o ≡ why
      → raw_outcome (refused_raw r why) t y o ≡ step_raw r d set names t y o
  refused_both why h n =
      by_test (is_session r)
      (λ e. ap (λ (x : RawStepped). raw_outcome x t y o) (refused_told r why e) ∙ ap raw_outcome_of (sym h) ∙ step_is e)
      (λ e. ap (λ (k : Refusal). raw_outcome (refused_raw r k) t y o) (sym n) ∙ step_no e)

  -- the image set is malformed, the names are
  pub step_images : well_formed true set ≡ false → raw_outcome (refused_raw r Refusal.ImageSet) t y o ≡ step_raw r d set names t y o
  step_images f = refused_both Refusal.ImageSet (step_1 (session_of r) d set names t y o f) (rw f refl)

  pub step_names : well_formed true set ≡ true → well_formed false names ≡ false → raw_outcome (refused_raw r Refusal.NameList) t y o ≡ step_raw r d set names t y o
  step_names f g = refused_both Refusal.NameList (step_2 (session_of r) d set names t y o f g) (rw (f, g) refl)

  -- behind them, of no session and of a session
  module _ (f : well_formed true set ≡ true) (g : well_formed false names ≡ true) where
    pub step_none : is_session r ≡ false → raw_outcome (refused_raw r (pick (ltb (length o) 48) Refusal.OutBuffer Refusal.Limit)) t y o ≡ step_raw r d set names t y o
    step_none e =
        let n : no_session set names o ≡ pick (ltb (length o) 48) Refusal.OutBuffer Refusal.Limit = rw (f, g) refl in
        ap (λ (k : Refusal). raw_outcome (refused_raw r k) t y o) (sym n) ∙ step_no e

    pub step_formed : is_session r ≡ true → raw_outcome_of (phase_step (session_of r) d set names t y o (phase_of r)) ≡ step_raw r d set names t y o
    step_formed e =
        ap (λ (p : Phase). raw_outcome_of (phase_step (session_of r) d set names t y o p)) (sym (phase_read r))
        ∙ ap raw_outcome_of (sym (step_phase (session_of r) d set names t y o f g))
        ∙ step_is e

pub closed_no : (r : RawSession) → is_session r ≡ false → refused_raw r Refusal.Limit ≡ closed_raw r
unfolding closed_raw
closed_no r e = rw e refl

pub closed_is : (r : RawSession) → is_session r ≡ true → raw_stepped (closed_of (session_of r)) ≡ closed_raw r
unfolding closed_raw
closed_is r e = rw e refl

pub wanted_no : (r : RawSession) → is_session r ≡ false → 0 ≡ wanted_raw r
unfolding wanted_raw
wanted_no r e = rw e refl

pub wanted_is : (r : RawSession) → is_session r ≡ true → wanted_of (session_of r) ≡ wanted_raw r
unfolding wanted_raw
wanted_is r e = rw e refl

-- ---- of a session's numbers: what the session does, told as numbers

pub step_told : (s : Session) (d set names t y o : List ℕ) → step_raw (raw_of s) d set names t y o ≡ raw_outcome_of (step_of s d set names t y o)
step_told s d set names t y o = rw (← step_is (raw_of s) d set names t y o (session_is s), session_back s) refl

pub closed_told : (s : Session) → closed_raw (raw_of s) ≡ raw_stepped (closed_of s)
closed_told s = rw (← closed_is (raw_of s) (session_is s), session_back s) refl

pub wanted_told : (s : Session) → wanted_raw (raw_of s) ≡ wanted_of s
wanted_told s = rw (← wanted_is (raw_of s) (session_is s), session_back s) refl

-- ---- what is given back for a session is a session

pub step_keeps : (r : RawSession) (d set names t y o : List ℕ) → is_session r ≡ true
    → is_session (step_raw r d set names t y o).stepped.session ≡ true
unfolding raw_stepped
step_keeps r d set names t y o e =
    rw (← step_is r d set names t y o e) (session_is (step_of (session_of r) d set names t y o).stepped.session)

pub closed_keeps : (r : RawSession) → is_session r ≡ true → is_session (closed_raw r).session ≡ true
unfolding raw_stepped
closed_keeps r e = rw (← closed_is r e) (session_is (closed_of (session_of r)).session)
