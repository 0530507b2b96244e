-- The law and the theorem through the C interface, for every choice of calls and of any numbers, a session's or not: those of a session do what the session
-- does, told as numbers, and any others are refused alike. Assumes nothing.
use mathlib.Core.Path.{◌≡◌, refl, ap, ◌∙◌}
use mathlib.Core.Bool.{true}
use mathlib.Core.List.{List}
use Prim.Native.Nat.{ℕ, suc}
use Rattle.base.proofs.Ranges.{by_test}
use Rattle.session.specs.declared.Session.{Session}
use Rattle.session.specs.Outcome.{Outcome}
use Rattle.session.specs.Step.{step_of}
use Rattle.raw.specs.declared.RawSession.{RawSession}
use Rattle.raw.specs.Raw.{raw_of, session_of, is_session, raw_stepped}
use Rattle.raw_step.specs.RawStep.{raw_outcome_of, step_raw}
use Rattle.bundle.specs.Bundle.{well_formed}
use Rattle.steps.specs.Steps.{Throughout}
use Rattle.fetch.specs.Plain.{Setting}
use Rattle.fetch.specs.Device.{given_of, Lent, lent, delivered, World, next}
use Rattle.fetch_raw.specs.Calls.{Call, Called, given_raw, calling}
use Rattle.fetch_raw.proofs.Theorem.{answer_back, call_is}
use Rattle.tidied.proofs.Theorem.{given, same_images}
use Rattle.two_runs.specs.Claim.{Seen, seen_of, RunsAlike, ServesAlike}
use Rattle.two_runs.specs.Alike.{SameShape}
use Rattle.two_runs_raw.specs.Raw.{AgreeRaw}
use Rattle.two_runs.proofs.Step.{step_alike}
use Rattle.two_runs.proofs.Theorem.{two_runs, lent_alike, tidy_alike, alike_served}

-- what is seen of a session's step, its state told as numbers, n calls having been made
abbrev told : ℕ → Seen Session → Seen Called
told n x =
    record {
      given =
          record {
            state = record { numbers = raw_of x.given.state; calls = n };
            taken = x.given.taken;
            answer = x.given.answer;
            table = x.given.table;
            reply = x.given.reply;
            out = x.given.out;
          };
      reports = x.reports;
    }

told_seen : (n : ℕ) (d set : List ℕ) (r : Outcome) → seen_of d set (given_raw n (raw_outcome_of r)) ≡ told n (seen_of d set (given_of r))
unfolding raw_stepped
told_seen n d set r = rw (answer_back r.stepped.answer) refl

module _ (a b : List ℕ) (wa : well_formed true a ≡ true) (wb : well_formed true b ≡ true) (n : ℕ) (r : RawSession) (d names t y o : List ℕ) where
  numbers_alike : (is_session r ≡ true
      → seen_of d a (given_of (step_of (session_of r) d a names t y o)) ≡ seen_of d b (given_of (step_of (session_of r) d b names t y o)))
      → seen_of d a (given_raw n (step_raw r d a names t y o)) ≡ seen_of d b (given_raw n (step_raw r d b names t y o))
  unfolding step_raw
  numbers_alike alike =
      by_test
      (is_session r)
      (λ e.
      rw
      e
      (told_seen n d a (step_of (session_of r) d a names t y o)
      ∙ ap (told n) (alike e)
      ∙ rw (told_seen n d b (step_of (session_of r) d b names t y o)) refl))
      (λ e. rw (e, wa, wb) refl)

-- sets of one shape that agree on what is read
pub runs_alike_raw : (choice : ℕ → Call) (c : Setting) (b : List ℕ) → well_formed true c.set ≡ true → well_formed true b ≡ true → SameShape c.set b
    → (w : World Called) (ls : List Lent) → Throughout (next (calling choice) c) (AgreeRaw c b) w ls → RunsAlike (calling choice) c b w ls
runs_alike_raw choice c b wa wb same w ls p =
    two_runs (calling choice) c b (AgreeRaw c b)
    (λ v l a.
    lent_alike (calling choice) c b v l
    (λ q.
    let s : Called = v.state in
    let d : List ℕ = delivered l.delivery v.queue in
    let names : List ℕ = lent l.names c.names in
    let t : List ℕ = lent l.table v.table in
    let y : List ℕ = lent l.reply v.reply in
    let o : List ℕ = lent l.out v.out in
    rw
    (call_is (choice s.calls) s.numbers d c.set names t y o, call_is (choice s.calls) s.numbers d b names t y o)
    (numbers_alike c.set b wa wb (suc s.calls) s.numbers d names t y o
    (λ e. step_alike c.set b wa wb same (session_of s.numbers) d names t y o (a e q)))))
    w ls p

-- a set and its tidy form: document 02, request 7
pub serves_alike_raw : (choice : ℕ → Call) → ServesAlike (calling choice)
serves_alike_raw choice =
    alike_served (calling choice)
    (λ set form f s d names t y o.
    rw
    (call_is (choice s.calls) s.numbers d set names t y o, call_is (choice s.calls) s.numbers d form names t y o)
    (numbers_alike set form (given set form f).good (same_images set form f).0 (suc s.calls) s.numbers d names t y o
    (λ e. tidy_alike set form f (session_of s.numbers) d names t y o)))
