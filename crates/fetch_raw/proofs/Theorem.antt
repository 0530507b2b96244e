-- Demand 3 through the C interface, for every choice of calls: the numbers are the session's (`raw_of`), each call gives what the definitions' step gives, told
-- as numbers and read back, and so the theorem goes over (`demand_carried`). Assumes nothing.
use mathlib.Core.Path.{◌≡◌, refl, sym}
use mathlib.Core.Bool.{true, false, true≢false}
use mathlib.Core.List.{List, [], ◌∷◌}
use Prim.Native.Nat.{ℕ, ◌≤◌}
use native.Mathlib.Omega.{arith}
use lib.ListN.{length, get_or}
use Rattle.base.proofs.Ranges.{by_test, by_then}
use Rattle.field.specs.Field.{field_size}
use Rattle.command.specs.Command.{mode_number}
use Rattle.refusal.specs.declared.Refusal.{Refusal}
use Rattle.refusal.specs.Refusal.{refusal_number}
use Rattle.refusal.proofs.Laws.{refusal_back}
use Rattle.verdict.specs.declared.Finish.{Finish}
use Rattle.verdict.specs.Verdict.{finish_number}
use Rattle.verdict.proofs.Telling.{finish_back}
use Rattle.verdict.specs.declared.Opening.{Opening}
use Rattle.session.specs.declared.Phase.{Phase}
use Rattle.session.specs.declared.Phase.TheVariants as P
use Rattle.session.specs.declared.Session.{Session}
use Rattle.session.specs.declared.Answer.{Answer}
use Rattle.session.specs.declared.Answer.TheVariants as A
use Rattle.session.specs.Outcome.{opened_with, is_ended, Outcome}
use Rattle.session.specs.Answers.{answer_number, answer_values}
use Rattle.session.specs.Step.{step_of}
use Rattle.steps.specs.Steps.{Throughout}
use Rattle.raw.specs.declared.RawSession.{RawSession}
use Rattle.raw.specs.Raw.{
  backend_number,
  exec_number,
  width_of,
  is_opening,
  counts_of,
  raw_of,
  session_of,
  is_session,
  opened_raw,
  told_of,
  stepped_at,
  raw_stepped,
}
use Rattle.raw.proofs.Laws.{opening_back, session_is}
use Rattle.raw_step.specs.RawStep.{raw_outcome_of, no_session, step_raw}
use Rattle.raw_step.proofs.Laws.{step_told}
use Rattle.fetch.specs.Plain.{Debug, Setting}
use Rattle.fetch.specs.Device.{definitions, given_of, Lent, lent, delivered, World, start, next}
use Rattle.fetch.specs.Claim.{Run, reports, owns, enough, Premises, Demand}
use Rattle.fetch.specs.Meaning.{Meant}
use Rattle.fetch.specs.Within.{Within, StepWithin, ReplyWithin}
use Rattle.fetch.proofs.Theorem.{fetch, means}
use Rattle.fetch.proofs.Within.{step_within, reply_within}
use Rattle.fetch.proofs.Simulation.{Alike, demand_carried}
use Rattle.fetch_raw.specs.Calls.{answer_of, ReadsBack, Call, by_value, in_place, called_of, Called, width_in, opened_calls, given_raw, calling}

-- ---- what crosses is read back

pub answer_back : (a : Answer) → answer_of (answer_number a) (get_or (answer_values a) 0 0) (get_or (answer_values a) 1 0) ≡ a
answer_back A.Go = refl
answer_back (A.Send k) = refl
answer_back (A.Image x k) = refl
answer_back (A.Open i) = refl
answer_back (A.Bytes k) = refl
answer_back A.EmptyRead = refl
answer_back (A.Close i) = refl
answer_back (A.Finished how r) = rw (finish_back how) refl
answer_back (A.Refused why) = rw (refusal_back why) refl

-- a refusal's number is one of 1 to 29, an end's one of 1 to 4
refusal_within : (why : Refusal) → (1 ≤ refusal_number why) × (refusal_number why ≤ 29)
refusal_within Refusal.ImageSet = (omega arith, omega arith)
refusal_within Refusal.NameList = (omega arith, omega arith)
refusal_within Refusal.OutBuffer = (omega arith, omega arith)
refusal_within Refusal.Ended = (omega arith, omega arith)
refusal_within Refusal.PacketLength = (omega arith, omega arith)
refusal_within Refusal.Unknown = (omega arith, omega arith)
refusal_within Refusal.Xml = (omega arith, omega arith)
refusal_within Refusal.NotImplemented = (omega arith, omega arith)
refusal_within Refusal.Body = (omega arith, omega arith)
refusal_within Refusal.HostPacket = (omega arith, omega arith)
refusal_within Refusal.KindLength = (omega arith, omega arith)
refusal_within Refusal.NoImage = (omega arith, omega arith)
refusal_within Refusal.ImageEnd = (omega arith, omega arith)
refusal_within Refusal.ImageStatus = (omega arith, omega arith)
refusal_within Refusal.NoCommand = (omega arith, omega arith)
refusal_within Refusal.ResponseLength = (omega arith, omega arith)
refusal_within Refusal.TableLength = (omega arith, omega arith)
refusal_within Refusal.Limit = (omega arith, omega arith)
refusal_within Refusal.FilenameEnd = (omega arith, omega arith)
refusal_within Refusal.Filename = (omega arith, omega arith)
refusal_within Refusal.FilenameBytes = (omega arith, omega arith)
refusal_within Refusal.RegionEnd = (omega arith, omega arith)
refusal_within Refusal.Closed = (omega arith, omega arith)
refusal_within Refusal.RegionEnd32 = (omega arith, omega arith)
refusal_within Refusal.SheetPage = (omega arith, omega arith)
refusal_within Refusal.ForecastNames = (omega arith, omega arith)
refusal_within Refusal.ForecastSum = (omega arith, omega arith)
refusal_within Refusal.TidySet = (omega arith, omega arith)
refusal_within Refusal.TidyRoom = (omega arith, omega arith)

finish_within : (how : Finish) → (1 ≤ finish_number how) × (finish_number how ≤ 4)
finish_within Finish.ImagesSent = (omega arith, omega arith)
finish_within Finish.Reset = (omega arith, omega arith)
finish_within Finish.Dumped = (omega arith, omega arith)
finish_within Finish.Reply = (omega arith, omega arith)

-- so what is told of an answer is all within
told_first : (a : Answer)
    → (answer_number a ≡ 8 → (1 ≤ get_or (answer_values a) 0 0) × (get_or (answer_values a) 0 0 ≤ 29))
    × (answer_number a ≡ 7 → (1 ≤ get_or (answer_values a) 0 0) × (get_or (answer_values a) 0 0 ≤ 4))
told_first A.Go = (λ e. absurd (omega arith), λ e. absurd (omega arith))
told_first (A.Send k) = (λ e. absurd (omega arith), λ e. absurd (omega arith))
told_first (A.Image x k) = (λ e. absurd (omega arith), λ e. absurd (omega arith))
told_first (A.Open i) = (λ e. absurd (omega arith), λ e. absurd (omega arith))
told_first (A.Bytes k) = (λ e. absurd (omega arith), λ e. absurd (omega arith))
told_first A.EmptyRead = (λ e. absurd (omega arith), λ e. absurd (omega arith))
told_first (A.Close i) = (λ e. absurd (omega arith), λ e. absurd (omega arith))
told_first (A.Finished how r) = (λ e. absurd (omega arith), λ e. finish_within how)
told_first (A.Refused why) = (λ e. refusal_within why, λ e. absurd (omega arith))

-- and read back
told_back : (s : RawSession) (k : ℕ) (a : Answer) → ReadsBack (stepped_at s (told_of k a))
told_back s k a = rw (answer_back a) (refl, refl, refl, (told_first a).0, (told_first a).1)

-- an opening's numbers name it
names_opening : (u : Opening) → is_opening (mode_number u.mode) (exec_number u.command) (backend_number u.backend) ≡ true
unfolding is_session raw_of
names_opening u =
    (by_then (is_opening (mode_number u.mode) (exec_number u.command) (backend_number u.backend)) _ false (λ e. true≢false (sym e))
    (session_is (opened_with u))).0

opened_back : (u : Opening) → raw_of (opened_with u) ≡ (opened_calls u).numbers
unfolding opened_raw
opened_back u = rw (names_opening u, opening_back u) refl

-- ---- a call of a session's numbers

abbrev pub Numbers : Session → Called → Type 0
Numbers s k = raw_of s ≡ k.numbers

-- both calls are the step
pub call_is : (c : Call) (r : RawSession) (d set names t y o : List ℕ) → called_of c r d set names t y o ≡ step_raw r d set names t y o
call_is by_value r d set names t y o = refl
call_is in_place r d set names t y o = refl

-- of any numbers, a session's or not, by either call: what crosses is the numbers of the answer that is read back
pub reads_back : (c : Call) (r : RawSession) (d set names t y o : List ℕ) → ReadsBack (called_of c r d set names t y o).stepped
unfolding step_raw raw_stepped
reads_back c r d set names t y o =
    rw (call_is c r d set names t y o)
    (by_test (is_session r)
    (λ e. let x = (step_of (session_of r) d set names t y o).stepped in rw e (told_back (raw_of x.session) x.taken x.answer))
    (λ e. rw e (told_back r 0 (A.Refused (no_session set names o)))))

told_alike : (n : ℕ) (r : Outcome) → Alike Numbers (given_of r) (given_raw n (raw_outcome_of r))
unfolding raw_stepped
told_alike n r =
    record {
      state = refl;
      taken = refl;
      answer = sym (answer_back r.stepped.answer);
      table = refl;
      reply = refl;
      out = refl;
    }

module _ (choice : ℕ → Call) where
  pub opened_alike : (u : Opening) → Numbers (definitions.fresh u) ((calling choice).fresh u)
  opened_alike u = opened_back u

  pub call_alike : (s : Session) (k : Called) (d set names t y o : List ℕ) → Numbers s k
      → Alike Numbers (definitions.step s d set names t y o) ((calling choice).step k d set names t y o)
  call_alike s k d set names t y o e =
      rw (call_is (choice k.calls) k.numbers d set names t y o, sym e, step_told s d set names t y o) (told_alike _ (step_of s d set names t y o))

  -- ---- the theorem

  pub fetch_raw : Demand (calling choice)
  fetch_raw = demand_carried definitions (calling choice) Numbers opened_alike call_alike fetch

  -- so the numbers that cross mean the selected regions, byte for byte
  pub means_raw : (c : Setting) (dbg : Debug) → Premises c dbg → (ls : List Lent) → Run (calling choice) c (start (calling choice) c) ls
      → enough c dbg ≤ owns (calling choice) c (start (calling choice) c) ls
      → Meant c dbg (reports (calling choice) c (start (calling choice) c) ls)
  means_raw = means (calling choice) fetch_raw

-- ---- no number that crosses passes what was lent

-- what a session's step keeps within, its numbers do
told_within : (f n : ℕ) (r : Outcome) (d set t y o : List ℕ) → Within f (given_of r) d set t y o → Within f (given_raw n (raw_outcome_of r)) d set t y o
unfolding raw_stepped
told_within f n r d set t y o x =
    record {
      taken = x.taken;
      answer = rw (answer_back r.stepped.answer) x.answer;
      table = x.table;
      reply = x.reply;
      out = x.out;
    }

-- of any numbers, a session's or not
pub step_within_raw : (n : ℕ) (r : RawSession) (d set names t y o : List ℕ)
    → Within (field_size (width_of r.width)) (given_raw n (step_raw r d set names t y o)) d set t y o
unfolding step_raw raw_stepped session_of
step_within_raw n r d set names t y o =
    by_test (is_session r)
    (λ e.
    rw e (told_within (field_size (width_of r.width)) n (step_of (session_of r) d set names t y o) d set t y o (step_within (session_of r) d set names t y o)))
    (λ e. rw e (record { taken = omega arith; answer = tt; table = refl; reply = refl; out = refl }))

-- in any list of calls, from any numbers, fair or not
pub within_raw : (choice : ℕ → Call) (c : Setting) (w : World Called) (ls : List Lent)
    → Throughout (next (calling choice) c) (StepWithin (calling choice) width_in c) w ls
within_raw choice c w [] = tt
within_raw choice c w (l ∷ ls) = (
  rw (call_is (choice w.state.calls) w.state.numbers)
      (step_within_raw _ w.state.numbers (delivered l.delivery w.queue) (lent l.set c.set) (lent l.names c.names)
      (lent l.table w.table) (lent l.reply w.reply) (lent l.out w.out)),
  within_raw choice c (next (calling choice) c w l) ls,
)

-- an ended session's count is its reply's length
reply_count : (p : Phase) (y : List ℕ) → ReplyWithin p y → (counts_of p).phase ≡ 6 → (counts_of p).count ≤ length y
reply_count (P.Packet h) y f e = absurd (omega arith)
reply_count (P.Response x) y f e = absurd (omega arith)
reply_count (P.Switched k) y f e = absurd (omega arith)
reply_count (P.Table x) y f e = absurd (omega arith)
reply_count (P.Between k i) y f e = absurd (omega arith)
reply_count (P.Region k x) y f e = absurd (omega arith)
reply_count (P.Ended k) y f e = f

-- so a call that ends a session leaves no longer a reply in it than the buffer it was lent
pub reply_raw : (s : Session) (d set names t y o : List ℕ) → is_ended s.phase ≡ false
    → (step_raw (raw_of s) d set names t y o).stepped.session.phase ≡ 6
    → (step_raw (raw_of s) d set names t y o).stepped.session.count ≤ length y
unfolding raw_stepped raw_of
reply_raw s d set names t y o e h =
    let f = step_told s d set names t y o in
    rw f (reply_count (step_of s d set names t y o).stepped.session.phase y (reply_within s d set names t y o e) (rw f at h))
