-- The C interface as a host: its states are a session's numbers as they cross, it is opened by `worgesli_open`, and each step is a call of `worgesli_step` or
-- of `worgesli_step_in_place`, mixed as one likes. What a call gives is what its contract says (worgesli/src), an equation to `step_raw`; an answer is read
-- back from its number and values, and no call gives a number that is read as another's (`reads_back` of proofs/Theorem). Demand 3 of this host is
-- `fetch_raw` there.
use Rattle.std.specs.Prelude.{ℕ, suc, ◌≡◌, ◌≤◌, List, [], ◌∷◌, get_or, eqb}
use Rattle.base.specs.Choice.{pick}
use Rattle.field.specs.declared.Width.{Width}
use Rattle.command.specs.Command.{mode_number}
use Rattle.refusal.specs.Refusal.{refusal_of}
use Rattle.verdict.specs.Verdict.{finish_of}
use Rattle.verdict.specs.declared.Opening.{Opening}
use Rattle.session.specs.declared.Answer.{Answer}
use Rattle.session.specs.declared.Answer.TheVariants as A
use Rattle.session.specs.Answers.{answer_number, answer_values}
use Rattle.raw.specs.declared.RawSession.{RawSession}
use Rattle.raw.specs.declared.RawStepped.{RawStepped}
use Rattle.raw.specs.Raw.{backend_number, exec_number, width_of, opened_raw}
use Rattle.raw_step.specs.RawStep.{RawOutcome, raw_at, step_raw}
use Rattle.fetch.specs.Device.{Given, Host}

-- the answer that a number and two values tell; 8 is refused, as the numbers end there
abbrev pub answer_of : ℕ → ℕ → ℕ → Answer
answer_of n first second =
    pick (eqb n 0) A.Go
    (pick (eqb n 1) (A.Send first)
    (pick (eqb n 2) (A.Image first second)
    (pick (eqb n 3) (A.Open first)
    (pick (eqb n 4) (A.Bytes first)
    (pick (eqb n 5) A.EmptyRead
    (pick (eqb n 6) (A.Close first)
    (pick (eqb n 7) (A.Finished (finish_of first) second) (A.Refused (refusal_of first)))))))))

-- number and values are just those of the answer that they are read back as, of a refusal 1 to 29, of an end 1 to 4: any other number is read as another's,
-- and then this is false
abbrev pub ReadsBack : RawStepped → Type 0
ReadsBack r =
    let a = answer_of r.answer r.first r.second in
    (r.answer ≡ answer_number a) × (r.first ≡ get_or (answer_values a) 0 0) × (r.second ≡ get_or (answer_values a) 1 0)
    × (r.answer ≡ 8 → (1 ≤ r.first) × (r.first ≤ 29)) × (r.answer ≡ 7 → (1 ≤ r.first) × (r.first ≤ 4))

-- `worgesli_step`, `worgesli_step_in_place`
pub data Call : Type 0 where
  by_value : Call
  in_place : Call

-- a session where it stands: mode, command, backend and phase; the nine large numbers
abbrev pub head_of : RawSession → List ℕ
head_of r = r.mode ∷ r.command ∷ r.backend ∷ r.phase ∷ []

abbrev pub numbers_of : RawSession → List ℕ
numbers_of r = r.reads ∷ r.count ∷ r.at ∷ r.base ∷ r.len ∷ r.done ∷ r.outstanding ∷ r.due ∷ r.width ∷ []

-- what a call gives: session, delivery, image set, names, table, reply and out buffers. In place, the numbers are laid out as arrays and read from there
abbrev pub called_of : Call → RawSession → List ℕ → List ℕ → List ℕ → List ℕ → List ℕ → List ℕ → RawOutcome
called_of by_value r d set names t y o = step_raw r d set names t y o
called_of in_place r d set names t y o = step_raw (raw_at (head_of r) (numbers_of r) r.window) d set names t y o

-- the session's numbers, and how many calls were made of it
pub record Called : Type 0 where
  pub numbers : RawSession
  pub calls : ℕ

-- the width that its numbers tell
abbrev pub width_in : Called → Width
width_in k = width_of k.numbers.width

abbrev pub opened_calls : Opening → Called
opened_calls u = record { numbers = opened_raw (mode_number u.mode) (exec_number u.command) (backend_number u.backend); calls = 0 }

abbrev pub given_raw : ℕ → RawOutcome → Given Called
given_raw n r =
    record {
      state = record { numbers = r.stepped.session; calls = n };
      taken = r.stepped.taken;
      answer = answer_of r.stepped.answer r.stepped.first r.stepped.second;
      table = r.table;
      reply = r.reply;
      out = r.out;
    }

-- the host whose call after n others is `choice n`
abbrev pub calling : (ℕ → Call) → Host
calling choice =
    record {
      State = Called;
      fresh = opened_calls;
      step = λ s d set names t y o. given_raw (suc s.calls) (called_of (choice s.calls) s.numbers d set names t y o);
    }
