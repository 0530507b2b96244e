-- The theorem is about something. The customer's set, one image and an absent second slot, in a run of three steps, computed: its image is served under ID 0, a
-- DoneResp of status 0 does not finish, and ID 1 is refused; and so from its tidy form. From the one slot that it was tidied to before, the run is another.
-- Assumes nothing.
use mathlib.Core.Path.{◌≡◌, refl, sym, ap, ◌∙◌}
use mathlib.Core.List.{List, [], ◌∷◌, ◌++◌, map}
use Prim.Native.Nat.{ℕ}
use native.Mathlib.Omega.{arith}
use lib.ListN.{take, replicate}
use Rattle.field.specs.Field.{le, le_bytes, fields, words}
use Rattle.bundle.specs.Bundle.{slots_good, well_formed, slot_of}
use Rattle.command.specs.Command.{kinds, class_of}
use Rattle.command.specs.declared.SaharaMode.TheVariants as M
use Rattle.packet.specs.Packet.{kind_of, decode_of}
use Rattle.writer.specs.Writer.{data_of, starts_from, bundle_bytes}
use Rattle.tidied.specs.Tidy.{first_contents, tidy_len_of, tidy_outcome, tidy_of}
use Rattle.tidied.specs.Claim.{TidyForm}
use Rattle.verdict.specs.Verdict.{verdict_of}
use Rattle.verdict.specs.declared.QdlBackend.TheVariants as U
use Rattle.session.specs.declared.Answer.{Answer}
use Rattle.session.specs.declared.Answer.TheVariants as A
use Rattle.session.specs.PacketPhase.{whole_of, sized_of, packet_of}
use Rattle.session.specs.Limits.{limit_of}
use Rattle.session.specs.Step.{step_of}
use Rattle.fetch.specs.Plain.{Report, image, Setting}
use Rattle.fetch.specs.Device.{definitions, own, another, Lent, start}
use Rattle.fetch_raw.specs.Calls.{calling}
use Rattle.fetch_raw.proofs.Example.{by_turns}
use Rattle.two_runs.specs.Claim.{Seen, seen_in, with_set, RunsAlike}
use Rattle.two_runs.proofs.Theorem.{serves_alike}
use Rattle.two_runs_raw.proofs.Raw.{serves_alike_raw}
use Rattle.std.specs.Prelude.{None, Ok}
use Rattle.refusal.specs.declared.Refusal.TheVariants as Refusal
use Rattle.verdict.specs.declared.Finish.TheVariants as Finish

abbrev pub mark : ℕ
mark = 0xFFFFFFFF

-- "ABCD" behind two bytes of a gap, and an absent slot; its tidy form; and what it was tidied to before
abbrev pub set : List ℕ
set = words (2 ∷ 6 ∷ 2 ∷ mark ∷ 4 ∷ 0 ∷ []) ++ 0 ∷ 0 ∷ 65 ∷ 66 ∷ 67 ∷ 68 ∷ []

abbrev form : List ℕ
form = words (2 ∷ 4 ∷ 0 ∷ mark ∷ 4 ∷ 0 ∷ []) ++ 65 ∷ 66 ∷ 67 ∷ 68 ∷ []

abbrev dropped : List ℕ
dropped = words (1 ∷ 4 ∷ 0 ∷ 4 ∷ []) ++ 65 ∷ 66 ∷ 67 ∷ 68 ∷ []

set_tidied : tidy_of set (replicate 30 7) ≡ tidy_outcome (Ok 28) (form ++ 7 ∷ 7 ∷ [])
unfolding tidy_of tidy_len_of well_formed slots_good slot_of le le_bytes fields first_contents data_of starts_from bundle_bytes
set_tidied = refl

is_form : TidyForm set form
unfolding le_bytes fields
is_form =
    record { to = replicate 30 7; len = 28; made = ap (λ o. o.tidied) set_tidied; bytes = sym (ap (λ o. take 28 o.to) set_tidied) }

-- ---- a run of three steps

abbrev pub setting : Setting
setting =
    record {
      opening = record { mode = M.WaitingForImage; command = None; backend = U.Serial };
      set = set;
      names = replicate 8 0;
      table = [];
      reply = [];
      out = replicate 48 0;
      bytes = [];
      mem = λ a. 0;
    }

abbrev pub step : List ℕ → Lent
step p = record { delivery = another p; set = own; names = own; table = own; reply = own; out = own }

-- a ReadData, and a DoneResp of status 0
abbrev pub read : ℕ → ℕ → ℕ → List ℕ
read id offset len = words (3 ∷ 20 ∷ id ∷ offset ∷ len ∷ [])

abbrev steps : List Lent
steps = step (read 0 0 4) ∷ step (words (6 ∷ 12 ∷ 0 ∷ [])) ∷ step (read 1 0 4) ∷ []

abbrev answers : {S : Type 0} → List (Seen S) → List Answer
answers = map (λ x. x.given.answer)

abbrev pub reported : {S : Type 0} → List (Seen S) → List (List Report)
reported = map (λ x. x.reports)

served : answers (seen_in definitions setting (start definitions setting) steps) ≡ A.Image 0 4 ∷ A.Go ∷ A.Refused Refusal.NoImage ∷ []
unfolding step_of limit_of packet_of sized_of whole_of verdict_of decode_of class_of kinds kind_of well_formed slots_good slot_of le le_bytes fields
served = refl

reports : reported (seen_in definitions setting (start definitions setting) steps) ≡ (image (65 ∷ 66 ∷ 67 ∷ 68 ∷ []) ∷ []) ∷ [] ∷ [] ∷ []
unfolding step_of limit_of packet_of sized_of whole_of verdict_of decode_of class_of kinds kind_of well_formed slots_good slot_of le le_bytes fields
reports = refl

-- ---- from the tidy form

alike : RunsAlike definitions setting form (start definitions setting) steps
alike = serves_alike setting form is_form (start definitions setting) steps

form_served : answers (seen_in definitions (with_set setting form) (start definitions setting) steps) ≡ A.Image 0 4 ∷ A.Go ∷ A.Refused Refusal.NoImage ∷ []
form_served = ap answers (sym alike.steps) ∙ served

form_reports : reported (seen_in definitions (with_set setting form) (start definitions setting) steps) ≡ (image (65 ∷ 66 ∷ 67 ∷ 68 ∷ []) ∷ []) ∷ [] ∷ [] ∷ []
form_reports = ap reported (sym alike.steps) ∙ reports

-- through the C interface, by value and in place by turns
pub alike_raw : RunsAlike (calling by_turns) setting form (start (calling by_turns) setting) steps
alike_raw = serves_alike_raw by_turns setting form is_form (start (calling by_turns) setting) steps

-- ---- from one slot: the DoneResp finishes, so the run is another

dropped_served : answers (seen_in definitions (with_set setting dropped) (start definitions setting) steps) ≡ A.Image 0 4 ∷ A.Finished Finish.ImagesSent 0 ∷ A.Refused Refusal.Ended ∷ []
unfolding step_of limit_of packet_of sized_of whole_of verdict_of decode_of class_of kinds kind_of well_formed slots_good slot_of le le_bytes fields
dropped_served = refl

pub dropped_differs : RunsAlike definitions setting dropped (start definitions setting) steps → ⊥
dropped_differs x =
    let e : A.Image 0 4 ∷ A.Go ∷ A.Refused Refusal.NoImage ∷ [] ≡ A.Image 0 4 ∷ A.Finished Finish.ImagesSent 0 ∷ A.Refused Refusal.Ended ∷ [] =
    sym served ∙ ap answers x.steps ∙ dropped_served in
    let z : ◌≡◌ {A = ℕ} 0 1 = cc in
    omega arith

-- and its image is served under another ID than its own
abbrev another_id : List Lent
another_id = step (read 1 0 4) ∷ []

refused_alone : answers (seen_in definitions setting (start definitions setting) another_id) ≡ A.Refused Refusal.NoImage ∷ []
unfolding step_of limit_of packet_of sized_of whole_of verdict_of decode_of class_of kinds kind_of well_formed slots_good slot_of le le_bytes fields
refused_alone = refl

form_refused : answers (seen_in definitions (with_set setting form) (start definitions setting) another_id) ≡ A.Refused Refusal.NoImage ∷ []
form_refused = ap answers (sym (serves_alike setting form is_form (start definitions setting) another_id).steps) ∙ refused_alone

dropped_serves : answers (seen_in definitions (with_set setting dropped) (start definitions setting) another_id) ≡ A.Image 0 4 ∷ []
unfolding step_of limit_of packet_of sized_of whole_of verdict_of decode_of class_of kinds kind_of well_formed slots_good slot_of le le_bytes fields
dropped_serves = refl
