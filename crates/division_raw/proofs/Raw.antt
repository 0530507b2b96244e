-- The claim through the C interface, whichever call each step is made by: the numbers stay the session's, and so it goes over. Assumes nothing.
use mathlib.Core.Path.{◌≡◌, sym, ap, ◌∙◌}
use mathlib.Core.List.{List}
use Prim.Native.Nat.{ℕ}
use Rattle.steps.specs.Steps.{final}
use Rattle.session.specs.declared.Session.{Session}
use Rattle.raw.specs.Raw.{raw_of, session_of}
use Rattle.raw.proofs.Laws.{session_back}
use Rattle.fetch.specs.Plain.{Setting}
use Rattle.fetch.specs.Device.{definitions, Lent, start}
use Rattle.fetch_raw.specs.Calls.{Call, Called, calling}
use Rattle.fetch_raw.proofs.Theorem.{Numbers, opened_alike, call_alike}
use Rattle.division.specs.Over.{next_over}
use Rattle.division.specs.Claim.{Division, AnyTwo, FairDivision}
use Rattle.division.proofs.Corollaries.{any_two, in_demand_words, same_final, division_carried}
use Rattle.division.proofs.Division.{division}
use Rattle.division_raw.specs.Numbers.{session_in}

-- the numbers of a session tell it
tells : (s : Session) (k : Called) → Numbers s k → s ≡ session_in k
tells s k e = sym (session_back s) ∙ ap session_of e

module _ (choice : ℕ → Call) where
  pub division_raw : Division (calling choice) session_in
  division_raw = division_carried definitions (calling choice) Numbers (opened_alike choice) (call_alike choice) (λ s. s) session_in tells division

  pub any_two_raw : AnyTwo (calling choice) session_in
  any_two_raw = any_two (calling choice) session_in division_raw

  pub in_demand_words_raw : FairDivision (calling choice) session_in
  in_demand_words_raw = in_demand_words (calling choice) session_in division_raw

  -- of any list, fair or not
  pub numbers_only : (c : Setting) (ls : List Lent) → let k = (final (next_over (calling choice) c) (start (calling choice) c) ls).state in
      k.numbers ≡ raw_of (session_in k)
  numbers_only c ls =
      let s = (final (next_over definitions c) (start definitions c) ls).state in
      let k = (final (next_over (calling choice) c) (start (calling choice) c) ls).state in
      let e : Numbers s k =
      (same_final definitions (calling choice) Numbers (opened_alike choice) (call_alike choice) (λ s. s) session_in tells c ls).state in
      sym e ∙ ap raw_of (tells s k e)
