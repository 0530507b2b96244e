-- The step by its parts: refused for the image set or the names, else the phase with its own guard. Each goes by the tests. Assumes nothing.
use mathlib.Core.Path.{◌≡◌, refl}
use mathlib.Core.Bool.{true, false, ◌||◌}
use mathlib.Core.List.{List}
use Prim.Native.Nat.{ℕ}
use lib.Dec.{ltb}
use lib.ListN.{length}
use Rattle.base.specs.Choice.{pick}
use Rattle.bundle.specs.Bundle.{well_formed}
use Rattle.session.specs.declared.Phase.{Phase}
use Rattle.session.specs.declared.Phase.TheVariants as P
use Rattle.session.specs.declared.Session.{Session}
use Rattle.session.specs.Outcome.{is_ended, untouched}
use Rattle.field.specs.Field.{field_size}
use Rattle.session.specs.Limits.{reads_limit, phase_limit, limit_of}
use Rattle.session.specs.Step.{on_phase, step_of}
use Rattle.session.specs.Guard.{packet_step, response_step, switched_step, table_step, between_step, region_step, phase_step}
use Rattle.refusal.specs.declared.Refusal.TheVariants as Refusal

-- a session, a delivery, image set, names, table, reply and out buffers
module _ (s : Session) (d set names t y o : List ℕ) where
  -- what stands behind 1 and 2 in the step, by the phase
  rest : (p : Phase)
      → pick (ltb (length o) 48) (untouched s Refusal.OutBuffer t y o)
      (pick (is_ended p) (untouched s Refusal.Ended t y o)
      (pick (reads_limit s || phase_limit (field_size s.width) s.window p t y) (untouched s Refusal.Limit t y o) (on_phase s p d set names t y o)))
      ≡ phase_step s d set names t y o p
  unfolding packet_step response_step switched_step table_step between_step region_step
  rest (P.Packet h) = refl
  rest (P.Response x) = refl
  rest (P.Switched k) = refl
  rest (P.Table x) = refl
  rest (P.Between k i) = refl
  rest (P.Region k x) = refl
  rest (P.Ended k) = refl

  -- the image set is malformed
  pub step_1 : well_formed true set ≡ false → step_of s d set names t y o ≡ untouched s Refusal.ImageSet t y o
  unfolding step_of
  step_1 e = rw e refl

  -- the names are
  pub step_2 : well_formed true set ≡ true → well_formed false names ≡ false → step_of s d set names t y o ≡ untouched s Refusal.NameList t y o
  unfolding step_of
  step_2 e f = rw (e, f) refl

  -- neither is
  pub step_phase : well_formed true set ≡ true → well_formed false names ≡ true → step_of s d set names t y o ≡ phase_step s d set names t y o s.phase
  unfolding step_of limit_of
  step_phase e f = rw (e, f) (rest s.phase)
