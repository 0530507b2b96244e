-- A phase of a step by itself, for a session in any state: 3, then 18, then the phase. The phases of the step are functions of their own with these
-- contracts. In the step 1 and 2 stand before 3, and 4 stands between 3 and 18: it is a phase of its own, the ended one, and no other gives it.
use Rattle.std.specs.Prelude.{Bool, ◌||◌, List, ℕ, ltb, length}
use Rattle.base.specs.Choice.{pick}
use Rattle.field.specs.Field.{field_size}
use Rattle.session.specs.declared.Filling.{Filling}
use Rattle.session.specs.declared.Region.{Region}
use Rattle.session.specs.declared.Phase.{Phase}
use Rattle.session.specs.declared.Phase.TheVariants as P
use Rattle.session.specs.declared.Session.{Session}
use Rattle.session.specs.Outcome.{Outcome, outcome, untouched}
use Rattle.session.specs.PacketPhase.{packet_of}
use Rattle.session.specs.FillingPhase.{response_of, switched_of, table_of}
use Rattle.session.specs.BetweenPhase.{between_of}
use Rattle.session.specs.RegionPhase.{region_of}
use Rattle.session.specs.Limits.{reads_limit, phase_limit}
use Rattle.refusal.specs.declared.Refusal.TheVariants as Refusal

-- 18 for a session as if it were in the phase p; at its own phase it is `limit_of`
abbrev pub limit_at : Session → Phase → List ℕ → List ℕ → Bool
limit_at s p t y = reads_limit s || phase_limit (field_size s.width) s.window p t y

-- 3, then 18, then x
abbrev pub guarded : Session → Phase → List ℕ → List ℕ → List ℕ → Outcome → Outcome
guarded s p t y o x = pick (ltb (length o) 48) (untouched s Refusal.OutBuffer t y o) (pick (limit_at s p t y) (untouched s Refusal.Limit t y o) x)

unfoldable pub packet_step : Session → ℕ → List ℕ → List ℕ → List ℕ → List ℕ → List ℕ → Outcome
packet_step s h d set t y o = guarded s (P.Packet h) t y o (packet_of s h d set t y o)

unfoldable pub response_step : Session → Filling → List ℕ → List ℕ → List ℕ → List ℕ → Outcome
response_step s x d t y o = guarded s (P.Response x) t y o (response_of s x d t y o)

unfoldable pub switched_step : Session → ℕ → List ℕ → List ℕ → List ℕ → Outcome
switched_step s k t y o = guarded s (P.Switched k) t y o (switched_of s k t y o)

unfoldable pub table_step : Session → Filling → List ℕ → List ℕ → List ℕ → List ℕ → Outcome
table_step s x d t y o = guarded s (P.Table x) t y o (table_of s x d t y o)

unfoldable pub between_step : Session → ℕ → ℕ → List ℕ → List ℕ → List ℕ → List ℕ → Outcome
between_step s k i names t y o = guarded s (P.Between k i) t y o (outcome (between_of (field_size s.width) s k i names t) t y o)

unfoldable pub region_step : Session → ℕ → Region → List ℕ → List ℕ → List ℕ → List ℕ → Outcome
region_step s k x d t y o = guarded s (P.Region k x) t y o (region_of s k x d t y o)

-- a step behind 1 and 2, for a session as if it were in the phase p: the session, a delivery, image set, names, table, reply and out buffers, and p.
-- `step_phase` of proofs/Parts: for the session's own phase it is the step
module _ (s : Session) (d set names t y o : List ℕ) where
  abbrev pub phase_step : Phase → Outcome
  phase_step (P.Packet h) = packet_step s h d set t y o
  phase_step (P.Response x) = response_step s x d t y o
  phase_step (P.Switched k) = switched_step s k t y o
  phase_step (P.Table x) = table_step s x d t y o
  phase_step (P.Between k i) = between_step s k i names t y o
  phase_step (P.Region k x) = region_step s k x d t y o
  phase_step (P.Ended k) = pick (ltb (length o) 48) (untouched s Refusal.OutBuffer t y o) (untouched s Refusal.Ended t y o)
