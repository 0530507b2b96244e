-- One step: what it gives, from a session, a delivery, the lent image set and names, and the table, reply and out buffers; and the channel's end.
-- Document 01, "Session" and Refusals, "Step". Every count of a session is judged (18) before its phase is looked at, so each definition is for any
-- session. The phases: PacketPhase, FillingPhase (response and table), BetweenPhase, RegionPhase; 18: Limits; what an outcome is: Outcome.
use Rattle.std.specs.Prelude.{true, false, not, List, ℕ, ltb, length}
use Rattle.base.specs.Choice.{pick}
use Rattle.field.specs.Field.{field_size}
use Rattle.bundle.specs.Bundle.{well_formed}
use Rattle.session.specs.declared.Phase.{Phase}
use Rattle.session.specs.declared.Phase.TheVariants as P
use Rattle.session.specs.declared.Session.{Session}
use Rattle.session.specs.declared.Answer.TheVariants as A
use Rattle.session.specs.declared.Stepped.{Stepped}
use Rattle.session.specs.Outcome.{ended, is_ended, Outcome, outcome, gives, untouched}
use Rattle.session.specs.PacketPhase.{packet_of}
use Rattle.session.specs.FillingPhase.{response_of, switched_of, table_of}
use Rattle.session.specs.BetweenPhase.{between_of}
use Rattle.session.specs.RegionPhase.{region_of}
use Rattle.session.specs.Limits.{limit_of}
use Rattle.refusal.specs.declared.Refusal.TheVariants as Refusal

-- by the phase
abbrev pub on_phase : Session → Phase → List ℕ → List ℕ → List ℕ → List ℕ → List ℕ → List ℕ → Outcome
on_phase s (P.Packet h) d set names t y o = packet_of s h d set t y o
on_phase s (P.Response x) d set names t y o = response_of s x d t y o
on_phase s (P.Switched k) d set names t y o = switched_of s k t y o
on_phase s (P.Table x) d set names t y o = table_of s x d t y o
on_phase s (P.Between k i) d set names t y o = outcome (between_of (field_size s.width) s k i names t) t y o
on_phase s (P.Region k x) d set names t y o = region_of s k x d t y o
on_phase s (P.Ended k) d set names t y o = outcome (gives s 0 (A.Refused Refusal.Ended)) t y o

-- session, delivery, image set, names, table, reply and out buffers. "Where several apply, the first written here is given": 1, 2, 3, 4, 18, the phase
unfoldable pub step_of : Session → List ℕ → List ℕ → List ℕ → List ℕ → List ℕ → List ℕ → Outcome
step_of s d set names t y o =
    pick (not (well_formed true set)) (untouched s Refusal.ImageSet t y o)
    (pick (not (well_formed false names)) (untouched s Refusal.NameList t y o)
    (pick (ltb (length o) 48) (untouched s Refusal.OutBuffer t y o)
    (pick (is_ended s.phase) (untouched s Refusal.Ended t y o)
    (pick (limit_of s t y) (untouched s Refusal.Limit t y o) (on_phase s s.phase d set names t y o)))))

-- "Channel closed: 4, else 23, session ended."
abbrev pub closed_of : Session → Stepped
closed_of s = pick (is_ended s.phase) (gives s 0 (A.Refused Refusal.Ended)) (gives (ended s) 0 (A.Refused Refusal.Closed))
