-- Wrong hosts that do as the definitions' does where each packet, table and chunk comes in a delivery of its own, and not where a hub divides or joins them.
-- The
-- claim is to be false of each (`Uneven`).
use Rattle.std.specs.Prelude.{ℕ, ◌+◌, Bool, true, false, ◌&&◌, List, ltb, leb, length}
use Rattle.base.specs.Choice.{pick}
use Rattle.packet.specs.Packet.{length_field, bad_length}
use Rattle.session.specs.declared.Phase.{Phase}
use Rattle.session.specs.declared.Phase.TheVariants as P
use Rattle.session.specs.declared.Session.{Session}
use Rattle.session.specs.declared.Answer.TheVariants as A
use Rattle.session.specs.Outcome.{opened_with, held_in, holding}
use Rattle.session.specs.PacketPhase.{keep}
use Rattle.fetch.specs.Plain.{Setting}
use Rattle.session.specs.Step.{step_of}
use Rattle.fetch.specs.Device.{Host, Given, given_of, Lent, start}
use Rattle.fetch.specs.Wrong.{giving}
use Rattle.division.specs.Over.{RunOver}
use Rattle.division.specs.Claim.{in_packet, Divided}

-- a fair list of steps of which what is claimed does not hold
pub record Uneven (h : Host) (see : h.State → Session) : Type 0 where
  pub c : Setting
  pub ls : List Lent
  pub run : RunOver h c (start h c) ls
  pub unlike : Divided h see c ls → ⊥

-- ---- a host that does as the definitions' does, and then something else: f is given the session before the step, its delivery, and what the right step gave

abbrev pub astray : (Session → List ℕ → Given Session → Given Session) → Host
astray f =
    record {
      State = Session;
      fresh = opened_with;
      step = λ s d set names t y o. f s d (given_of (step_of s d set names t y o));
    }

-- ---- takes the whole delivery in these phases, and loses what was none of the phase's

abbrev pub swallowing : (Phase → Bool) → Host
swallowing phases = astray (λ s d r. pick (phases s.phase) (giving r.state (length d) r.answer r) r)

-- what is behind a packet in the same delivery
abbrev pub packetwise : Host
packetwise = swallowing in_packet

-- what came with the table's last bytes
abbrev pub tablewise : Host
tablewise = swallowing in_table
  where
    in_table : Phase → Bool
    in_table (P.Packet h) = false
    in_table (P.Response x) = false
    in_table (P.Switched k) = false
    in_table (P.Table x) = true
    in_table (P.Between k i) = false
    in_table (P.Region k x) = false
    in_table (P.Ended k) = false

-- ---- judges a packet's length only where one delivery has all eight bytes of the header: where a part of it is held, a bad length is not seen, and the
-- bytes are
-- held with the rest

-- the header's last bytes come, and its length is bad
abbrev pub late_length : Session → List ℕ → Bool
late_length s d =
    let h = held_in s.phase in
    ltb 0 h && ltb h 8 && leb 8 (h + length d) && bad_length (length_field (keep s.window h d))

abbrev pub lenient : Host
lenient = astray (λ s d r. pick (late_length s d) (giving (held_on s d) (length d) A.Go r) r)
  where
    held_on : Session → List ℕ → Session
    held_on s d = holding s (keep s.window (held_in s.phase) d) (P.Packet (held_in s.phase + length d))
