-- When a step waits for bytes, and for how many. Document 01, "Session": "Where bytes are needed, an empty delivery gives go."
use Rattle.std.specs.Prelude.{ℕ, ◌-◌, Bool, true, false, List, ltb, eqb}
use Rattle.base.specs.Choice.{pick}
use Rattle.packet.specs.Packet.{length_field}
use Rattle.session.specs.declared.Region.{Region}
use Rattle.session.specs.declared.Phase.{Phase}
use Rattle.session.specs.declared.Phase.TheVariants as P
use Rattle.session.specs.declared.Session.{Session}

-- bytes are outstanding and no empty read comes first
abbrev pub region_waits : Region → Bool
region_waits x = pick x.due false (pick (eqb x.outstanding 0) false true)

-- a packet; a response or a table that is not full; a region with bytes outstanding. Of a session within its limits: exactly where a step with an empty
-- delivery that 1, 2 or 3 does not refuse (`InOrder` of specs/Waiting) gives go and changes nothing (`waits`, `waits_only` of proofs/Waiting)
abbrev pub needs_bytes : Phase → Bool
needs_bytes (P.Packet h) = true
needs_bytes (P.Response x) = ltb x.filled x.declared
needs_bytes (P.Switched k) = false
needs_bytes (P.Table x) = ltb x.filled x.declared
needs_bytes (P.Between k i) = false
needs_bytes (P.Region k x) = region_waits x
needs_bytes (P.Ended k) = false

-- of a packet its header, then what its length field leaves; w is the window, h the bytes held
abbrev pub packet_wants : List ℕ → ℕ → ℕ
packet_wants w h = pick (ltb h 8) (8 - h) (length_field w - h)

-- of a region what is outstanding
abbrev pub region_wants : Region → ℕ
region_wants x = pick x.due 0 x.outstanding

-- how many bytes are asked for, as the Rust's reads ask: of a packet its header, then what its length field leaves; what is missing of a response or a
-- table; what is outstanding of a region. 0 where none are needed, and where more is there than was declared. Of a session within its limits: 0 exactly
-- where none are needed (`wanted_needs` of proofs/Waiting), and a step that 1, 2 or 3 does not refuse (`InOrder` of specs/Waiting), lent no more, takes all of
-- it (`takes_all`).
-- It is not the most that a step takes: one lent more than a header goes on to the packet's end
abbrev pub wanted_in : List ℕ → Phase → ℕ
wanted_in w (P.Packet h) = packet_wants w h
wanted_in w (P.Response x) = x.declared - x.filled
wanted_in w (P.Switched k) = 0
wanted_in w (P.Table x) = x.declared - x.filled
wanted_in w (P.Between k i) = 0
wanted_in w (P.Region k x) = region_wants x
wanted_in w (P.Ended k) = 0

abbrev pub wanted_of : Session → ℕ
wanted_of s = wanted_in s.window s.phase
