-- However a conversation's bytes are divided, the host does the same. Of any host: take any opening, image set, names and buffers, malformed sets and short
-- buffers too, and any string of bytes that a device says. For every list of steps over it (specs/Over), what the steps show is a beginning of what the
-- undivided run shows, which is always lent everything that is left; and once enough steps were fed it is the whole of it, and session, buffers and
-- what is left over are the same. The theorem, `Division definitions`, is `division` of proofs/Division.antt; hosts of which it is false are in specs/Wrong.
use Rattle.std.specs.Prelude.{ℕ, ◌+◌, ◌/◌, ◌≤◌, ◌≡◌, Bool, true, false, ◌&&◌, ◌||◌, List, [], ◌∷◌, ◌++◌, length, replicate}
use Rattle.base.specs.Choice.{pick}
use Rattle.session.specs.declared.Phase.{Phase}
use Rattle.session.specs.declared.Phase.TheVariants as P
use Rattle.session.specs.declared.Session.{Session}
use Rattle.session.specs.Outcome.{holding, is_ended}
use Rattle.steps.specs.Steps.{final, Throughout, outs, counted}
use Rattle.fetch.specs.Plain.{Report, Setting}
use Rattle.fetch.specs.Device.{Host, own, first, Lent, all_own, World, start, reported, Fair}
use Rattle.division.specs.Over.{Event, next_over, RunOver, events, owns_fed}

-- ---- the undivided run

-- the steps that are enough, L + L / 8 of L bytes: one for each byte, and one more for each eight, which pay for the steps that take none.
abbrev pub enough_over : Setting → ℕ
enough_over c = length c.bytes + length c.bytes / 8

-- lent the run's own things and everything that is left
abbrev pub whole_left : Setting → Lent
whole_left c = record { delivery = first (length c.bytes); set = own; names = own; table = own; reply = own; out = own }

unfoldable pub undivided : Setting → List Lent
undivided c = replicate (enough_over c) (whole_left c)

-- ---- the same end

abbrev pub in_packet : Phase → Bool
in_packet (P.Packet h) = true
in_packet (P.Response x) = false
in_packet (P.Switched k) = false
in_packet (P.Table x) = false
in_packet (P.Between k i) = false
in_packet (P.Region k x) = false
in_packet (P.Ended k) = false

-- a step from phase p to phase q is a packet's that ends the session
abbrev pub packet_ends : Phase → Phase → Bool
packet_ends p q = in_packet p && is_ended q

module _ (h : Host) (c : Setting) (see : h.State → Session) where
  -- the session of the world, and whether a step of the list is a packet's that ends it
  abbrev pub packet_ended : World h.State → List Lent → Bool
  packet_ended w [] = false
  packet_ended w (l ∷ ls) = packet_ends (see w.state).phase (see (next_over h c w l).state).phase || packet_ended (next_over h c w l) ls

-- a session without its window where b. One that a packet ended keeps the window from before its last step (`acted` of session/specs/PacketPhase), which has
-- as much of that
-- packet as was held then: this alone depends on the division
abbrev pub unwindowed : Bool → Session → Session
unwindowed b s = pick b (holding s (replicate 48 0) s.phase) s

-- two worlds: the sessions, their windows aside where b, each of the run's own buffers, and what is left of the string
pub record SameEnd {S : Type 0} (see : S → Session) (b : Bool) (w v : World S) : Type 0 where
  pub session : unwindowed b (see w.state) ≡ unwindowed b (see v.state)
  pub table : w.table ≡ v.table
  pub reply : w.reply ≡ v.reply
  pub out : w.out ≡ v.out
  pub queue : w.queue ≡ v.queue

-- ---- the claim

-- of a list of steps: a beginning, and the whole with the same end once there are enough. (l : A) × P says that there is an l of which P holds
pub record Divided (h : Host) (see : h.State → Session) (c : Setting) (ls : List Lent) : Type 0 where
  pub begins : (l : List Event) × (events h c (start h c) (undivided c) ≡ events h c (start h c) ls ++ l)
  pub whole : enough_over c ≤ owns_fed h c see (start h c) ls → events h c (start h c) ls ≡ events h c (start h c) (undivided c)
  pub ends : enough_over c ≤ owns_fed h c see (start h c) ls
      → SameEnd see (packet_ended h c see (start h c) (undivided c)) (final (next_over h c) (start h c) ls) (final (next_over h c) (start h c) (undivided c))

-- of every setting and every list
abbrev pub Division : (h : Host) → (h.State → Session) → Type 0
Division h see = (c : Setting) (ls : List Lent) → RunOver h c (start h c) ls → Divided h see c ls

-- so any two divisions of the same bytes with enough steps come to the same (`any_two` of proofs/Corollaries)
pub record Matched (h : Host) (see : h.State → Session) (c : Setting) (ls ks : List Lent) : Type 0 where
  pub events : events h c (start h c) ls ≡ events h c (start h c) ks
  pub ends : SameEnd see (packet_ended h c see (start h c) (undivided c)) (final (next_over h c) (start h c) ls) (final (next_over h c) (start h c) ks)

abbrev pub AnyTwo : (h : Host) → (h.State → Session) → Type 0
AnyTwo h see =
    (c : Setting) (ls ks : List Lent) → RunOver h c (start h c) ls → RunOver h c (start h c) ks → enough_over c ≤ owns_fed h c see (start h c) ls
    → enough_over c ≤ owns_fed h c see (start h c) ks → Matched h see c ls ks

-- ---- in demand 3's words: each step is fair as there, so that no delivery is empty while bytes are left, every step that is lent the run's own things
-- counts, and
-- what is seen are the reports alone (`in_demand_words` of proofs/Corollaries)

module _ (h : Host) (c : Setting) where
  abbrev pub reports_over : World h.State → List Lent → List Report
  reports_over w ls = outs (next_over h c) (reported h c) w ls

  abbrev pub owns_over : World h.State → List Lent → ℕ
  owns_over w ls = counted (next_over h c) (λ v l. all_own l) w ls

pub record DividedFairly (h : Host) (see : h.State → Session) (c : Setting) (ls : List Lent) : Type 0 where
  pub begins : (l : List Report) × (reports_over h c (start h c) (undivided c) ≡ reports_over h c (start h c) ls ++ l)
  pub whole : enough_over c ≤ owns_over h c (start h c) ls → reports_over h c (start h c) ls ≡ reports_over h c (start h c) (undivided c)
  pub ends : enough_over c ≤ owns_over h c (start h c) ls
      → SameEnd see (packet_ended h c see (start h c) (undivided c)) (final (next_over h c) (start h c) ls) (final (next_over h c) (start h c) (undivided c))

abbrev pub FairDivision : (h : Host) → (h.State → Session) → Type 0
FairDivision h see = (c : Setting) (ls : List Lent) → Throughout (next_over h c) (Fair h c) (start h c) ls → DividedFairly h see c ls
