-- From one step to the undivided run: whatever the next delivery is, what the undivided run still shows from there on and how it ends stay the same. Over a
-- measure mu of the own steps that are left. Beside the world stands whether a packet ended its session, which decides whether windows are compared. Assumes
-- nothing.
use mathlib.Core.Path.{◌≡◌, refl, sym, ap, ◌∙◌}
use mathlib.Core.Logic.{◌⊎◌, inl, inr, ⊎_elim}
use mathlib.Core.Bool.{Bool, true, false, ◌&&◌, ◌||◌}
use mathlib.Core.List.{List, [], ◌++◌, append_assoc, map}
use Prim.Native.Nat.{ℕ, zero, suc, ◌+◌, ◌-◌, ◌≤◌, ◌<◌}
use native.Mathlib.Omega.{arith}
use lib.ListN.{length, drop, length-drop}
use lib.Seq.{take-append-le, drop-append-add, drop-append_seam}
use Rattle.base.proofs.Ranges.{by_test}
use Rattle.base.proofs.Tests.{and_true, and_false}
use Rattle.field.specs.Field.{field_size}
use Rattle.session.specs.declared.Phase.{Phase}
use Rattle.session.specs.declared.Phase.TheVariants as P
use Rattle.session.specs.declared.Session.{Session}
use Rattle.session.specs.declared.Answer.{Answer}
use Rattle.session.specs.declared.Answer.TheVariants as A
use Rattle.session.specs.Outcome.{Outcome, is_ended}
use Rattle.session.specs.Step.{step_of}
use Rattle.waiting.specs.Wanted.{needs_bytes}
use Rattle.waiting.specs.Window.{HoldsBytes}
use Rattle.waiting.proofs.Held.{holds_step}
use Rattle.fetch.specs.Plain.{byte, Setting}
use Rattle.fetch.specs.Device.{World}
use Rattle.fetch.specs.Within.{AnswerWithin}
use Rattle.fetch.proofs.Within.{step_within}
use Rattle.division.specs.Over.{Event, does, events_for}
use Rattle.division.specs.Claim.{in_packet, packet_ends, unwindowed}
use Rattle.division.specs.Law.{events_of, Joined, Divides, alone, joined, step_after}
use Rattle.division.proofs.Step.{Refuses, ended_refuses, step_law}
use Rattle.division.proofs.Cut.{CutIn, cut_step}

-- ---- tests

pub or_none : (b : Bool) → (b || false) ≡ b
or_none true = refl
or_none false = refl

pub or_some : (b : Bool) → (b || true) ≡ true
or_some true = refl
or_some false = refl

-- no step that stays in its phase ends a session in a packet
never_ends : (p : Phase) → packet_ends p p ≡ false
never_ends (P.Packet h) = refl
never_ends (P.Response x) = refl
never_ends (P.Switched k) = refl
never_ends (P.Table x) = refl
never_ends (P.Between k i) = refl
never_ends (P.Region k x) = refl
never_ends (P.Ended k) = refl

-- ---- sessions without their windows

phase_stays : (b : Bool) (s : Session) → (unwindowed b s).phase ≡ s.phase
phase_stays true s = refl
phase_stays false s = refl

-- what is the same with the window is so without it
pub fewer : (b u : Bool) (r s : Session) → (b ≡ true → u ≡ true) → unwindowed b r ≡ unwindowed b s → unwindowed u r ≡ unwindowed u s
fewer true u r s i e = rw (i refl) e
fewer false u r s i e = ap (unwindowed u) e

-- ---- what is shown of a delivery is shown of any that begins with it

shown_longer : (f : ℕ) (a : Answer) (d e set t o o' : List ℕ) → AnswerWithin f a d set t o → events_for a (d ++ e) set o' ≡ events_for a d set o'
shown_longer f A.Go d e set t o o' w = refl
shown_longer f (A.Send k) d e set t o o' w = refl
shown_longer f (A.Image x k) d e set t o o' w = refl
shown_longer f (A.Open i) d e set t o o' w = refl
shown_longer f (A.Bytes k) d e set t o o' w = ap (λ (l : List ℕ). map does (map byte l) ++ []) (take-append-le k d e w)
shown_longer f A.EmptyRead d e set t o o' w = refl
shown_longer f (A.Close i) d e set t o o' w = refl
shown_longer f (A.Finished how r) d e set t o o' w = refl
shown_longer f (A.Refused why) d e set t o o' w = refl

-- ---- a world, and whether a packet ended its session

pub record Marked : Type 0 where
  pub world : World Session
  pub packet : Bool

-- its session has ended, by a packet
abbrev over : Marked → Bool
over m = m.packet && is_ended m.world.state.phase

-- after a step to the world v
abbrev pub arrives : Marked → World Session → Marked
arrives m v = record { world = v; packet = m.packet || packet_ends m.world.state.phase v.state.phase }

-- one that stays is marked as it was
pub stays : (m : Marked) (v : World Session) → v ≡ m.world → arrives m v ≡ m
stays m v e =
    let g : arrives m m.world ≡ m = rw (never_ends m.world.state.phase, or_none m.packet) refl in
    ap (arrives m) e ∙ g

-- without the window then
abbrev pub flat : Marked → Marked
flat m =
    let w = m.world in
    record {
      world = record { state = unwindowed (over m) w.state; table = w.table; reply = w.reply; out = w.out; queue = w.queue };
      packet = m.packet;
    }

-- two are the same by their parts
by_parts : {s s' : Session} {t t' y y' o o' q q' : List ℕ} {b b' : Bool} → s ≡ s' → t ≡ t' → y ≡ y' → o ≡ o' → q ≡ q' → b ≡ b'
    → ◌≡◌ {A = Marked} (record { world = record { state = s; table = t; reply = y; out = o; queue = q }; packet = b })
    (record { world = record { state = s'; table = t'; reply = y'; out = o'; queue = q' }; packet = b' })
by_parts e f g h i j = rw (e, f, g, h, i, j) refl

-- alike so, two are the same, or both have ended
twin_or_ended : (m n : Marked) → flat m ≡ flat n
    → (m ≡ n) ⊎ ((is_ended m.world.state.phase ≡ true) × (is_ended n.world.state.phase ≡ true))
twin_or_ended m n e =
    let w : World Session = m.world in
    let v : World Session = n.world in
    let k : m.packet ≡ n.packet = ap (λ (z : Marked). z.packet) e in
    let s : unwindowed (over m) w.state ≡ unwindowed (over n) v.state = ap (λ (z : Marked). z.world.state) e in
    let p : w.state.phase ≡ v.state.phase =
    sym (phase_stays (over m) w.state) ∙ ap (λ (z : Session). z.phase) s ∙ phase_stays (over n) v.state in
    let same : over m ≡ over n = rw (k, p) refl in
    by_test (over m)
    (λ i.
    inr ((and_true m.packet (is_ended w.state.phase) i).1, (and_true n.packet (is_ended v.state.phase) (sym same ∙ i)).1))
    (λ i.
    let q : w.state ≡ v.state = rw (i, sym same ∙ i) at s in
    inl
    (by_parts q (ap (λ (z : Marked). z.world.table) e) (ap (λ (z : Marked). z.world.reply) e) (ap (λ (z : Marked). z.world.out) e)
    (ap (λ (z : Marked). z.world.queue) e) k))

-- ---- the run that is lent everything

module _ (c : Setting) where
  abbrev pub step_on : World Session → List ℕ → Outcome
  step_on w d = step_of w.state d c.set c.names w.table w.reply w.out

  abbrev pub after : World Session → Outcome → World Session
  after w r = record { state = r.stepped.session; table = r.table; reply = r.reply; out = r.out; queue = drop r.stepped.taken w.queue }

  abbrev pub forth : World Session → List ℕ → World Session
  forth w d = after w (step_on w d)

  abbrev pub shown : World Session → List ℕ → List Event
  shown w d = events_of (step_on w d) d c.set

  abbrev pub onward : Marked → List ℕ → Marked
  onward m d = arrives m (forth m.world d)

  abbrev pub run : ℕ → Marked → Marked
  run zero m = m
  run (suc n) m = run n (onward m m.world.queue)

  abbrev pub tell : ℕ → World Session → List Event
  tell zero w = []
  tell (suc n) w = shown w w.queue ++ tell n (forth w w.queue)

  abbrev pub RefusesIn : World Session → Type 0
  RefusesIn w = Refuses w.state c.set c.names w.table w.reply w.out

  pub refuses_forth : (w : World Session) (d : List ℕ) → RefusesIn w → (forth w d ≡ w) × (shown w d ≡ [])
  refuses_forth w d k = (ap (after w) (k.stays d), ap (λ (r : Outcome). events_of r d c.set) (k.stays d) ∙ rw k.quiet refl)

  refuses_tell : (n : ℕ) (m : Marked) → RefusesIn m.world → (tell n m.world ≡ []) × (run n m ≡ m)
  refuses_tell zero m k = (refl, refl)
  refuses_tell (suc n) m k =
      let q : List ℕ = m.world.queue in
      let f = refuses_forth m.world q k in
      let i = refuses_tell n m k in
      (rw (f.1, f.0) i.0, ap (run n) (stays m _ f.0) ∙ i.1)

  twin_tell : (n : ℕ) (m v : Marked) → flat m ≡ flat v → (tell n m.world ≡ tell n v.world) × (flat (run n m) ≡ flat (run n v))
  twin_tell n m v e =
      ⊎_elim (λ s. (ap (λ (z : Marked). tell n z.world) s, ap (λ (z : Marked). flat (run n z)) s))
      (λ b.
      let w : World Session = m.world in
      let u : World Session = v.world in
      let i = refuses_tell n m (ended_refuses w.state c.set c.names w.table w.reply w.out b.0) in
      let j = refuses_tell n v (ended_refuses u.state c.set c.names u.table u.reply u.out b.1) in
      (i.0 ∙ sym j.0, ap flat i.1 ∙ e ∙ ap flat (sym j.1)))
      (twin_or_ended m v e)

-- what is well kept: no more is left than the string had, the window is that of some bytes held, and a region's chunk ends well
pub record Good (most : ℕ) (w : World Session) : Type 0 where
  pub held : List ℕ
  pub left : length w.queue ≤ most
  pub holds : HoldsBytes w.state held
  pub cut : CutIn w.state.phase

-- where bytes are needed and some are left, some are delivered
abbrev pub Fed : World Session → List ℕ → Type 0
Fed w d = needs_bytes w.state.phase ≡ true → 0 < length w.queue → 0 < length d

-- mu is less after a step that is fed, and where it is 0 no step does anything
module _ (c : Setting) (mu : World Session → ℕ)
    (falls : (w : World Session) (d : List ℕ) → Good (length c.bytes) w → length d ≤ length w.queue → Fed w d → mu (forth c w d) ≤ mu w - 1)
    (empty : (w : World Session) (d : List ℕ) → Good (length c.bytes) w → length d ≤ length w.queue → mu w ≡ 0
    → (forth c w d ≡ w) × (shown c w d ≡ [])) where
  abbrev pub Fine : World Session → Type 0
  Fine w = Good (length c.bytes) w

  pub fine_forth : (w : World Session) (d : List ℕ) → Fine w → Fine (forth c w d)
  fine_forth w d g =
      record {
        held = _;
        left = omega (arith, g.left, length-drop (step_on c w d).stepped.taken w.queue);
        holds = holds_step w.state g.held d c.set c.names w.table w.reply w.out g.holds;
        cut = cut_step w.state d c.set c.names w.table w.reply w.out g.cut;
      }

  falls_all : (w : World Session) → Fine w → mu (forth c w w.queue) ≤ mu w - 1
  falls_all w g = falls w w.queue g (omega arith) (λ n l. l)

  still : (n : ℕ) (m : Marked) → Fine m.world → mu m.world ≡ 0 → (tell c n m.world ≡ []) × (run c n m ≡ m)
  still zero m g z = (refl, refl)
  still (suc n) m g z =
      let q : List ℕ = m.world.queue in
      let f = empty m.world q g (omega arith) z in
      let i = still n m g z in
      (rw (f.1, f.0) i.0, ap (run c n) (stays m _ f.0) ∙ i.1)

  -- more steps than mu says change nothing
  fuel : (n k : ℕ) (m : Marked) → Fine m.world → mu m.world ≤ n → mu m.world ≤ k
      → (tell c n m.world ≡ tell c k m.world) × (run c n m ≡ run c k m)
  fuel zero k m g a b = let i = still k m g (omega arith) in (sym i.0, sym i.1)
  fuel (suc n) zero m g a b = still (suc n) m g (omega arith)
  fuel (suc n) (suc k) m g a b =
      let q : List ℕ = m.world.queue in
      let f = falls_all m.world g in
      let i = fuel n k (onward c m q) (fine_forth m.world q g) (omega arith) (omega arith) in
      (ap (λ (l : List Event). shown c m.world q ++ l) i.0, i.1)

  -- what the undivided run still shows, and how it ends
  abbrev pub rest : World Session → List Event
  rest w = tell c (mu w) w

  abbrev pub end_of : Marked → Marked
  end_of m = run c (mu m.world) m

  unroll : (m : Marked) → Fine m.world
      → (rest m.world ≡ shown c m.world m.world.queue ++ rest (forth c m.world m.world.queue))
      × (end_of m ≡ end_of (onward c m m.world.queue))
  unroll m g =
      let w : World Session = m.world in
      let q : List ℕ = w.queue in
      let f = falls_all w g in
      let i = fuel (mu w) (suc (mu w)) m g (omega arith) (omega arith) in
      let j = fuel (mu w) (mu (forth c w q)) (onward c m q) (fine_forth w q g) (omega arith) (omega arith) in
      (i.0 ∙ ap (λ (l : List Event). shown c w q ++ l) j.0, i.1 ∙ j.1)

  twin_rest : (m v : Marked) → Fine m.world → Fine v.world → flat m ≡ flat v
      → (rest m.world ≡ rest v.world) × (flat (end_of m) ≡ flat (end_of v))
  twin_rest m v g k e =
      let n : ℕ = mu m.world + mu v.world in
      let i = fuel (mu m.world) n m g (omega arith) (omega arith) in
      let j = fuel n (mu v.world) v k (omega arith) (omega arith) in
      let t = twin_tell c n m v e in
      (i.0 ∙ t.0 ∙ j.0, ap flat i.1 ∙ t.1 ∙ ap flat j.1)

  abbrev pub Due : Marked → List ℕ → Type 0
  Due m d =
      (rest m.world ≡ shown c m.world d ++ rest (forth c m.world d)) × (flat (end_of m) ≡ flat (end_of (onward c m d)))

  -- by what one step lent everything does: what the step lent d does
  alone_due : (m : Marked) (d e : List ℕ) → Fine m.world → m.world.queue ≡ d ++ e → step_on c m.world (d ++ e) ≡ step_on c m.world d → Due m d
  alone_due m d e g q a =
      let w : World Session = m.world in
      let f : ℕ = field_size w.state.width in
      let u = unroll m g in
      let r : Outcome = step_on c w d in
      let k : AnswerWithin f r.stepped.answer d c.set w.table w.out =
      (step_within w.state d c.set c.names w.table w.reply w.out).answer in
      let b : step_on c w w.queue ≡ r = ap (step_on c w) q ∙ a in
      let l : shown c w w.queue ≡ shown c w d =
      ap (λ (z : Outcome). events_of z w.queue c.set) b ∙ ap (λ (x : List ℕ). events_of r x c.set) q
      ∙ shown_longer f r.stepped.answer d e c.set w.table w.out r.out k in
      (u.0 ∙ rw (l, b) refl, ap flat u.1 ∙ ap (λ (z : Outcome). flat (end_of (arrives m (after c w z)))) b)

  -- or what the steps lent d and then e do
  joined_flat : (m : Marked) (d e : List ℕ) (p q r : Outcome) → m.world.queue ≡ d ++ e → Joined m.world.state.phase c.set c.names d e p q r
      → flat (arrives m (after c m.world r)) ≡ flat (arrives (arrives m (after c m.world p)) (after c (after c m.world p) q))
  joined_flat m d e p q r x j =
      let w : World Session = m.world in
      let P0 : Phase = w.state.phase in
      let P1 : Phase = p.stepped.session.phase in
      let R : Session = r.stepped.session in
      let Q : Session = q.stepped.session in
      let K : Bool = m.packet in
      let E : Bool = packet_ends P0 R.phase in
      let s : unwindowed E R ≡ unwindowed E Q = j.session in
      let h : Q.phase ≡ R.phase = sym (phase_stays E Q) ∙ ap (λ (z : Session). z.phase) (sym s) ∙ phase_stays E R in
      let none : packet_ends P0 P1 ≡ false = rw j.live (and_false (in_packet P0)) in
      let ends : packet_ends P1 Q.phase ≡ E = rw (j.packet, h) refl in
      let mark : ((K || packet_ends P0 P1) || packet_ends P1 Q.phase) ≡ (K || E) = rw (none, ends, or_none K) refl in
      let i : E ≡ true → ((K || E) && is_ended R.phase) ≡ true = λ t. rw (t, or_some K) (and_true (in_packet P0) (is_ended R.phase) t).1 in
      let st : unwindowed ((K || E) && is_ended R.phase) R ≡ unwindowed ((K || E) && is_ended R.phase) Q = fewer E _ R Q i s in
      let left : drop r.stepped.taken w.queue ≡ drop q.stepped.taken (drop p.stepped.taken w.queue) =
      rw (j.taken, j.all, x, drop-append-add d e q.stepped.taken, drop-append_seam d e) refl in
      let both : ((K || E) && is_ended R.phase) ≡ (((K || packet_ends P0 P1) || packet_ends P1 Q.phase) && is_ended Q.phase) = rw (mark, h) refl in
      by_parts (st ∙ ap (λ (b : Bool). unwindowed b Q) both) j.table j.reply j.out left (sym mark)

  joined_due : (m : Marked) (d e : List ℕ) → Fine m.world → m.world.queue ≡ d ++ e
      → Joined m.world.state.phase c.set c.names d e (step_on c m.world d) (step_after (step_on c m.world d) e c.set c.names)
      (step_on c m.world (d ++ e))
      → Due m d
  joined_due m d e g q j =
      let w : World Session = m.world in
      let v : Marked = onward c m d in
      let x : v.world.queue ≡ e = rw (j.all, q) (drop-append_seam d e) in
      let u = unroll m g in
      let k = unroll v (fine_forth w d g) in
      let z : Marked = onward c m w.queue in
      let n : Marked = onward c v v.world.queue in
      let t : shown c w w.queue ≡ shown c w d ++ shown c v.world v.world.queue = rw (x, q) j.events in
      let f : flat z ≡ flat n =
      ap (λ (i : List ℕ). flat (onward c m i)) q
      ∙ joined_flat m d e (step_on c w d) (step_on c v.world e) (step_on c w (d ++ e)) q j
      ∙ ap (λ (i : List ℕ). flat (onward c v i)) (sym x) in
      let r = twin_rest z n (fine_forth w w.queue g) (fine_forth v.world v.world.queue (fine_forth w d g)) f in (
        u.0 ∙ rw (t, r.0) (append_assoc (shown c w d) (shown c v.world v.world.queue) (rest n.world))
            ∙ ap (λ (l : List Event). shown c w d ++ l) (sym k.0),
        ap flat u.1 ∙ r.1 ∙ ap flat (sym k.1),
      )

  pub due : (m : Marked) (d e : List ℕ) → Fine m.world → m.world.queue ≡ d ++ e → Due m d
  due m d e g q =
      let w : World Session = m.world in
      by_law (step_law w.state c.set c.names d e w.table w.reply w.out g.holds.size)
    where
      by_law :
          Divides m.world.state.phase c.set c.names d e (step_on c m.world d) (step_after (step_on c m.world d) e c.set c.names)
          (step_on c m.world (d ++ e))
          → Due m d
      by_law (alone a) = alone_due m d e g q a
      by_law (joined j) = joined_due m d e g q j
