-- The claim of specs/Claim, of the definitions' host, over a measure of the own steps that are left: a step lent the run's own things goes as in
-- proofs/Undivided, a
-- refused one leaves the world as it was, and the rest are laws of lists of steps. Assumes nothing.
use mathlib.Core.Path.{◌≡◌, refl, sym, ap, ◌∙◌}
use mathlib.Core.Logic.{◌⊎◌, inl, ⊎_elim}
use mathlib.Core.Bool.{Bool, true, false, not, ◌&&◌, ◌||◌}
use mathlib.Core.List.{List, [], ◌∷◌, ◌++◌}
use Prim.Native.Nat.{ℕ, zero, suc, ◌-◌, ◌≤◌}
use native.Mathlib.Omega.{arith}
use borrow.Author.Tests.{eqb-true, eqb-false, ne_eqb, not-false}
use lib.Dec.{eqb, T}
use lib.ListN.{length, take, drop, length-take, take-append-drop, replicate}
use lib.Seq.{take_all}
use Rattle.base.proofs.Ranges.{by_test}
use Rattle.base.proofs.Tests.{and_true, neither, differ, holds, held}
use Rattle.session.specs.declared.Session.{Session}
use Rattle.session.specs.declared.Answer.TheVariants as A
use Rattle.session.specs.Outcome.{Outcome, is_ended}
use Rattle.waiting.specs.Wanted.{needs_bytes}
use Rattle.waiting.proofs.Waiting.{waits, step_is_phase}
use Rattle.steps.specs.Steps.{one, final, counted}
use Rattle.steps.proofs.Steps.{beginning, whole}
use Rattle.fetch.specs.Plain.{Setting}
use Rattle.fetch.specs.Device.{definitions, Delivery, first, another, Lent, lent, delivered, all_own, aside, World, start, made}
use Rattle.fetch.proofs.Lent.{kept_lent, left_none, lent_own, kept_own, owned}
use Rattle.fetch.proofs.Still.{phase_quiet, step_still}
use Rattle.division.specs.Over.{Event, FromQueue, lacks, next_over, FairOver, RunOver, events_by, events, is_fed, owns_fed}
use Rattle.division.specs.Claim.{enough_over, whole_left, undivided, packet_ends, packet_ended, unwindowed, SameEnd, Divided}
use Rattle.division.specs.Law.{events_of}
use Rattle.division.proofs.Step.{Goes, refuses_or_goes, empty_list}
use Rattle.division.proofs.Undivided.{Marked, flat, step_on, after, forth, shown, arrives, stays, RefusesIn, refuses_forth, or_none, Good, Fed, fine_forth, rest, end_of, due}

or_assoc : (a b c : Bool) → ((a || b) || c) ≡ (a || (b || c))
or_assoc true b c = refl
or_assoc false b c = refl

-- of what is left, a beginning
from_first : (d : Delivery) → FromQueue d → (k : ℕ) × (d ≡ first k)
from_first (first k) f = (k, refl)
from_first (another d) f = absurd f

-- what is the same, in part without windows, is the same without them
windows_aside : (a b u : Bool) (r s : Session) → (a ≡ true → u ≡ true) → (b ≡ true → u ≡ true) → unwindowed a r ≡ unwindowed b s → unwindowed u r ≡ unwindowed u s
windows_aside a b true r s i j e = sym (twice a r) ∙ ap (unwindowed true) e ∙ twice b s
  where
    twice : (x : Bool) (z : Session) → unwindowed true (unwindowed x z) ≡ unwindowed true z
    twice true z = refl
    twice false z = refl
windows_aside a b false r s i j e = by_test a (λ m. differ (i m)) (λ m. by_test b (λ n. differ (j n)) (λ n. rw (m, n) at e))

module _ (c : Setting) where
  abbrev next : World Session → Lent → World Session
  next w l = next_over definitions c w l

  abbrev fed : World Session → Lent → Bool
  fed w l = is_fed definitions c (λ s. s) w l

  abbrev counts : World Session → Lent → Bool
  counts w l = all_own l && fed w l

  abbrev pub GoesIn : World Session → Type 0
  GoesIn w = Goes w.state c.set c.names w.table w.reply w.out

  -- refused whatever is delivered, or its phase's
  pub which : (w : World Session) → RefusesIn c w ⊎ GoesIn w
  which w = refuses_or_goes w.state c.set c.names w.table w.reply w.out

  -- nothing is delivered where bytes are needed: all stays
  pub waits_forth : (w : World Session) → length w.state.window ≡ 48 → needs_bytes w.state.phase ≡ true → (forth c w [] ≡ w) × (shown c w [] ≡ [])
  waits_forth w full n =
      ⊎_elim (λ k. refuses_forth c w [] k)
      (λ g.
      let e = waits w.state c.set c.names w.table w.reply w.out g.order full n in
      (ap (after c w) e, ap (λ (r : Outcome). events_of r [] c.set) e))
      (which w)

  -- ---- one step

  -- lent the run's own things and the first k bytes of what is left
  own_step : (w : World Session) (l : Lent) (k : ℕ) → all_own l ≡ true → l.delivery ≡ first k
      → (next w l ≡ forth c w (take k w.queue)) × (events_by definitions c w l ≡ shown c w (take k w.queue))
  own_step w l k a e =
      let o = owned l a in (
        rw (
          e,
          lent_own l.set c.set o.set,
          lent_own l.names c.names o.names,
          lent_own l.table w.table o.table,
          lent_own l.reply w.reply o.reply,
          lent_own l.out w.out o.out,
          kept_own l.table w.table _ o.table,
          kept_own l.reply w.reply _ o.reply,
          kept_own l.out w.out _ o.out,
        )
            refl,
        rw (
          e,
          lent_own l.set c.set o.set,
          lent_own l.names c.names o.names,
          lent_own l.table w.table o.table,
          lent_own l.reply w.reply o.reply,
          lent_own l.out w.out o.out,
        )
            refl,
      )

  -- refused with 1, 2, 3, 4 or 18
  aside_step : (w : World Session) (l : Lent) → T (aside (made definitions c w l).answer) → (next w l ≡ w) × (events_by definitions c w l ≡ [])
  aside_step w l a =
      let d : List ℕ = delivered l.delivery w.queue in
      let s = step_still w.state d (lent l.set c.set) (lent l.names c.names) (lent l.table w.table)
      (lent l.reply w.reply) (lent l.out w.out) a in (
        rw (s.same, kept_lent l.table w.table, kept_lent l.reply w.reply, kept_lent l.out w.out, left_none l.delivery w.queue) refl,
        ap (λ (r : Outcome). events_of r d (lent l.set c.set)) s.same ∙ rw (holds (aside (A.Refused s.why)) (rw s.same at a)) refl,
      )

  -- such a refusal of an own step is of every delivery
  aside_refuses : (w : World Session) (l : Lent) → all_own l ≡ true → T (aside (made definitions c w l).answer) → RefusesIn c w
  aside_refuses w l a t =
      let o = owned l a in
      let d : List ℕ = delivered l.delivery w.queue in
      let b : T (aside (step_on c w d).stepped.answer) =
      rw (
        lent_own l.set c.set o.set,
        lent_own l.names c.names o.names,
        lent_own l.table w.table o.table,
        lent_own l.reply w.reply o.reply,
        lent_own l.out w.out o.out,
      )
      at t in
      ⊎_elim (λ k. k)
      (λ g.
      absurd
      (phase_quiet w.state d c.set c.names w.table w.reply w.out w.state.phase g.live
      (rw (step_is_phase w.state c.set c.names w.table w.reply w.out g.order d) at b)))
      (which w)

  -- ---- the world and its mark after a step, and after a list

  abbrev next_marked : Marked → Lent → Marked
  next_marked m l = arrives m (next m.world l)

  abbrev ended : World Session → List Lent → Bool
  ended w ls = packet_ended definitions c (λ s. s) w ls

  abbrev after_list : Marked → List Lent → Marked
  after_list m ls = record { world = final next m.world ls; packet = m.packet || ended m.world ls }

  after_none : (m : Marked) → after_list m [] ≡ m
  after_none m = rw (or_none m.packet) refl

  after_more : (m : Marked) (l : Lent) (ls : List Lent) → after_list (next_marked m l) ls ≡ after_list m (l ∷ ls)
  after_more m l ls =
      ap (λ (b : Bool). record { world = final next (next m.world l) ls; packet = b })
      (or_assoc m.packet (packet_ends m.world.state.phase (next m.world l).state.phase) (ended (next m.world l) ls))

-- ---- a list of steps

module _ (c : Setting) (mu : World Session → ℕ)
    (falls : (w : World Session) (d : List ℕ) → Good (length c.bytes) w → length d ≤ length w.queue → Fed w d → mu (forth c w d) ≤ mu w - 1)
    (empty : (w : World Session) (d : List ℕ) → Good (length c.bytes) w → length d ≤ length w.queue → mu w ≡ 0
    → (forth c w d ≡ w) × (shown c w d ≡ [])) where
  abbrev Fine : World Session → Type 0
  Fine w = Good (length c.bytes) w

  abbrev to_show : World Session → List Event
  to_show w = rest c mu falls empty w

  abbrev ends : Marked → Marked
  ends m = end_of c mu falls empty m

  -- what a fair step does
  record Step (m : Marked) (l : Lent) : Type 0 where
    pub good : Fine (next c m.world l)
    pub due : to_show m.world ≡ events_by definitions c m.world l ++ to_show (next c m.world l)
    pub ending : flat (ends m) ≡ flat (ends (next_marked c m l))
    pub fell : mu (next c m.world l) ≤ mu m.world - one (counts c m.world l)

  -- one that leaves the world as it was
  stays_does : (m : Marked) (l : Lent) → Fine m.world → next c m.world l ≡ m.world → events_by definitions c m.world l ≡ []
      → mu m.world ≤ mu m.world - one (counts c m.world l) → Step m l
  stays_does m l g e s f =
      let k : next_marked c m l ≡ m = stays m _ e in
      record { good = rw e g; due = rw (e, s) refl; ending = ap (λ (z : Marked). flat (ends z)) (sym k); fell = rw e f }

  own_does : (m : Marked) (l : Lent) (k : ℕ) → Fine m.world → aside (made definitions c m.world l).answer ≡ false → all_own l ≡ true
      → l.delivery ≡ first k → Step m l
  own_does m l k g i a e =
      let w : World Session = m.world in
      let q : List ℕ = w.queue in
      let d : List ℕ = take k q in
      let o = own_step c w l k a e in
      let room : length d ≤ length q = omega (arith, length-take k q) in
      by_test (fed c w l)
      (λ f.
      let x = due c mu falls empty m d (drop k q) g (sym (take-append-drop k q)) in
      let y : Fed w d = feeds w l d i (rw e refl) f in
      record {
        good = rw o.0 (fine_forth c mu falls empty w d g);
        due = rw (o.0, o.1) x.0;
        ending = x.1 ∙ ap (λ (v : World Session). flat (ends (arrives m v))) (sym o.0);
        fell = rw (o.0, a, f) (falls w d g room y);
      })
      (λ f.
      let n = unfed w l i f in
      let z : d ≡ [] = empty_list d (rw e at n.1) in
      let s = waits_forth c w g.holds.size n.0 in
      stays_does m l g (o.0 ∙ ap (forth c w) z ∙ s.0) (o.1 ∙ ap (shown c w) z ∙ s.1) (rw (a, f) (omega arith)))
    where
      -- a step that is fed, and one that is not
      feeds : (w : World Session) (l : Lent) (d : List ℕ) → aside (made definitions c w l).answer ≡ false → delivered l.delivery w.queue ≡ d
          → fed c w l ≡ true → Fed w d
      feeds w l d a e f n p =
          by_test (eqb (length d) 0)
          (λ z.
          let u : eqb (length w.queue) 0 ≡ false = ne_eqb (length w.queue) 0 (λ i. omega arith) in
          differ (rw (a, n, u, e, z) at f))
          (λ z. let i : length d ≡ 0 → ⊥ = eqb-false (length d) 0 z in omega arith)

      unfed : (w : World Session) (l : Lent) → aside (made definitions c w l).answer ≡ false → fed c w l ≡ false
          → (needs_bytes w.state.phase ≡ true) × (length (delivered l.delivery w.queue) ≡ 0)
      unfed w l i f =
          let q : List ℕ = w.queue in
          let d : List ℕ = delivered l.delivery q in
          let t : lacks w.state.phase q d ≡ true = not-false _ (neither (not (lacks w.state.phase q d)) (aside (made definitions c w l).answer) f).0 in
          let a = and_true (needs_bytes w.state.phase && not (eqb (length q) 0)) (eqb (length d) 0) t in
          let b = and_true (needs_bytes w.state.phase) (not (eqb (length q) 0)) a.0 in
          (b.0, eqb-true (length d) 0 a.1)

  -- where every delivery is refused no step is left
  refused_none : (w : World Session) → Fine w → RefusesIn c w → mu w ≡ 0
  refused_none w g k =
      let f : forth c w w.queue ≡ w = (refuses_forth c w w.queue k).0 in
      let l : mu w ≤ mu w - 1 = rw f at (falls w w.queue g (omega arith) (λ n i. i)) in
      omega arith

  aside_does : (m : Marked) (l : Lent) → Fine m.world → T (aside (made definitions c m.world l).answer) → Step m l
  aside_does m l g a =
      let w : World Session = m.world in
      let e = aside_step c w l a in
      stays_does m l g e.0 e.1
      (by_test (all_own l) (λ o. omega (arith, refused_none w g (aside_refuses c w l o a))) (λ o. rw o (omega arith)))

  does : (m : Marked) (l : Lent) → Fine m.world → FairOver definitions c m.world l → Step m l
  does m l g f =
      by_test (aside (made definitions c m.world l).answer) (λ a. aside_does m l g (held _ a))
      (λ a.
      ⊎_elim (λ o. let k = from_first l.delivery o.1 in own_does m l k.0 g a (holds (all_own l) o.0) k.1) (λ b. aside_does m l g b) f)

  -- with any mark
  does_world : (w : World Session) (l : Lent) → Fine w → FairOver definitions c w l → Step (record { world = w; packet = false }) l
  does_world w l g f = does (record { world = w; packet = false }) l g f

  none_shown : (w : World Session) → Fine w → mu w ≡ 0 → to_show w ≡ []
  none_shown w g z = rw z refl

  begins_list : (ls : List Lent) (w : World Session) → Fine w → RunOver definitions c w ls → to_show w ≡ events definitions c w ls ++ to_show (final (next c) w ls)
  begins_list =
      beginning (next c) (events_by definitions c) (FairOver definitions c) Fine to_show (λ w l g f. (does_world w l g f).good)
      (λ w l g f. (does_world w l g f).due)

  whole_list : (ls : List Lent) (w : World Session) → Fine w → RunOver definitions c w ls → mu w ≤ owns_fed definitions c (λ s. s) w ls
      → to_show w ≡ events definitions c w ls
  whole_list =
      whole (next c) (events_by definitions c) (FairOver definitions c) Fine to_show (λ w l g f. (does_world w l g f).good)
      (λ w l g f. (does_world w l g f).due) (counts c) mu (λ w l g f. (does_world w l g f).fell) none_shown

  -- how it ends stays, and so many steps are left
  ends_list : (ls : List Lent) (m : Marked) → Fine m.world → RunOver definitions c m.world ls
      → (flat (ends m) ≡ flat (ends (after_list c m ls)))
      × (mu (final (next c) m.world ls) ≤ mu m.world - counted (next c) (counts c) m.world ls)
  ends_list [] m g f = (ap (λ (z : Marked). flat (ends z)) (sym (after_none c m)), omega arith)
  ends_list (l ∷ ls) m g f =
      let s = does m l g f.0 in
      let i = ends_list ls (next_marked c m l) s.good f.1 in
      (s.ending ∙ i.0 ∙ ap (λ (z : Marked). flat (ends z)) (after_more c m l ls), omega (arith, i.1, s.fell))

  -- at the end, once as many steps counted as mu says
  ends_there : (ls : List Lent) (m : Marked) → Fine m.world → RunOver definitions c m.world ls
      → mu m.world ≤ owns_fed definitions c (λ s. s) m.world ls → flat (ends m) ≡ flat (after_list c m ls)
  ends_there ls m g f h =
      let i = ends_list ls m g f in
      let z : mu (final (next c) m.world ls) ≡ 0 = omega (arith, i.1) in
      i.0 ∙ rw z refl

  -- ---- the undivided run is one of them

  all_fair_lem : (n : ℕ) (w : World Session) → RunOver definitions c w (replicate n (whole_left c))
  all_fair_lem zero w = tt
  all_fair_lem (suc n) w = (inl (tt, tt), all_fair_lem n (next c w (whole_left c)))

  all_fed : (w : World Session) → Fine w → fed c w (whole_left c) ≡ true
  all_fed w g =
      let e : take (length c.bytes) w.queue ≡ w.queue = take_all (length c.bytes) w.queue g.left in
      rw (e, either (needs_bytes w.state.phase) (eqb (length w.queue) 0)) refl
    where
      either : (a b : Bool) → not (a && not b && b) ≡ true
      either true true = refl
      either true false = refl
      either false b = refl

  all_count : (n : ℕ) (w : World Session) → Fine w → counted (next c) (counts c) w (replicate n (whole_left c)) ≡ n
  all_count zero w g = refl
  all_count (suc n) w g =
      let i = all_count n (next c w (whole_left c)) (does_world w (whole_left c) g (inl (tt, tt))).good in
      rw (all_fed w g) (omega (arith, i))

  -- ---- the claim

  good_start : Fine (start definitions c)
  good_start = record { held = []; cut = tt; left = omega arith; holds = record { size = refl; count = refl; same = refl; fresh = (refl, refl) } }

  same_end : (ls ks : List Lent) → let w = start definitions c in
      flat (after_list c (record { world = w; packet = false }) ls) ≡ flat (after_list c (record { world = w; packet = false }) ks)
      → SameEnd (λ s. s) (ended c w ks) (final (next c) w ls) (final (next c) w ks)
  same_end ls ks e =
      let w = start definitions c in
      let k : ended c w ls ≡ ended c w ks = ap (λ (z : Marked). z.packet) e in
      record {
        session =
            windows_aside (ended c w ls && is_ended (final (next c) w ls).state.phase) (ended c w ks && is_ended (final (next c) w ks).state.phase)
            (ended c w ks) (final (next c) w ls).state (final (next c) w ks).state
            (λ i. sym k ∙ (and_true (ended c w ls) (is_ended (final (next c) w ls).state.phase) i).0)
            (λ i. (and_true (ended c w ks) (is_ended (final (next c) w ks).state.phase) i).0)
            (ap (λ (z : Marked). z.world.state) e);
        table = ap (λ (z : Marked). z.world.table) e;
        reply = ap (λ (z : Marked). z.world.reply) e;
        out = ap (λ (z : Marked). z.world.out) e;
        queue = ap (λ (z : Marked). z.world.queue) e;
      }

  pub divided : mu (start definitions c) ≤ enough_over c → (ls : List Lent) → RunOver definitions c (start definitions c) ls → Divided definitions (λ s. s) c ls
  unfolding undivided
  divided b ls f =
      let w : World Session = start definitions c in
      let m : Marked = record { world = w; packet = false } in
      let n : ℕ = enough_over c in
      let a : RunOver definitions c w (undivided c) = all_fair_lem n w in
      let k : mu w ≤ owns_fed definitions c (λ s. s) w (undivided c) = omega (arith, b, all_count n w good_start) in
      let r = whole_list (undivided c) w good_start a k in
      record {
        begins = (_, sym r ∙ begins_list ls w good_start f);
        whole = λ h. sym (whole_list ls w good_start f (omega (arith, b, h))) ∙ r;
        ends =
            λ h.
            same_end ls (undivided c)
            (sym (ends_there ls m good_start f (omega (arith, b, h))) ∙ ends_there (undivided c) m good_start a k);
      }
