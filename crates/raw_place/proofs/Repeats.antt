-- A region's step on its numbers in place is the step's own (`counts_are`, `waits_are`): the numbers are a session's in a region, so that the step is
-- `region_step`, which is the step over the counts put into the session. Assumes nothing.
use mathlib.Core.Path.{◌≡◌, refl, sym, ap, ◌∙◌}
use mathlib.Core.Bool.{Bool, true, false, ◌||◌, true≢false}
use mathlib.Core.List.{List, [], ◌∷◌}
use Prim.Native.Nat.{ℕ, ◌+◌, ◌^◌}
use borrow.Author.Tests.{eq-eqb, eqb-true}
use lib.Dec.{ltb, leb, eqb}
use lib.ListN.{length, get_or, replicate}
use Rattle.base.specs.Choice.{pick}
use Rattle.base.proofs.Ranges.{by_test, by_then, either}
use Rattle.field.specs.Field.{le, field_size}
use Rattle.field.specs.declared.Width.{Width}
use Rattle.bundle.specs.Bundle.{slots_good, well_formed}
use Rattle.command.specs.Command.{mode_of, command_of}
use Rattle.verdict.specs.declared.Opening.{Opening}
use Rattle.session.specs.declared.Region.{Region}
use Rattle.session.specs.declared.Phase.TheVariants as P
use Rattle.session.specs.declared.Session.{Session}
use Rattle.session.specs.declared.Answer.TheVariants as A
use Rattle.session.specs.declared.Counted.{Counted}
use Rattle.session.specs.Outcome.{Outcome, reading}
use Rattle.session.specs.Limits.{region_limit}
use Rattle.region_phase.specs.declared.Advance.{Advance}
use Rattle.region_phase.specs.declared.Advance.TheVariants as D
use Rattle.region_phase.specs.Advance.{Advanced, advanced, advance_within, advance_of, on_advance}
use Rattle.region_phase.proofs.Laws.{advance_is}
use Rattle.session.specs.Guard.{phase_step}
use Rattle.waiting.specs.Wanted.{wanted_in}
use Rattle.raw.specs.declared.RawSession.{RawSession}
use Rattle.raw.specs.Raw.{opening_of, is_opening, width_of, is_width, region_in, phase_of, no_region, is_phase, raw_of, session_of, is_session, told_of, stepped_at, raw_stepped}
use Rattle.raw.proofs.Laws.{raw_back}
use Rattle.in_place.specs.Place.{raw_at, waits_at, in_region, region_at, counted_at}
use Rattle.raw_step.specs.RawStep.{raw_outcome, raw_outcome_of, step_raw, wanted_raw}
use Rattle.raw_step.proofs.Laws.{step_formed, wanted_is}
use Rattle.std.specs.Prelude.{Result, Ok, Err}
use Rattle.refusal.specs.declared.Refusal.{Refusal}

-- ---- numbers of a session in a region

pub no : ◌≡◌ {A = Bool} false true → ⊥
no e = true≢false (sym e)

phase_region : (r : RawSession) → r.phase ≡ 5 → phase_of r ≡ P.Region r.count (region_in r)
unfolding phase_of
phase_region r p = rw p refl

region_session : (r : RawSession) → is_opening r.mode r.command r.backend ≡ true → is_width r.width ≡ true → r.phase ≡ 5 → ltb r.due 2 ≡ true
    → is_session r ≡ true
unfolding is_session is_phase
region_session r u v p d = rw (u, v, p) d

empty_formed : (gaps : Bool) → well_formed gaps (replicate 8 0) ≡ true
unfolding well_formed slots_good le
empty_formed gaps = refl

-- numbers with a region's phase that are no session's want nothing
pub wanted_none : (h n w : List ℕ) → get_or h 3 0 ≡ 5 → in_region h n ≡ false → 0 ≡ wanted_raw (raw_at h n w)
unfolding wanted_raw is_session is_phase
wanted_none h n w p e =
    by_test (is_opening (get_or h 0 0) (get_or h 1 0) (get_or h 2 0))
    (λ o.
    by_test (is_width (get_or n 8 0))
    (λ v. by_test (ltb (get_or n 7 0) 2) (λ d. absurd (true≢false (rw (eq-eqb (get_or h 3 0) 5 p, d, v, o) at e))) (λ d. rw (o, v, p, d) refl))
    (λ v. rw (o, v) refl))
    (λ o. rw o refl)

-- ---- what a region's step keeps of it

abbrev place : Region → List ℕ
place x = x.entry ∷ x.base ∷ x.len ∷ []

abbrev come_by : Region → Result Advance Refusal → Region
come_by x (Ok (D.To c)) = c.region
come_by x (Ok D.Waits) = x
come_by x (Err why) = x
come_by x (Ok D.Begins) = x
come_by x (Ok D.Closes) = x

module _ (v : Width) (u : Opening) (m : ℕ) (x : Region) (came : ℕ) (o : List ℕ) where
  kept_within : place (come_by x (advance_within v u m x came o).advance) ≡ place x
  unfolding advance_within
  kept_within =
      by_test x.due (λ e. rw e refl)
      (λ e. by_test (eqb x.outstanding 0)
      (λ z. by_test (eqb x.done 0) (λ b. rw (e, z, b) refl)
      (λ b. by_test (leb x.len x.done) (λ l. rw (e, z, b, l) refl) (λ l. rw (e, z, b, l) refl)))
      (λ z. by_test (eqb came 0) (λ b. rw (e, z, b) refl) (λ b. rw (e, z, b) refl)))

  kept : (k : ℕ) (t : List ℕ) → place (come_by x (advance_of v u m k x came t o).advance) ≡ place x
  unfolding advance_of
  kept k t =
      by_test (ltb (length o) 48) (λ e. rw e refl)
      (λ e. by_test (ltb (2 ^ 63 + 1) m || region_limit (field_size v) k x t) (λ l. rw (e, l) refl) (λ l. rw (e, l) kept_within))

-- the session in place
module _ (h n w : List ℕ) (e : in_region h n ≡ true) where
  abbrev r : RawSession
  r = raw_at h n w

  five : get_or h 3 0 ≡ 5
  five = eqb-true (get_or h 3 0) 5 (by_then (eqb (get_or h 3 0) 5) _ _ no e).0

  is_session_lem : is_session r ≡ true
  is_session_lem =
      let p = by_then (eqb (get_or h 3 0) 5) _ _ no e in
      let d = by_then (ltb (get_or n 7 0) 2) _ _ no p.1 in
      let v = by_then (is_width (get_or n 8 0)) _ _ no d.1 in
      region_session r v.1 v.0 five d.0

  -- what is wanted there
  pub wanted_at : waits_at n ≡ wanted_raw r
  unfolding session_of
  wanted_at = ap (wanted_in w) (sym (phase_region r five)) ∙ wanted_is r is_session_lem

  -- ---- a delivery, image set, names, table, reply and out buffers
  module _ (d set names t y o : List ℕ) (f : well_formed true set ≡ true) (g : well_formed false names ≡ true) where
    abbrev s : Session
    s = session_of r

    abbrev x : Region
    x = region_at n

    abbrev put : Advanced → Outcome
    put a = on_advance s r.count x t y a.out a.advance

    -- put into the session, the step over its counts is the step
    put_is : (a : Advanced) → a ≡ advance_of (width_of (get_or n 8 0)) (opening_of (get_or h 0 0) (get_or h 1 0) (get_or h 2 0)) (get_or n 0 0) (get_or n 1 0) x (length d) t o
        → raw_outcome_of (put a) ≡ step_raw r d set names t y o
    unfolding session_of
    put_is a q =
        ap raw_outcome_of (ap put q ∙ sym (advance_is s r.count x d t y o) ∙ ap (phase_step s d set names t y o) (sym (phase_region r five)))
        ∙ step_formed r d set names t y o f g is_session_lem

    -- the session's numbers with what the step counts
    raw_counted : (c : Counted) → place c.region ≡ place x
        → raw_of (reading s c.reads (P.Region r.count c.region)) ≡ raw_at h (counted_at n c) w
    unfolding raw_of session_of
    raw_counted c k =
        let b = raw_back r is_session_lem in
        rw (
          ap (λ (z : RawSession). z.mode) b,
          ap (λ (z : RawSession). z.command) b,
          ap (λ (z : RawSession). z.backend) b,
          ap (λ (z : RawSession). z.width) b,
          five,
          ap (λ (z : List ℕ). get_or z 0 0) k,
          ap (λ (z : List ℕ). get_or z 1 0) k,
          ap (λ (z : List ℕ). get_or z 2 0) k,
        ) refl

    pub counts_are : (c : Counted) (p : List ℕ)
        → advanced (Ok (D.To c)) p ≡ advance_of (width_of (get_or n 8 0)) (opening_of (get_or h 0 0) (get_or h 1 0) (get_or h 2 0)) (get_or n 0 0) (get_or n 1 0) x (length d) t o
        → raw_outcome (stepped_at (raw_at h (counted_at n c) w) (told_of c.taken c.answer)) t y p ≡ step_raw r d set names t y o
    unfolding raw_stepped
    counts_are c p q =
        let k : place c.region ≡ place x = ap (λ (a : Advanced). place (come_by x a.advance)) q ∙ kept _ _ _ x _ o _ t in
        ap (λ (z : RawSession). raw_outcome (stepped_at z (told_of c.taken c.answer)) t y p) (sym (raw_counted c k)) ∙ put_is (advanced (Ok (D.To c)) p) q

    pub waits_are : (p : List ℕ)
        → advanced (Ok D.Waits) p ≡ advance_of (width_of (get_or n 8 0)) (opening_of (get_or h 0 0) (get_or h 1 0) (get_or h 2 0)) (get_or n 0 0) (get_or n 1 0) x (length d) t o
        → raw_outcome (stepped_at r (told_of 0 A.Go)) t y p ≡ step_raw r d set names t y o
    unfolding raw_stepped
    waits_are p q =
        ap (λ (z : RawSession). raw_outcome (stepped_at z (told_of 0 A.Go)) t y p) (sym (raw_back r is_session_lem)) ∙ put_is (advanced (Ok D.Waits) p) q

  -- no step there looks at the image set or the names: lent empty ones, it is the same
  pub lent_empty : (d set names t y o : List ℕ) → well_formed true set ≡ true → well_formed false names ≡ true
      → step_raw r d (replicate 8 0) (replicate 8 0) t y o ≡ step_raw r d set names t y o
  lent_empty d set names t y o f g =
      let a = advance_of (width_of (get_or n 8 0)) (opening_of (get_or h 0 0) (get_or h 1 0) (get_or h 2 0)) (get_or n 0 0) (get_or n 1 0) (region_at n) (length d) t o in
      sym (put_is d (replicate 8 0) (replicate 8 0) t y o (empty_formed true) (empty_formed false) a refl) ∙ put_is d set names t y o f g a refl

-- ---- the premises can be met, of either width: a dump over USB with a chunk of the region done; nothing outstanding, bytes outstanding, an empty read due;
-- and no byte came
abbrev counts : Result Advance Refusal → Bool
counts (Ok (D.To c)) = true
counts (Ok D.Waits) = false
counts (Err why) = false
counts (Ok D.Begins) = false
counts (Ok D.Closes) = false

module _ (outstanding due came width : ℕ) where
  abbrev numbers : List ℕ
  numbers = 2 ∷ 64 ∷ 0 ∷ 4096 ∷ 10000 ∷ 4096 ∷ outstanding ∷ due ∷ width ∷ []

  abbrev head : List ℕ
  head = 2 ∷ 0xFFFFFFFF ∷ 1 ∷ 5 ∷ []

  abbrev came_to : Result Advance Refusal
  came_to = (advance_of (width_of width) (opening_of 2 0xFFFFFFFF 1) 2 64 (region_at numbers) came (replicate 64 0) (replicate 48 0)).advance

  abbrev met : Bool
  met = pick (in_region head numbers) (counts came_to) false

abbrev AllMet : ℕ → Type 0
AllMet v = (met 0 0 0 v ≡ true) × (met 4096 0 1 v ≡ true) × (met 0 1 0 v ≡ true) × (came_to 4096 0 0 v ≡ (Ok D.Waits))

counts_met : AllMet 64 × AllMet 32
unfolding advance_of advance_within mode_of command_of
counts_met = ((refl, refl, refl, refl), (refl, refl, refl, refl))

-- ---- what a step in place tells of the bytes that the next one waits for

-- of a session in another phase the numbers of a region are 0
other_phase : (r : RawSession) → is_phase r ≡ true → eqb r.phase 5 ≡ false → no_region r ≡ true
unfolding is_phase
other_phase r e f =
    by_test (eqb r.phase 0) (λ p. (by_then (eqb r.at 0) _ _ no (rw p at e)).1)
    (λ p0.
    by_test (eqb r.phase 1) (λ p. rw (p0, p) at e)
    (λ p1.
    by_test (eqb r.phase 2) (λ p. (by_then (eqb r.at 0) _ _ no (rw (p0, p1, p) at e)).1)
    (λ p2.
    by_test (eqb r.phase 3) (λ p. rw (p0, p1, p2, p) at e)
    (λ p3.
    by_test (eqb r.phase 4) (λ p. rw (p0, p1, p2, p3, p) at e)
    (λ p4.
    by_test (eqb r.phase 6) (λ p. (by_then (eqb r.at 0) _ _ no (rw (p0, p1, p2, p3, p4, f, p) at e)).1)
    (λ p6. absurd (no (rw (p0, p1, p2, p3, p4, f, p6) at e))))))))

none_waits : (r : RawSession) → no_region r ≡ true → pick (eqb r.due 1) 0 r.outstanding ≡ 0
none_waits r e =
    let b = by_then (eqb r.base 0) _ _ no e in
    let l = by_then (eqb r.len 0) _ _ no b.1 in
    let d = by_then (eqb r.done 0) _ _ no l.1 in
    let o = by_then (eqb r.outstanding 0) _ _ no d.1 in
    rw (eqb-true r.outstanding 0 o.0) (either (eqb r.due 1) 0)

-- of a session in a region what it wants, of any other session 0
module _ (h n w : List ℕ) (e : is_session (raw_at h n w) ≡ true) where
  parts : (is_opening (get_or h 0 0) (get_or h 1 0) (get_or h 2 0) ≡ true) × ((is_width (get_or n 8 0) ≡ true) × (is_phase (raw_at h n w) ≡ true))
  unfolding is_session
  parts =
      let o = by_then (is_opening (get_or h 0 0) (get_or h 1 0) (get_or h 2 0)) _ _ no e in
      (o.0, by_then (is_width (get_or n 8 0)) _ _ no o.1)

  dumping : get_or h 3 0 ≡ 5 → in_region h n ≡ true
  unfolding is_phase
  dumping p = rw (eq-eqb (get_or h 3 0) 5 p, rw p at parts.1.1, parts.1.0, parts.0) refl

  pub waits_wanted : waits_at n ≡ pick (eqb (get_or h 3 0) 5) (wanted_raw (raw_at h n w)) 0
  waits_wanted =
      by_test (eqb (get_or h 3 0) 5) (λ p. rw p (wanted_at h n w (dumping (eqb-true (get_or h 3 0) 5 p))))
      (λ p. rw p (none_waits (raw_at h n w) (other_phase (raw_at h n w) parts.1.1 p)))
