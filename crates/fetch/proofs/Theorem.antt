-- The claim of specs/Claim.antt, of the definitions' host: a step lent the run's own things and a delivery keeps the invariant by its phase, a refused one
-- leaves the world as it was, and so, by the laws of lists of steps, the reports are a beginning of the plain host's, and the whole once the own steps
-- number at least `enough`. Assumes nothing.
use mathlib.Core.Path.{◌≡◌, refl, sym, ap, subst, ◌∙◌}
use mathlib.Core.Logic.{◌⊎◌, inl, inr}
use mathlib.Core.Bool.{Bool, true, false, not, ◌&&◌, ◌||◌}
use mathlib.Core.List.{List, [], ◌++◌, append-nil}
use Prim.Native.Nat.{ℕ, ◌+◌, ◌-◌, ◌*◌, ◌≤◌}
use native.Mathlib.Omega.{arith}
use native.Mathlib.Nat.{add-zero, sub-zero}
use lib.Dec.{ltb, T}
use lib.ListN.{length}
use borrow.Author.Tests.{le-ltb, ltb-false, not-false}
use Rattle.base.specs.Choice.{pick}
use Rattle.base.proofs.Ranges.{by_test}
use Rattle.field.specs.Field.{field_size}
use Rattle.field.specs.declared.Width.TheVariants as WI
use Rattle.bundle.specs.Bundle.{well_formed}
use Rattle.session.specs.declared.Phase.{Phase}
use Rattle.session.specs.declared.Phase.TheVariants as P
use Rattle.session.specs.declared.Session.{Session}
use Rattle.session.specs.Outcome.{Outcome, opened_with, is_ended, untouched}
use Rattle.session.specs.Limits.{reads_limit, phase_limit, limit_of}
use Rattle.session.specs.Step.{on_phase, step_of}
use Rattle.steps.specs.Steps.{one, Throughout, final, outs, counted}
use Rattle.steps.proofs.Steps.{beginning, whole, outs_related, counted_related, fair_related}
use Rattle.fetch.specs.Plain.{
  Report,
  Debug,
  debug,
  field_in,
  Ending,
  Stopped,
  Debugged,
  stop,
  hear,
  hosted,
  table_in,
  selected_in,
  Setting,
  heard_of,
  plain,
}
use Rattle.fetch.specs.Device.{
  Host,
  definitions,
  Thing,
  own,
  other,
  Delivery,
  first,
  another,
  Lent,
  lent,
  delivered,
  is_own,
  all_own,
  kept,
  left,
  aside,
  Delivered,
  World,
  start,
  next,
  reported,
  Fair,
}
use Rattle.fetch.specs.Claim.{Run, reports, owns, region_bytes, enough, Premises, dumps, stops, Fetched, Demand}
use Rattle.fetch.specs.Meaning.{reads_in, Meant}
use Rattle.base.proofs.Tests.{and_true, holds, held}
use Rattle.fetch.proofs.Lent.{kept_lent, left_none, lent_own, kept_own, Owned, owned}
use Rattle.fetch.proofs.Device.{Came, first_came}
use Rattle.fetch.proofs.Ghost.{Ghost, seen, after_step, made_by, follow}
use Rattle.fetch.proofs.Invariant.{behind, Good, GoodAt, due_at, due_of, bound_at, bound_of, Kept, via, cost}
use Rattle.fetch.proofs.Cutting.{never, no_response}
use Rattle.fetch.proofs.Meaning.{plain_meant}
use Rattle.fetch.proofs.Packet
use Rattle.fetch.proofs.Packet.{Fits, reports_stop}
use Rattle.fetch.proofs.Table
use Rattle.fetch.proofs.Between
use Rattle.fetch.proofs.Between.{Safe}
use Rattle.fetch.proofs.Region
use Rattle.fetch.proofs.Still.{phase_quiet, Still, step_still}
use Rattle.refusal.specs.declared.Refusal.TheVariants as Refusal

-- the run's own things are well formed, the opening's end fits the memory debug, the selected regions can be dumped
record Ready (c : Setting) (dbg : Debug) (en : Ending) : Type 0 where
  pub set : well_formed true c.set ≡ true
  pub names : well_formed false c.names ≡ true
  pub fit : Fits dbg en
  pub safe : Safe c dbg

-- ---- what is lent

-- a delivery of the queue's
came : (d : Delivery) (q : List ℕ) → Delivered d q → Came (delivered d q) q
came (first k) q v = first_came k q v
came (another d) q v = absurd v

left_own : (d : Delivery) (q : List ℕ) (n : ℕ) → Delivered d q → left d n q ≡ left (first 0) n q
left_own (first k) q n v = refl
left_own (another d) q n v = absurd v

module _ (c : Setting) where
  -- a step lent the run's own things and bytes d
  abbrev step_own : Ghost → List ℕ → Outcome
  step_own w d = step_of w.session d c.set c.names w.table w.reply w.out

  made_own : (w : Ghost) (l : Lent) → Owned l → made_by c w l ≡ step_own w (delivered l.delivery w.queue)
  made_own w l o =
      rw (
        lent_own l.set c.set o.set,
        lent_own l.names c.names o.names,
        lent_own l.table w.table o.table,
        lent_own l.reply w.reply o.reply,
        lent_own l.out w.out o.out,
      )
      refl

  -- refused with all untouched, it leaves the world as it was and reports nothing
  module _ (w : Ghost) (l : Lent) (e : T (aside (made_by c w l).stepped.answer)) where
    still : Still w.session (delivered l.delivery w.queue) (lent l.set c.set) (lent l.names c.names)
        (lent l.table w.table) (lent l.reply w.reply) (lent l.out w.out) (made_by c w l)
    still =
        step_still w.session (delivered l.delivery w.queue) (lent l.set c.set) (lent l.names c.names) (lent l.table w.table)
        (lent l.reply w.reply) (lent l.out w.out) e

    refused_so : aside (made_by c w l).stepped.answer ≡ true
    refused_so = holds (aside (made_by c w l).stepped.answer) e

    same_world : follow c w l ≡ w
    same_world =
        rw (
          refused_so,
          still.same,
          kept_lent l.table w.table,
          kept_lent l.reply w.reply,
          kept_lent l.out w.out,
          left_none l.delivery w.queue,
          append-nil w.queue,
        )
        refl

    nothing_told : reported definitions c (seen w) l ≡ []
    nothing_told = rw still.same refl

module _ (c : Setting) (dbg : Debug) (en : Ending) (x : Ready c dbg en) where
  -- ---- a step lent the run's own things and bytes d; stated by the phase p, so that no equation on the session's phase is put into the session

  -- what the phase p gives
  abbrev at : Ghost → List ℕ → Phase → Outcome
  at w d p = on_phase w.session p d c.set c.names w.table w.reply w.out

  out_ok : (w : Ghost) (p : Phase) → GoodAt c dbg en p w → 48 ≤ length w.out
  out_ok w (P.Packet h) g = g.out
  out_ok w (P.Response z) g = absurd g
  out_ok w (P.Switched k) g = absurd g
  out_ok w (P.Table z) g = g.out
  out_ok w (P.Between k i) g = g.out
  out_ok w (P.Region k z) g = g.out
  out_ok w (P.Ended k) g = g

  -- no count is above its limit
  within : (w : Ghost) (d : List ℕ) (p : Phase) → GoodAt c dbg en p w
      → pick (is_ended p) (untouched w.session Refusal.Ended w.table w.reply w.out)
      (pick (reads_limit w.session || phase_limit (field_size w.session.width) w.session.window p w.table w.reply)
      (untouched w.session Refusal.Limit w.table w.reply w.out) (at w d p))
      ≡ at w d p
  within w d (P.Packet h) g = rw (Packet.limits c dbg en h w g) refl
  within w d (P.Response z) g = absurd g
  within w d (P.Switched k) g = absurd g
  within w d (P.Table z) g = rw (Table.limits c dbg en z w g) refl
  within w d (P.Between k i) g = rw (Between.limits c dbg en k i w g) refl
  within w d (P.Region k z) g = rw (Region.limits c dbg en k z w g) refl
  within w d (P.Ended k) g = refl

  to_phase : (w : Ghost) (d : List ℕ) → Good c dbg en w → step_own c w d ≡ at w d w.session.phase
  unfolding step_of limit_of
  to_phase w d g =
      let l : ltb (length w.out) 48 ≡ false = le-ltb (length w.out) 48 (out_ok w w.session.phase g) in
      rw (x.set, x.names, l) (within w d w.session.phase g)

  by_phase : (w : Ghost) (d : List ℕ) (p : Phase) → GoodAt c dbg en p w → Came d w.queue → aside (at w d p).stepped.answer ≡ false
      → Kept c dbg en (due_at c dbg en p w) (bound_at c dbg en p w) w d (at w d p)
  by_phase w d (P.Packet h) g v e = Packet.packet c dbg en h w g d v x.fit
  by_phase w d (P.Response z) g v e = absurd g
  by_phase w d (P.Switched k) g v e = absurd g
  by_phase w d (P.Table z) g v e = Table.table c dbg en z w g d v
  by_phase w d (P.Between k i) g v e = Between.between c dbg en k i w g d x.safe
  by_phase w d (P.Region k z) g v e = Region.region_kept c dbg en k z w g d v
  by_phase w d (P.Ended k) g v e = absurd (let z : ◌≡◌ {A = ℕ} 0 1 = cc in omega arith)

  own_step : (w : Ghost) (d : List ℕ) → Good c dbg en w → Came d w.queue → aside (step_own c w d).stepped.answer ≡ false
      → Kept c dbg en (due_of c dbg en w) (bound_of c dbg en w) w d (step_own c w d)
  own_step w d g v e =
      let f : step_own c w d ≡ at w d w.session.phase = to_phase w d g in
      via c dbg en f (by_phase w d w.session.phase g v (rw f at e))

  -- such a step is refused with all untouched only at the end, where no step is left
  at_end : (w : Ghost) (d : List ℕ) (p : Phase) → GoodAt c dbg en p w → T (aside (at w d p).stepped.answer) → bound_at c dbg en p w ≡ 0
  at_end w d (P.Packet h) g e = absurd (phase_quiet w.session d c.set c.names w.table w.reply w.out (P.Packet h) refl e)
  at_end w d (P.Response z) g e = absurd g
  at_end w d (P.Switched k) g e = absurd g
  at_end w d (P.Table z) g e = absurd (phase_quiet w.session d c.set c.names w.table w.reply w.out (P.Table z) refl e)
  at_end w d (P.Between k i) g e = absurd (phase_quiet w.session d c.set c.names w.table w.reply w.out (P.Between k i) refl e)
  at_end w d (P.Region k z) g e = absurd (phase_quiet w.session d c.set c.names w.table w.reply w.out (P.Region k z) refl e)
  at_end w d (P.Ended k) g e = refl

  own_end : (w : Ghost) (d : List ℕ) → Good c dbg en w → T (aside (step_own c w d).stepped.answer) → bound_of c dbg en w ≡ 0
  own_end w d g e = at_end w d w.session.phase g (rw (to_phase w d g) at e)

  -- ---- any step

  -- lent the run's own things and a delivery, and not refused so
  record Ordinary (w : Ghost) (l : Lent) : Type 0 where
    pub owns : Owned l
    pub came : Came (delivered l.delivery w.queue) w.queue
    pub made : made_by c w l ≡ step_own c w (delivered l.delivery w.queue)
    pub goes : aside (step_own c w (delivered l.delivery w.queue)).stepped.answer ≡ false
    pub follows : follow c w l ≡ after_step c.mem w (delivered l.delivery w.queue) (step_own c w (delivered l.delivery w.queue))

  follow_own : (w : Ghost) (l : Lent) → Owned l → Delivered l.delivery w.queue
      → aside (made_by c w l).stepped.answer ≡ false → made_by c w l ≡ step_own c w (delivered l.delivery w.queue)
      → follow c w l ≡ after_step c.mem w (delivered l.delivery w.queue) (step_own c w (delivered l.delivery w.queue))
  follow_own w l o v e m =
      let r : Outcome = made_by c w l in
      rw (
        e,
        kept_own l.table w.table r.table o.table,
        kept_own l.reply w.reply r.reply o.reply,
        kept_own l.out w.out r.out o.out,
        left_own l.delivery w.queue r.stepped.taken v,
        m,
      )
      refl

  ordinary : (w : Ghost) (l : Lent) → Fair definitions c (seen w) l → aside (made_by c w l).stepped.answer ≡ false → Ordinary w l
  ordinary w l (inl p) e =
      let o : Owned l = owned l (holds (all_own l) p.0) in
      let m : made_by c w l ≡ step_own c w (delivered l.delivery w.queue) = made_own c w l o in
      record {
        owns = o;
        came = came l.delivery w.queue p.1;
        made = m;
        goes = rw m at e;
        follows = follow_own w l o p.1 e m;
      }
  ordinary w l (inr h) e = absurd (rw e at h)

  keeps : (w : Ghost) (l : Lent) → Good c dbg en w → (y : Ordinary w l)
      → Kept c dbg en (due_of c dbg en w) (bound_of c dbg en w) w (delivered l.delivery w.queue) (step_own c w (delivered l.delivery w.queue))
  keeps w l g y = own_step w (delivered l.delivery w.queue) g y.came y.goes

  good_kept : (w : Ghost) (l : Lent) → Good c dbg en w → Fair definitions c (seen w) l → Good c dbg en (follow c w l)
  good_kept w l g f =
      by_test (aside (made_by c w l).stepped.answer) (λ e. rw (same_world c w l (held _ e)) g)
      (λ e. let y : Ordinary w l = ordinary w l f e in rw y.follows (keeps w l g y).good)

  due : (w : Ghost) (l : Lent) → Good c dbg en w → Fair definitions c (seen w) l
      → due_of c dbg en w ≡ reported definitions c (seen w) l ++ due_of c dbg en (follow c w l)
  due w l g f =
      by_test (aside (made_by c w l).stepped.answer) (λ e. rw (nothing_told c w l (held _ e), same_world c w l (held _ e)) refl)
      (λ e.
      let y : Ordinary w l = ordinary w l f e in
      rw (y.follows, y.made, lent_own l.set c.set y.owns.set) (keeps w l g y).told)

  refused_end : (w : Ghost) (l : Lent) → Good c dbg en w → T (aside (made_by c w l).stepped.answer) → (b : Bool) → all_own l ≡ b
      → bound_of c dbg en w ≤ bound_of c dbg en w - one b
  refused_end w l g e true o =
      omega (arith, own_end w (delivered l.delivery w.queue) g (rw (made_own c w l (owned l o)) at e))
  refused_end w l g e false o = omega arith

  falls : (w : Ghost) (l : Lent) → Good c dbg en w → Fair definitions c (seen w) l → bound_of c dbg en (follow c w l) ≤ bound_of c dbg en w - one (all_own l)
  falls w l g f =
      by_test (aside (made_by c w l).stepped.answer)
      (λ e. rw (same_world c w l (held _ e)) (refused_end w l g (held _ e) (all_own l) refl))
      (λ e.
      let y : Ordinary w l = ordinary w l f e in
      rw y.follows (at_most (all_own l) _ _ (keeps w l g y).fell))
    where
      at_most : (b : Bool) (i j : ℕ) → i ≤ j - 1 → i ≤ j - one b
      at_most true i j h = h
      at_most false i j h = omega arith

  -- nothing is due where no own step is left
  empty : (w : Ghost) → Good c dbg en w → bound_of c dbg en w ≡ 0 → due_of c dbg en w ≡ []
  empty w g h = go w.session.phase g h
    where
      go : (p : Phase) → GoodAt c dbg en p w → bound_at c dbg en p w ≡ 0 → due_at c dbg en p w ≡ []
      go (P.Packet k) f e = Packet.idle_due c dbg en k w f (omega arith)
      go (P.Response z) f e = refl
      go (P.Switched k) f e = refl
      go (P.Table z) f e = absurd (omega arith)
      go (P.Between k i) f e = absurd (omega arith)
      go (P.Region k z) f e = absurd (omega arith)
      go (P.Ended k) f e = refl

-- ---- the start

-- the plain host hears the opening bytes where it was lent sound things
record Sound (c : Setting) : Type 0 where
  pub set : well_formed true c.set ≡ true
  pub names : well_formed false c.names ≡ true
  pub out : 48 ≤ length c.out
  pub opens : heard_of c ≡ hear c.opening c.set (length c.table) (length c.reply) (length c.bytes) c.bytes

-- else it stops before them, and every own step is refused with 1, 2 or 3
record Stuck (c : Setting) : Type 0 where
  pub opens : heard_of c ≡ stop Stopped
  pub refused : (s : Session) (d t y : List ℕ) → T (aside (step_of s d c.set c.names t y c.out).stepped.answer)

things : (c : Setting) → Sound c ⊎ Stuck c
unfolding hosted step_of
things c =
    by_test (not (well_formed true c.set)) (λ e. inr (record { opens = rw e refl; refused = λ s d t y. rw e tt }))
    (λ e.
    by_test (not (well_formed false c.names)) (λ m. inr (record { opens = rw (e, m) refl; refused = λ s d t y. rw (e, m) tt }))
    (λ m.
    by_test (ltb (length c.out) 48) (λ i. inr (record { opens = rw (e, m, i) refl; refused = λ s d t y. rw (e, m, i) tt }))
    (λ i.
    inl
    (record {
      set = not-false (well_formed true c.set) e;
      names = not-false (well_formed false c.names) m;
      out = ltb-false _ _ i;
      opens = rw (e, m, i) refl;
    }))))

module _ (c : Setting) where
  -- no packet is held
  abbrev w₀ : Ghost
  w₀ = record { session = opened_with c.opening; table = c.table; reply = c.reply; out = c.out; queue = c.bytes; back = [] }

  -- the list of steps with the bytes held
  abbrev Sees : Ghost → World Session → Type 0
  Sees w v = seen w ≡ v

  sees_kept : (w : Ghost) (v : World Session) (l : Lent) → Sees w v → Sees (follow c w l) (next definitions c v l)
  sees_kept w v l e = ap (λ (z : World Session). next definitions c z l) e

-- the opening bytes are heard, and end in en
module _ (c : Setting) (dbg : Debug) (en : Ending) (x : Ready c dbg en) (t : Sound c) (h : (heard_of c).ending ≡ en) where
  good : Good c dbg en (w₀ c)
  good =
      record {
        out = t.out;
        reads = refl;
        size = refl;
        count = refl;
        same = refl;
        part = λ i. absurd (omega arith);
        sound = λ i. absurd (omega arith);
        ends = rw t.opens at h;
      }

  -- what is due at the start is the plain host's whole report
  whole_due : due_of c dbg en (w₀ c) ≡ plain c
  unfolding plain
  whole_due = rw t.opens refl

  module _ (ls : List Lent) (f : Run definitions c (start definitions c) ls) where
    fair : Throughout (follow c) (λ w l. Fair definitions c (seen w) l) (w₀ c) ls
    fair =
        fair_related (follow c) (next definitions c) (Sees c) (sees_kept c) (λ w l. Fair definitions c (seen w) l) (Fair definitions c)
        (λ w v l e h. subst (λ (z : World Session). Fair definitions c z l) (sym e) h) ls (w₀ c) (start definitions c) refl f

    same_reports : outs (follow c) (λ w l. reported definitions c (seen w) l) (w₀ c) ls ≡ reports definitions c (start definitions c) ls
    same_reports =
        outs_related (follow c) (next definitions c) (Sees c) (sees_kept c) (λ w l. reported definitions c (seen w) l) (reported definitions c)
        (λ w v l e. ap (λ (z : World Session). reported definitions c z l) e) ls (w₀ c) (start definitions c) refl

    same_count : counted (follow c) (λ w l. all_own l) (w₀ c) ls ≡ owns definitions c (start definitions c) ls
    same_count =
        counted_related (follow c) (next definitions c) (Sees c) (sees_kept c) (λ w l. all_own l) (λ w l. all_own l) (λ w v l e. refl) ls (w₀ c)
        (start definitions c) refl

    -- a beginning, and the whole once the own steps number the opening bytes and what is behind them
    heard : Fetched definitions c (length c.bytes + behind c dbg c.opening en) ls
    heard =
        record {
          begins = (
            due_of c dbg en (final (follow c) (w₀ c) ls),
            sym whole_due
                ∙ beginning (follow c) (λ w l. reported definitions c (seen w) l) (λ w l. Fair definitions c (seen w) l) (Good c dbg en) (due_of c dbg en)
                (good_kept c dbg en x) (due c dbg en x) ls (w₀ c) good fair
                ∙ ap (λ (l : List Report). l ++ due_of c dbg en (final (follow c) (w₀ c) ls)) same_reports,
          );
          whole =
              λ e.
              sym same_reports
              ∙ sym
              (whole (follow c) (λ w l. reported definitions c (seen w) l) (λ w l. Fair definitions c (seen w) l) (Good c dbg en) (due_of c dbg en)
              (good_kept c dbg en x) (due c dbg en x) (λ w l. all_own l) (bound_of c dbg en) (falls c dbg en x) (empty c dbg en x) ls (w₀ c) good fair
              (rw same_count e))
              ∙ whole_due;
        }

-- ---- it comes to a memory debug

sound_dump : (c : Setting) (dbg : Debug) → (heard_of c).ending ≡ Debugged dbg [] → Sound c
sound_dump c dbg h = go (things c)
  where
    go : Sound c ⊎ Stuck c → Sound c
    go (inl t) = t
    go (inr z) = never dbg [] (rw z.opens at h)

module _ (c : Setting) (dbg : Debug) (p : Premises c dbg) where
  sound : Sound c
  sound = sound_dump c dbg p.opens

  ready : Ready c dbg (Debugged dbg [])
  ready =
      record {
        set = sound.set;
        names = sound.names;
        fit = record { silent = no_response dbg []; asked = λ v b m r e. (cc e, cc e, cc e, cc e); top = p.top };
        safe = p.regions;
      }

  -- the bound is the count of 01
  bound : length c.bytes + behind c dbg c.opening (Debugged dbg []) ≡ enough c dbg
  unfolding enough cost
  bound = rw sub-zero (omega arith)

  dumped : (ls : List Lent) → Run definitions c (start definitions c) ls → Fetched definitions c (enough c dbg) ls
  dumped ls f = subst (λ (n : ℕ). Fetched definitions c n ls) bound (heard c dbg (Debugged dbg []) ready sound p.opens ls f)

-- ---- it stops

-- no memory debug: one of nothing stands for it
abbrev nowhere : Debug
nowhere = debug WI.Bits64 0 0

stopped_fits : Fits nowhere Stopped
stopped_fits =
    record {
      silent = λ e. let y : ◌≡◌ {A = ℕ} 0 1 = cc in omega arith;
      asked = λ v b m r e. never (debug v b m) r (sym e);
      top = omega arith;
    }

-- every own step is refused: nothing is reported
module _ (c : Setting) (z : Stuck c) where
  abbrev AtStart : World Session → Type 0
  AtStart v = v ≡ start definitions c

  refused_at : (l : Lent) → Fair definitions c (start definitions c) l → T (aside (made_by c (w₀ c) l).stepped.answer)
  refused_at l (inl p) =
      rw (made_own c (w₀ c) l (owned l (holds (all_own l) p.0)))
      (z.refused (opened_with c.opening) (delivered l.delivery c.bytes) c.table c.reply)
  refused_at l (inr h) = h

  stays : (v : World Session) (l : Lent) → AtStart v → Fair definitions c v l → AtStart (next definitions c v l)
  stays v l e f =
      ap (λ (y : World Session). next definitions c y l) e
      ∙ ap seen (same_world c (w₀ c) l (refused_at l (subst (λ (y : World Session). Fair definitions c y l) e f)))

  silent : (v : World Session) (l : Lent) → AtStart v → Fair definitions c v l → ◌≡◌ {A = List Report} [] (reported definitions c v l ++ [])
  silent v l e f =
      rw (e, nothing_told c (w₀ c) l (refused_at l (subst (λ (y : World Session). Fair definitions c y l) e f))) refl

  no_report : plain c ≡ []
  unfolding plain
  no_report = rw z.opens (reports_stop c.opening c.mem c.names)

  module _ (ls : List Lent) (f : Run definitions c (start definitions c) ls) where
    none_told : ◌≡◌ {A = List Report} [] (reports definitions c (start definitions c) ls ++ [])
    none_told = beginning (next definitions c) (reported definitions c) (Fair definitions c) AtStart (λ v. []) stays silent ls (start definitions c) refl f

    stuck : (n : ℕ) → Fetched definitions c n ls
    stuck n =
        record {
          begins = ([], no_report ∙ none_told);
          whole = λ e. sym (append-nil (reports definitions c (start definitions c) ls)) ∙ sym none_told ∙ sym no_report;
        }

module _ (c : Setting) (e : (heard_of c).ending ≡ Stopped) (ls : List Lent) (f : Run definitions c (start definitions c) ls) where
  stopped : Fetched definitions c (length c.bytes) ls
  stopped = go (things c)
    where
      go : Sound c ⊎ Stuck c → Fetched definitions c (length c.bytes) ls
      go (inl t) =
          subst (λ (n : ℕ). Fetched definitions c n ls) (add-zero (length c.bytes))
          (heard c nowhere Stopped
          (record { set = t.set; names = t.names; fit = stopped_fits; safe = λ i l. absurd (omega arith) }) t e ls f)
      go (inr z) = stuck c z ls f (length c.bytes)

-- ---- the theorem

pub fetch : Demand definitions
fetch c (dumps dbg p) ls f = dumped c dbg p ls f
fetch c (stops e) ls f = stopped c e ls f

-- so, of any host of which it holds, each selected region came out in table order, byte for byte as the memory holds it, and the end told one memory read
-- for the table, one a chunk
pub means : (h : Host) → Demand h → (c : Setting) (dbg : Debug) → Premises c dbg → (ls : List Lent) → Run h c (start h c) ls
    → enough c dbg ≤ owns h c (start h c) ls → Meant c dbg (reports h c (start h c) ls)
means h d c dbg p ls f e = rw ((d c (dumps dbg p) ls f).whole e) (plain_meant c dbg [] p.opens)

-- the count of 01, the memory reads counted in the plain host's own report
pub enough_counts : (c : Setting) (dbg : Debug) → Premises c dbg
    → enough c dbg
    ≡ length c.bytes + dbg.size + region_bytes (field_in dbg) (table_in c.mem dbg) (selected_in c.mem c.names dbg)
    + 2 * length (selected_in c.mem c.names dbg)
    + 2 * reads_in (plain c)
unfolding enough
enough_counts c dbg p = rw (plain_meant c dbg [] p.opens).reads refl
