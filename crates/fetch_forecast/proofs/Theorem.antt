-- The theorem: of any list of steps that finishes (3), the forecast of the table, wherever in the list it is decoded, is what the list comes to. By induction
-- on the list over the invariant of one step. Assumes nothing.
use mathlib.Core.Path.{◌≡◌, refl, sym, ap, subst, ◌∙◌}
use mathlib.Core.Logic.{⊎_elim, ◌⊎◌, inl, inr}
use mathlib.Core.Bool.{true, false}
use mathlib.Core.List.{List, [], ◌∷◌, ◌++◌, map}
use Prim.Native.Nat.{ℕ, ◌+◌}
use native.Mathlib.Omega.{arith}
use native.Mathlib.Nat.{add-zero, add_assoc}
use lib.Dec.{T}
use lib.ListN.{take}
use Rattle.base.proofs.Tests.{differ, holds}
use Rattle.field.specs.Field.{field_size}
use Rattle.entry.specs.declared.RamdumpTable64.{RamdumpTable64}
use Rattle.verdict.specs.declared.Opening.{Opening}
use Rattle.forecast_sums.proofs.Laws.{needs_are}
use Rattle.session.specs.declared.Phase.{Phase}
use Rattle.session.specs.declared.Phase.TheVariants as P
use Rattle.session.specs.declared.Session.{Session}
use Rattle.session.specs.declared.Answer.{Answer}
use Rattle.session.specs.declared.Answer.TheVariants as A
use Rattle.session.specs.Outcome.{is_ended}
use Rattle.session.specs.Step.{step_of}
use Rattle.steps.specs.Steps.{final, Throughout}
use Rattle.steps.proofs.Steps.{outs_append, throughout_first, throughout_second}
use Rattle.fetch.specs.Plain.{Report, byte, finished, Setting}
use Rattle.fetch.specs.Device.{definitions, Lent, lent, delivered, kept, reports_for, World, start, made}
use Rattle.fetch.specs.Claim.{reports}
use Rattle.fetch.specs.Meaning.{how_many}
use Rattle.fetch.proofs.Sent.{many_append}
use Rattle.fetch.proofs.Counter.{is_end, after, says, turned_over, all_over, Calm}
use Rattle.fetch.proofs.Lent.{kept_lent, lent_own}
use Rattle.fetch_forecast.specs.Claim.{is_opened, is_byte, DecodesIn, Decodes, Lends, Foretells}
use Rattle.fetch_forecast.proofs.Step.{Kept, calm, Done, Goes, step_goes}
use Rattle.verdict.specs.declared.Finish.TheVariants as Finish

-- ---- a report among others

abbrev In : Report → List Report → Type 0
In x [] = ⊥
In x (y ∷ l) = (x ≡ y) ⊎ In x l

in_end : (l m : List Report) (x : Report) → In x (l ++ (x ∷ m))
in_end [] m x = inl refl
in_end (y ∷ l) m x = inr (in_end l m x)

in_append : (l m : List Report) (x : Report) → In x (l ++ m) → In x l ⊎ In x m
in_append [] m x h = inr h
in_append (y ∷ l) m x h = ⊎_elim (λ e. inl (inl e)) (λ e. ⊎_elim (λ i. inl (inr i)) (λ i. inr i) (in_append l m x e)) h

-- an end is among a step's reports where it is the step's answer
no_end : {X : Type 0} (x : Report) (k : ℕ) → is_end x ≡ false → (finished Finish.Dumped k ≡ x) ⊎ ⊥ → X
no_end x k h e = ⊎_elim (λ i. differ (sym h ∙ sym (ap is_end i))) (λ i. absurd i) e

no_end_bytes : {X : Type 0} (l : List ℕ) (k : ℕ) → In (finished Finish.Dumped k) (map byte l) → X
no_end_bytes [] k h = absurd h
no_end_bytes (b ∷ l) k h = ⊎_elim (λ i. differ (sym (ap is_end i))) (λ i. no_end_bytes l k i) h

in_told : (a : Answer) (d set o : List ℕ) (k : ℕ) → In (finished Finish.Dumped k) (reports_for a d set o) → a ≡ A.Finished Finish.Dumped k
in_told A.Go d set o k h = absurd h
in_told (A.Send j) d set o k h = no_end _ k refl h
in_told (A.Image x j) d set o k h = no_end _ k refl h
in_told (A.Open i) d set o k h = no_end _ k refl h
in_told (A.Bytes j) d set o k h = no_end_bytes (take j d) k h
in_told A.EmptyRead d set o k h = no_end _ k refl h
in_told (A.Close i) d set o k h = no_end _ k refl h
in_told (A.Finished how r) d set o k h = ⊎_elim (λ (e : finished Finish.Dumped k ≡ finished how r). cc) (λ i. absurd i) h
in_told (A.Refused why) d set o k h = absurd h

-- a session that has its table has not ended
has_not_ended : {X : Type 0} (f : ℕ) (p : Phase) (b : List ℕ) (es : List RamdumpTable64) → DecodesIn f p b es → is_ended p ≡ true → X
has_not_ended f (P.Packet h) b es e i = absurd e
has_not_ended f (P.Response x) b es e i = absurd e
has_not_ended f (P.Switched k) b es e i = absurd e
has_not_ended f (P.Table x) b es e i = absurd e
has_not_ended f (P.Between k j) b es e i = differ i
has_not_ended f (P.Region k x) b es e i = differ i
has_not_ended f (P.Ended k) b es e i = absurd e

module _ (c : Setting) where
  abbrev u : Opening
  u = c.opening

  abbrev all : World Session → List Lent → List Report
  all = reports definitions c

  abbrev Fit : World Session → List Lent → Type 0
  Fit w ls = Throughout (after c) (Lends definitions c) w ls

  -- so many regions opened and bytes handed out before
  abbrev Good : World Session → ℕ → ℕ → Type 0
  Good w n m = Kept u c.names w.state w.table n m

  good_calm : (w : World Session) (n m : ℕ) → Good w n m → Calm w.state
  good_calm w n m g = calm u c.names (field_size w.state.width) w.state.phase w.table n m w.state.reads g.left

  -- ---- one step

  went : (w : World Session) (l : Lent) (n m : ℕ) (g : Good w n m) → Lends definitions c w l
      → Goes u c.names w.state w.table n m g.opening (delivered l.delivery w.queue) (lent l.set c.set) (lent l.names c.names)
      (lent l.table w.table) (lent l.reply w.reply) (lent l.out w.out) (kept l.table w.table) (kept_lent l.table w.table)
      w.state.phase
      (step_of w.state (delivered l.delivery w.queue) (lent l.set c.set) (lent l.names c.names) (lent l.table w.table)
      (lent l.reply w.reply) (lent l.out w.out))
  went w l n m g h =
      step_goes u c.names w.state w.table n m g.opening (delivered l.delivery w.queue) (lent l.set c.set) (lent l.names c.names)
      (lent l.table w.table) (lent l.reply w.reply) (lent l.out w.out) (kept l.table w.table) (kept_lent l.table w.table)
      g.left (⊎_elim (λ e. inl e) (λ e. inr (lent_own l.names c.names (holds _ e.0), lent_own l.table w.table (holds _ e.1))) h)

  -- an end is told by a step that ends the session
  told_last : (w : World Session) (l : Lent) (n m : ℕ) → Good w n m → Lends definitions c w l → (k : ℕ) → In (finished Finish.Dumped k) (says c w l)
      → is_ended (after c w l).state.phase ≡ true
  told_last w l n m g h k i = (went w l n m g h).last k (in_told (made definitions c w l).answer _ _ _ k i)

  -- ---- a list

  along : (ls : List Lent) (w : World Session) (n m : ℕ) → Good w n m → Fit w ls
      → Good (final (after c) w ls) (n + how_many is_opened (all w ls)) (m + how_many is_byte (all w ls))
  unfolding how_many
  along [] w n m g h = rw (add-zero n, add-zero m) g
  along (l ∷ ls) w n m g h =
      rw (many_append is_opened (says c w l) (all (after c w l) ls), many_append is_byte (says c w l) (all (after c w l) ls), ← add_assoc n, ← add_assoc m)
      (along ls (after c w l) _ _ (went w l n m g h.0).kept h.1)

  -- what has ended stays so
  stays_over : (ls : List Lent) (w : World Session) → Calm w.state → is_ended w.state.phase ≡ true → is_ended (final (after c) w ls).state.phase ≡ true
  stays_over [] w k h = h
  stays_over (l ∷ ls) w k h =
      let o = turned_over c w l k h in
      stays_over ls (after c w l) (rw o.0 k) (rw o.0 h)

  -- behind an end the session has ended
  over_after : (ls : List Lent) (w : World Session) (n m : ℕ) → Good w n m → Fit w ls → (k : ℕ) → In (finished Finish.Dumped k) (all w ls)
      → is_ended (final (after c) w ls).state.phase ≡ true
  over_after [] w n m g h k i = absurd i
  over_after (l ∷ ls) w n m g h k i =
      let x = (went w l n m g h.0).kept in
      ⊎_elim (λ e. stays_over ls (after c w l) (good_calm (after c w l) _ _ x) (told_last w l n m g h.0 k e)) (λ e. over_after ls (after c w l) _ _ x h.1 k e)
      (in_append (says c w l) (all (after c w l) ls) (finished Finish.Dumped k) i)

  -- from where the table is decoded on, to the end
  finishes : (es : List RamdumpTable64) (k : ℕ) (ls : List Lent) (w : World Session) (n m : ℕ) → Good w n m
      → Decodes w.state w.table es ⊎ T (is_ended w.state.phase) → Fit w ls → In (finished Finish.Dumped k) (all w ls)
      → Done u c.names es (n + how_many is_opened (all w ls)) (m + how_many is_byte (all w ls)) k
  unfolding how_many
  finishes es k [] w n m g t h i = absurd i
  finishes es k (l ∷ ls) w n m g t h i =
      let x = went w l n m g h.0 in
      let y : List Report = all (after c w l) ls in
      ⊎_elim
      (λ (e : Decodes w.state w.table es).
      ⊎_elim
      (λ (j : In (finished Finish.Dumped k) (says c w l)).
      let a : (made definitions c w l).answer ≡ A.Finished Finish.Dumped k = in_told (made definitions c w l).answer _ _ _ k j in
      let q : says c w l ≡ finished Finish.Dumped k ∷ [] =
      ap (λ (r : Answer). reports_for r (delivered l.delivery w.queue) (lent l.set c.set) (made definitions c w l).out) a in
      let z : y ≡ [] = all_over c ls (after c w l) (good_calm (after c w l) _ _ x.kept) (x.last k a) in
      rw (q, z, add-zero n, add-zero m) (x.ends k a es e))
      (λ (j : In (finished Finish.Dumped k) y).
      rw (many_append is_opened (says c w l) y, many_append is_byte (says c w l) y, ← add_assoc n, ← add_assoc m)
      (finishes es k ls (after c w l) _ _ x.kept (x.table es e) h.1 j))
      (in_append (says c w l) y (finished Finish.Dumped k) i))
      (λ (e : T (is_ended w.state.phase)).
      let z : all w (l ∷ ls) ≡ [] = all_over c (l ∷ ls) w (good_calm w n m g) (holds _ e) in
      absurd (subst (In (finished Finish.Dumped k)) z i))
      t

pub foretold : Foretells definitions Decodes
unfolding how_many
foretold c before behind h es t regions bytes reads e l m k r =
    let s : World Session = start definitions c in
    let w : World Session = final (after c) s before in
    let x : List Report = all c s before in
    let y : List Report = all c w behind in
    let b = throughout_first (after c) (Lends definitions c) before behind s h in
    let a = throughout_second (after c) (Lends definitions c) before behind s h in
    let v : all c s (before ++ behind) ≡ x ++ y = outs_append (after c) (says c) before behind s in
    let o : Kept c.opening c.names s.state s.table 0 0 = record { opening = refl; left = (refl, refl, refl) } in
    let g = along c before s 0 0 o b in
    let i : In (finished Finish.Dumped k) (x ++ y) = subst (In (finished Finish.Dumped k)) (sym r ∙ v) (in_end l m (finished Finish.Dumped k)) in
    let d : Done c.opening c.names es (0 + how_many is_opened x + how_many is_opened y) (0 + how_many is_byte x + how_many is_byte y) k =
    ⊎_elim (λ (j : In (finished Finish.Dumped k) x). has_not_ended _ w.state.phase w.table es t (over_after c before s 0 0 o b k j))
    (λ (j : In (finished Finish.Dumped k) y). finishes c es k behind w _ _ g (inl t) a j) (in_append x y (finished Finish.Dumped k) i) in
    let q = needs_are _ es c.names regions bytes reads e in
    record {
      regions_are = rw (v, many_append is_opened x y) (omega (arith, d.regions, q.0));
      bytes_are = rw (v, many_append is_byte x y) (omega (arith, d.bytes, q.1));
      reads_are = d.reads ∙ sym q.2;
    }
