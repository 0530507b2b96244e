-- The counter of memory reads: after any list of steps from the opening, fair or not, it is the number of memory reads that the list reports,
-- and an end comes last and carries it. By the branches of a step, then by induction on the list. Assumes nothing.
use mathlib.Core.Path.{◌≡◌, refl, sym, ap, subst, ◌∙◌}
use mathlib.Core.Bool.{Bool, true, false, not, ◌||◌}
use mathlib.Core.List.{List, [], ◌∷◌, ◌++◌, map}
use Prim.Native.Nat.{ℕ, ◌+◌, ◌-◌, ◌^◌, min}
use native.Mathlib.Omega.{arith}
use native.Mathlib.Nat.{add-zero, add_assoc, zero-add}
use lib.Dec.{eqb, ltb, leb}
use lib.ListN.{length, take, drop}
use Rattle.bundle.specs.Bundle.{well_formed}
use Rattle.field.specs.Field.{field_size}
use Rattle.entry.specs.Entry.{entry_of, filename_of, entries_in}
use Rattle.filename.specs.Filename.{open_check, after_open_check}
use Rattle.selection.specs.Selection.{next_of}
use Rattle.packet.specs.Packet.{length_field, bad_length}
use Rattle.build.specs.Build.{size_of, front}
use Rattle.build.specs.declared.Request.{Request}
use Rattle.build.specs.declared.Request.TheVariants as Q
use Rattle.verdict.specs.Verdict.{verdict_of}
use Rattle.verdict.specs.declared.Verdict.{Verdict}
use Rattle.verdict.specs.declared.Verdict.TheVariants as W
use Rattle.session.specs.declared.Filling.{Filling}
use Rattle.session.specs.declared.Region.{Region}
use Rattle.session.specs.declared.Phase.{Phase}
use Rattle.session.specs.declared.Phase.TheVariants as P
use Rattle.session.specs.declared.Session.{Session}
use Rattle.session.specs.declared.Answer.{Answer}
use Rattle.session.specs.declared.Answer.TheVariants as A
use Rattle.session.specs.Outcome.{Outcome, outcome, gives, is_ended}
use Rattle.session.specs.PacketPhase.{keep, acted, whole_of, sized_of, packet_of}
use Rattle.session.specs.FillingPhase.{response_of, switched_of, table_of}
use Rattle.session.specs.BetweenPhase.{open_of, between_of}
use Rattle.session.specs.RegionPhase.{past_end, name_in, next_chunk, begun_of, ask_of, hand_of, region_of}
use Rattle.session.specs.Limits.{limit_of}
use Rattle.session.specs.Step.{on_phase, step_of}
use Rattle.steps.specs.Steps.{one, final}
use Rattle.fetch.specs.Plain.{Report, sent, image, opened, byte, empty_read, closed, finished, Setting}
use Rattle.fetch.specs.Device.{definitions, Lent, lent, delivered, World, start, next, reported}
use Rattle.fetch.specs.Claim.{reports}
use Rattle.fetch.specs.Meaning.{read_in, how_many, reads_in}
use Rattle.base.proofs.Tests.{split, differ}
use Rattle.fetch.proofs.Ghost.{told_by}
use Rattle.build.proofs.Laws.{take_front}
use Rattle.fetch.proofs.Sent.{asks, asks_read, many_append, reads_bytes}
use Rattle.fetch.proofs.Verdict.{Sane, sane}
use Rattle.std.specs.Prelude.{Result, Ok, Err}
use Rattle.refusal.specs.declared.Refusal.{Refusal}
use Rattle.verdict.specs.declared.Finish.{Finish}

-- ---- what a list of reports tells, k memory reads having been sent before it: an end carries those sent before it, and comes last

abbrev EndsAt : ℕ → Report → List Report → Type 0
EndsAt k (sent p) l = Unit
EndsAt k (image p) l = Unit
EndsAt k (opened i) l = Unit
EndsAt k (byte b) l = Unit
EndsAt k empty_read l = Unit
EndsAt k (closed i) l = Unit
EndsAt k (finished how r) l = (r ≡ k) × (l ≡ [])

abbrev Tally : ℕ → List Report → Type 0
Tally k [] = Unit
Tally k (r ∷ l) = EndsAt k r l × Tally (k + one (read_in r)) l

-- whether an end is among them
abbrev pub is_end : Report → Bool
is_end (sent p) = false
is_end (image p) = false
is_end (opened i) = false
is_end (byte b) = false
is_end empty_read = false
is_end (closed i) = false
is_end (finished how r) = true

abbrev has_end : List Report → Bool
has_end [] = false
has_end (r ∷ l) = is_end r || has_end l

-- where the one has an end the other is empty
told_append : (l m : List Report) (k : ℕ) → Tally k l → Tally (k + reads_in l) m → (has_end l ≡ true → m ≡ []) → Tally k (l ++ m)
unfolding how_many
told_append [] m k f h g = rw add-zero at h
told_append (x ∷ l) m k f h g =
    (first x f.0 g, told_append l m (k + one (read_in x)) f.1 (rw (sym (add_assoc k (one (read_in x)) (reads_in l))) at h) (later x g))
  where
    first : (x : Report) → EndsAt k x l → (is_end x || has_end l ≡ true → m ≡ []) → EndsAt k x (l ++ m)
    first (sent p) e g = tt
    first (image p) e g = tt
    first (opened i) e g = tt
    first (byte b) e g = tt
    first empty_read e g = tt
    first (closed i) e g = tt
    first (finished how r) e g = (e.0, rw e.1 (g refl))

    later : (x : Report) → (is_end x || has_end l ≡ true → m ≡ []) → has_end l ≡ true → m ≡ []
    later (sent p) g e = g e
    later (image p) g e = g e
    later (opened i) g e = g e
    later (byte b) g e = g e
    later empty_read g e = g e
    later (closed i) g e = g e
    later (finished how r) g e = g refl

told_bytes_lem : (l : List ℕ) (k : ℕ) → Tally k (map byte l)
told_bytes_lem [] k = tt
told_bytes_lem (b ∷ l) k = (tt, told_bytes_lem l (k + 0))

no_end : (l : List ℕ) → has_end (map byte l) ≡ false
no_end [] = refl
no_end (b ∷ l) = no_end l

told_end : (l m : List Report) (k : ℕ) (how : Finish) (r : ℕ) → Tally k (l ++ (finished how r ∷ m)) → (r ≡ k + reads_in l) × (m ≡ [])
unfolding how_many
told_end [] m k how r f = (f.0.0 ∙ sym (add-zero k), f.0.1)
told_end (x ∷ l) m k how r f =
    let y = told_end l m (k + one (read_in x)) how r f.1 in
    (y.0 ∙ add_assoc k (one (read_in x)) (reads_in l), y.1)

-- ---- one step

-- while packets are read, no memory read was sent
abbrev pub CalmIn : Phase → ℕ → Type 0
CalmIn (P.Packet h) r = r ≡ 0
CalmIn (P.Response x) r = Unit
CalmIn (P.Switched k) r = Unit
CalmIn (P.Table x) r = Unit
CalmIn (P.Between k i) r = Unit
CalmIn (P.Region k x) r = Unit
CalmIn (P.Ended k) r = Unit

abbrev pub Calm : Session → Type 0
Calm s = CalmIn s.phase s.reads

-- a step from s counts what it sends
record Counts-sent (s : Session) (d set : List ℕ) (r : Outcome) : Type 0 where
  pub reads : r.stepped.session.reads ≡ s.reads + reads_in (told_by r d set)
  pub told : Tally s.reads (told_by r d set)
  pub calm : Calm r.stepped.session
  pub ends : has_end (told_by r d set) ≡ true → is_ended r.stepped.session.phase ≡ true

module _ (s : Session) (d set : List ℕ) where
  abbrev Counts : Outcome → Type 0
  Counts r = Counts-sent s d set r

  -- nothing is reported
  silent : (z : Session) (n : ℕ) (a : Answer) (t y o : List ℕ) → z.reads ≡ s.reads → Calm z → told_by (outcome (gives z n a) t y o) d set ≡ []
      → Counts (outcome (gives z n a) t y o)
  unfolding how_many
  silent z n a t y o e k h = record { reads = rw (h, add-zero) e; told = rw h tt; calm = k; ends = rw h (λ f. differ f) }

  -- one report that is no packet
  single : (x : Report) (z : Session) (n : ℕ) (a : Answer) (t y o : List ℕ) → z.reads ≡ s.reads → Calm z
      → told_by (outcome (gives z n a) t y o) d set ≡ x ∷ [] → read_in x ≡ false → is_end x ≡ false → EndsAt s.reads x []
      → Counts (outcome (gives z n a) t y o)
  unfolding how_many
  single x z n a t y o e k h f i g =
      record { reads = rw (h, f) (e ∙ omega arith); told = rw h (g, tt); calm = k; ends = rw (h, i) (λ f. differ f) }

  -- the end
  ends_here : (how : Finish) (z : Session) (n : ℕ) (t y o : List ℕ) → z.reads ≡ s.reads → is_ended z.phase ≡ true → Calm z
      → Counts (outcome (gives z n (A.Finished how s.reads)) t y o)
  unfolding how_many
  ends_here how z n t y o e f k = record { reads = e ∙ omega arith; told = ((refl, refl), tt); calm = k; ends = λ i. f }

  -- a packet
  sends : (q : Request) (z : Session) (n : ℕ) (t y o : List ℕ) → z.reads ≡ s.reads + one (asks q) → Calm z
      → Counts (outcome (gives z n (A.Send (size_of q))) t y (front q o))
  unfolding how_many
  sends q z n t y o e k = record { reads = rw (take_front q o, asks_read q, add-zero) e; told = (tt, tt); calm = k; ends = λ f. differ f }

  -- ---- packet: no memory read was sent before

  module _ (none : s.reads ≡ 0) (t y o : List ℕ) where
    acted_counts : (n : ℕ) (w : List ℕ) (v : Result Verdict Refusal) → Sane set (length t) v → Counts (acted s n w t y o v)
    acted_counts n w (Ok (W.Reply q)) h = sends q _ n t y o (rw (h, add-zero) refl) none
    acted_counts n w (Ok (W.Image x k)) h = single (image (take k (drop x set))) _ n (A.Image x k) t y o refl none refl refl refl tt
    acted_counts n w (Ok W.Pass) h = silent _ n A.Go t y o refl none refl
    acted_counts n w (Ok (W.Finish how)) h = ends_here how _ n t y o refl refl tt
    acted_counts n w (Ok (W.Respond c k)) h = sends (Q.ExecuteData c) _ n t y o (sym (add-zero s.reads)) tt
    acted_counts n w (Ok (W.Debug x a k)) h = sends (Q.MemRead x a k) _ n t y o (rw none refl) tt
    acted_counts n w (Err why) h = silent _ n (A.Refused why) t y o refl tt refl

    packet_counts : (h : ℕ) → Counts (packet_of s h d set t y o)
    unfolding packet_of sized_of whole_of
    packet_counts h =
        let w : List ℕ = keep s.window h d in
        let n : ℕ = min (length_field w - h) (length d) in
        let v : List ℕ = keep s.window h (take n d) in
        split Counts (ltb (h + length d) 8) (λ e. silent _ (length d) A.Go t y o refl none refl)
        (λ e.
        split Counts (bad_length (length_field w)) (λ m. silent _ (8 - h) (A.Refused Refusal.PacketLength) t y o refl tt refl)
        (λ m.
        split Counts (ltb (h + n) (length_field w)) (λ i. silent _ n A.Go t y o refl none refl)
        (λ i.
        acted_counts n v (verdict_of s.opening set (length t) (length y) (take (length_field v) v))
        (sane s.opening set (length t) (length y) (take (length_field v) v)))))

  -- ---- the other phases

  module _ (calm : Calm s) (names t y o : List ℕ) where
    -- the bytes of the session's numbers
    abbrev f : ℕ
    f = field_size s.width

    response_counts : (x : Filling) → Counts (response_of s x d t y o)
    unfolding response_of
    response_counts x =
        split Counts (ltb (x.filled + min (x.declared - x.filled) (length d)) x.declared) (λ e. silent _ _ A.Go t _ o refl tt refl)
        (λ e. sends Q.SwitchMode _ _ t _ o (sym (add-zero s.reads)) tt)

    switched_counts : (k : ℕ) → Counts (switched_of s k t y o)
    unfolding switched_of
    switched_counts k = ends_here Finish.Reply _ 0 t y o refl refl tt

    table_counts : (x : Filling) → Counts (table_of s x d t y o)
    unfolding table_of
    table_counts x =
        split Counts (ltb (x.filled + min (x.declared - x.filled) (length d)) x.declared) (λ e. silent _ _ A.Go _ y o refl tt refl)
        (λ e. silent _ _ A.Go _ y o refl tt refl)

    opening_counts : (k i : ℕ) (e : List ℕ) (v : Result Unit Refusal) → Counts (outcome (open_of f s k i e v) t y o)
    opening_counts k i e (Ok tt) = single (opened i) _ 0 (A.Open i) t y o refl tt refl refl refl tt
    opening_counts k i e (Err why) = silent _ 0 (A.Refused why) t y o refl tt refl

    between_counts : (k from : ℕ) → Counts (outcome (between_of f s k from names t) t y o)
    unfolding between_of
    between_counts k from =
        let i : ℕ = next_of f names t (entries_in f k - from) from in
        split (λ v. Counts (outcome v t y o)) (ltb i (entries_in f k))
        (λ e. opening_counts k i (entry_of f t i) (open_check (filename_of f (entry_of f t i))))
        (λ e. ends_here Finish.Dumped _ 0 t y o refl refl tt)

    module _ (k : ℕ) (x : Region) where
      next_counts : Counts (next_chunk s k x t y o)
      unfolding next_chunk
      next_counts =
          split Counts (leb x.len x.done) (λ e. single (closed x.entry) _ 0 (A.Close x.entry) t y o refl tt refl refl refl tt)
          (λ e. sends (Q.MemRead s.width _ _) _ 0 t y o (omega arith) tt)

      begun_counts : (v : Result Unit Refusal) → Counts (begun_of s k x t y o v)
      begun_counts (Ok tt) =
          split Counts (ltb (256 ^ f) (x.base + x.len)) (λ e. silent _ 0 (A.Refused (past_end s.width)) t y o refl tt refl) (λ e. next_counts)
      begun_counts (Err why) = silent _ 0 (A.Refused why) t y o refl tt refl

      ask_counts : Counts (ask_of s k x t y o)
      unfolding ask_of
      ask_counts =
          split Counts (eqb x.done 0) (λ e. begun_counts (after_open_check (name_in s.width t x))) (λ e. next_counts)

      hand_counts : Counts (hand_of s k x d t y o)
      unfolding hand_of
      hand_counts =
          split Counts (eqb (length d) 0) (λ e. silent s 0 A.Go t y o refl calm refl)
          (λ e.
          record {
            reads = rw (reads_bytes (take (min x.outstanding (length d)) d), add-zero) refl;
            told = told_bytes_lem (take (min x.outstanding (length d)) d) s.reads;
            calm = tt;
            ends = rw (no_end (take (min x.outstanding (length d)) d)) (λ f. differ f);
          })

      region_counts : Counts (region_of s k x d t y o)
      unfolding region_of
      region_counts =
          split Counts x.due (λ e. single empty_read _ 0 A.EmptyRead t y o refl tt refl refl refl tt)
          (λ e. split Counts (eqb x.outstanding 0) (λ i. ask_counts) (λ i. hand_counts))

    -- ---- the step

    phase_counts : (p : Phase) → CalmIn p s.reads → Counts (on_phase s p d set names t y o)
    phase_counts (P.Packet h) e = packet_counts e t y o h
    phase_counts (P.Response x) e = response_counts x
    phase_counts (P.Switched k) e = switched_counts k
    phase_counts (P.Table x) e = table_counts x
    phase_counts (P.Between k i) e = between_counts k i
    phase_counts (P.Region k x) e = region_counts k x
    phase_counts (P.Ended k) e = silent s 0 (A.Refused Refusal.Ended) t y o refl calm refl

    untouched_counts : (why : Refusal) → Counts (outcome (gives s 0 (A.Refused why)) t y o)
    untouched_counts why = silent s 0 (A.Refused why) t y o refl calm refl

    step_counts : Counts (step_of s d set names t y o)
    unfolding step_of
    step_counts =
        split Counts (not (well_formed true set)) (λ e. untouched_counts Refusal.ImageSet)
        (λ e.
        split Counts (not (well_formed false names)) (λ m. untouched_counts Refusal.NameList)
        (λ m.
        split Counts (ltb (length o) 48) (λ i. untouched_counts Refusal.OutBuffer)
        (λ i.
        split Counts (is_ended s.phase) (λ j. untouched_counts Refusal.Ended)
        (λ j. split Counts (limit_of s t y) (λ k. untouched_counts Refusal.Limit) (λ k. phase_counts s.phase calm)))))

    -- an ended session stays as it is, and nothing is reported
    abbrev Over : Outcome → Type 0
    Over r = (r.stepped.session ≡ s) × (told_by r d set ≡ [])

    step_over : is_ended s.phase ≡ true → Over (step_of s d set names t y o)
    unfolding step_of
    step_over h =
        split Over (not (well_formed true set)) (λ e. (refl, refl))
        (λ e.
        split Over (not (well_formed false names)) (λ m. (refl, refl))
        (λ m.
        split Over (ltb (length o) 48) (λ i. (refl, refl))
        (λ i. split Over (is_ended s.phase) (λ j. (refl, refl)) (λ j. differ (sym j ∙ h)))))

-- ---- any step of a list, whatever it is lent

module _ (c : Setting) where
  abbrev pub after : World Session → Lent → World Session
  after = next definitions c

  abbrev pub says : World Session → Lent → List Report
  says = reported definitions c

  record Turned (w : World Session) (l : Lent) : Type 0 where
    pub reads : (after w l).state.reads ≡ w.state.reads + reads_in (says w l)
    pub told : Tally w.state.reads (says w l)
    pub calm : Calm (after w l).state
    pub ends : has_end (says w l) ≡ true → is_ended (after w l).state.phase ≡ true

  turned : (w : World Session) (l : Lent) → Calm w.state → Turned w l
  turned w l k =
      let r =
      step_counts w.state (delivered l.delivery w.queue) (lent l.set c.set) k (lent l.names c.names) (lent l.table w.table)
      (lent l.reply w.reply) (lent l.out w.out) in
      record { reads = r.reads; told = r.told; calm = r.calm; ends = r.ends }

  counts_from : (ls : List Lent) (w : World Session) → Calm w.state
      → (final after w ls).state.reads ≡ w.state.reads + reads_in (reports definitions c w ls)
  unfolding how_many
  counts_from [] w k = sym (add-zero w.state.reads)
  counts_from (l ∷ ls) w k =
      let r = turned w l k in
      let rest : List Report = reports definitions c (after w l) ls in
      counts_from ls (after w l) r.calm ∙ ap (λ (n : ℕ). n + reads_in rest) r.reads
      ∙ add_assoc w.state.reads (reads_in (says w l)) (reads_in rest) ∙ ap (λ (n : ℕ). w.state.reads + n) (sym (many_append read_in (says w l) rest))

  pub turned_over : (w : World Session) (l : Lent) → Calm w.state → is_ended w.state.phase ≡ true
      → ((after w l).state ≡ w.state) × (says w l ≡ [])
  turned_over w l k h =
      step_over w.state (delivered l.delivery w.queue) (lent l.set c.set) k (lent l.names c.names) (lent l.table w.table)
      (lent l.reply w.reply) (lent l.out w.out) h

  pub all_over : (ls : List Lent) (w : World Session) → Calm w.state → is_ended w.state.phase ≡ true → reports definitions c w ls ≡ []
  all_over [] w k h = refl
  all_over (l ∷ ls) w k h =
      let o = turned_over w l k h in
      rw o.1 (all_over ls (after w l) (rw o.0 k) (rw o.0 h))

  told_from : (ls : List Lent) (w : World Session) → Calm w.state → Tally w.state.reads (reports definitions c w ls)
  told_from [] w k = tt
  told_from (l ∷ ls) w k =
      let r = turned w l k in
      let rest : List Report = reports definitions c (after w l) ls in
      told_append (says w l) rest w.state.reads r.told (subst (λ (n : ℕ). Tally n rest) r.reads (told_from ls (after w l) r.calm))
      (λ e. all_over ls (after w l) r.calm (r.ends e))

  module _ (ls : List Lent) where
    abbrev all : List Report
    all = reports definitions c (start definitions c) ls

    -- the counter is the number of memory reads that were sent since the session was opened
    pub counter : (final after (start definitions c) ls).state.reads ≡ reads_in all
    counter = counts_from ls (start definitions c) refl ∙ zero-add (reads_in all)

    -- an end comes last, with the number of those sent before it
    pub end_counts : (l m : List Report) (how : Finish) (r : ℕ) → all ≡ l ++ (finished how r ∷ m) → (r ≡ reads_in l) × (m ≡ [])
    end_counts l m how r e =
        let y = told_end l m 0 how r (rw e at (told_from ls (start definitions c) refl)) in
        (y.0 ∙ zero-add (reads_in l), y.1)

    -- so it carries the counter
    pub end_reads : (l m : List Report) (how : Finish) (r : ℕ) → all ≡ l ++ (finished how r ∷ m)
        → r ≡ (final after (start definitions c) ls).state.reads
    unfolding how_many
    end_reads l m how r e =
        let y = end_counts l m how r e in
        y.0 ∙ sym (counter ∙ ap reads_in e ∙ many_append read_in l (finished how r ∷ m) ∙ rw y.1 (add-zero (reads_in l)))
