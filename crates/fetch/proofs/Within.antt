-- Every step keeps within what it was lent, whatever session and things: by the branches of a step, then for each step of a list. The limits (18) keep a
-- table's entries within its buffer, 3 a packet within the out buffer, and the verdict an image within its set. Assumes nothing.
use mathlib.Core.Path.{◌≡◌, refl, sym}
use mathlib.Core.Bool.{true, false, not, ◌||◌}
use mathlib.Core.List.{List, [], ◌∷◌}
use Prim.Native.Nat.{ℕ, ◌+◌, ◌-◌, ◌*◌, ◌^◌, ◌≤◌, ◌<◌, min}
use native.Mathlib.Omega.{arith}
use lib.Dec.{eqb, ltb, leb}
use lib.ListN.{length, take}
use lib.Seq.{paste, length-paste}
use borrow.Author.Tests.{ltb-true, ltb-false, leb-false}
use Rattle.bundle.specs.Bundle.{well_formed}
use Rattle.field.specs.Field.{field_size}
use Rattle.entry.specs.Entry.{entry_size, entry_of, filename_of, entries_in}
use Rattle.filename.specs.Filename.{open_check, after_open_check}
use Rattle.selection.specs.Selection.{next_of}
use Rattle.packet.specs.Packet.{length_field, bad_length}
use Rattle.build.specs.Build.{size_of, front}
use Rattle.build.specs.declared.Request.{Request}
use Rattle.build.specs.declared.Request.TheVariants as Q
use Rattle.build.proofs.Laws.{size_most}
use Rattle.verdict.specs.Verdict.{verdict_of}
use Rattle.verdict.specs.declared.Verdict.{Verdict}
use Rattle.verdict.specs.declared.Verdict.TheVariants as W
use Rattle.session.specs.declared.Filling.{Filling}
use Rattle.session.specs.declared.Region.{Region}
use Rattle.session.specs.declared.Phase.{Phase}
use Rattle.session.specs.declared.Phase.TheVariants as P
use Rattle.session.specs.declared.Session.{Session}
use Rattle.session.specs.declared.Answer.{Answer}
use Rattle.session.specs.declared.Answer.TheVariants as A
use Rattle.session.specs.Outcome.{Outcome, outcome, gives, is_ended, untouched}
use Rattle.session.specs.PacketPhase.{keep, acted, whole_of, sized_of, packet_of}
use Rattle.session.specs.FillingPhase.{response_of, switched_of, table_of}
use Rattle.session.specs.BetweenPhase.{open_of, between_of}
use Rattle.session.specs.RegionPhase.{past_end, name_in, next_chunk, begun_of, ask_of, hand_of, region_of}
use Rattle.session.specs.Limits.{reads_limit, phase_limit, limit_of}
use Rattle.session.specs.Step.{on_phase, step_of}
use Rattle.steps.specs.Steps.{Throughout}
use Rattle.fetch.specs.Plain.{Setting}
use Rattle.fetch.specs.Device.{definitions, given_of, Lent, lent, delivered, World, next}
use Rattle.fetch.specs.Within.{AnswerWithin, Within, StepWithin, ReplyWithin}
use Rattle.base.proofs.Tests.{split, differ, neither}
use Rattle.fetch.proofs.Basics.{entry_end}
use Rattle.fetch.proofs.Sent.{length_out}
use Rattle.fetch.proofs.Verdict.{Sane, sane}
use Rattle.std.specs.Prelude.{Result, Ok, Err}
use Rattle.refusal.specs.declared.Refusal.{Refusal}
use Rattle.verdict.specs.declared.Finish.TheVariants as Finish

module _ (s : Session) (d set names t y o : List ℕ) where
  -- the bytes of the session's numbers
  abbrev f : ℕ
  f = field_size s.width

  -- what a step from s gave; and of a session that it ended, the reply that it keeps
  record Keeps (r : Outcome) : Type 0 where
    pub within : Within f (given_of r) d set t y o
    pub reply : is_ended s.phase ≡ false → ReplyWithin r.stepped.session.phase y

  abbrev Replies : Session → Type 0
  Replies z = is_ended s.phase ≡ false → ReplyWithin z.phase y

  -- no buffer is changed
  plainly : (z : Session) (n : ℕ) (a : Answer) → n ≤ length d → AnswerWithin f a d set t o → Replies z → Keeps (outcome (gives z n a) t y o)
  plainly z n a h k e = record { within = record { taken = h; answer = k; table = refl; reply = refl; out = refl }; reply = e }

  none : 0 ≤ length d
  none = omega arith

  -- an ended session without a reply; and s itself, which has not ended
  no_reply : 0 ≤ length y
  no_reply = omega arith

  live : (p : Phase) → is_ended p ≡ false → ReplyWithin p y
  live (P.Packet h) e = tt
  live (P.Response x) e = tt
  live (P.Switched k) e = tt
  live (P.Table x) e = tt
  live (P.Between k i) e = tt
  live (P.Region k x) e = tt
  live (P.Ended k) e = differ (sym e)

  untouched_within : (why : Refusal) → Keeps (untouched s why t y o)
  untouched_within why = plainly s 0 (A.Refused why) none tt (live s.phase)

  -- ---- behind the tests of 3 and 18

  module _ (room : 48 ≤ length o) where
    sends : (q : Request) (z : Session) (n : ℕ) → n ≤ length d → Replies z → Keeps (outcome (gives z n (A.Send (size_of q))) t y (front q o))
    sends q z n h e =
        record {
          within = record { taken = h; answer = omega (arith, size_most q); table = refl; reply = refl; out = length_out q o room };
          reply = e;
        }

    acted_within : (n : ℕ) (w : List ℕ) → n ≤ length d → (v : Result Verdict Refusal) → Sane set (length t) v → Keeps (acted s n w t y o v)
    acted_within n w h (Ok (W.Reply q)) e = sends q _ n h (λ i. tt)
    acted_within n w h (Ok (W.Image x k)) e = plainly _ n (A.Image x k) h e (λ i. tt)
    acted_within n w h (Ok W.Pass) e = plainly _ n A.Go h tt (λ i. tt)
    acted_within n w h (Ok (W.Finish how)) e = plainly _ n (A.Finished how s.reads) h tt (λ i. no_reply)
    acted_within n w h (Ok (W.Respond c k)) e = sends (Q.ExecuteData c) _ n h (λ i. tt)
    acted_within n w h (Ok (W.Debug x a k)) e = sends (Q.MemRead x a k) _ n h (λ i. tt)
    acted_within n w h (Err why) e = plainly _ n (A.Refused why) h tt (λ i. no_reply)

    packet_within : (h : ℕ) → Keeps (packet_of s h d set t y o)
    unfolding packet_of sized_of whole_of
    packet_within h =
        let w : List ℕ = keep s.window h d in
        let n : ℕ = min (length_field w - h) (length d) in
        let v : List ℕ = keep s.window h (take n d) in
        split Keeps (ltb (h + length d) 8) (λ e. plainly _ (length d) A.Go (omega arith) tt (λ i. tt))
        (λ e.
        split Keeps (bad_length (length_field w))
        (λ m. plainly _ (8 - h) (A.Refused Refusal.PacketLength) (omega (arith, ltb-false (h + length d) 8 e)) tt (λ i. no_reply))
        (λ m.
        split Keeps (ltb (h + n) (length_field w)) (λ i. plainly _ n A.Go (omega arith) tt (λ j. tt))
        (λ i.
        acted_within n v (omega arith) (verdict_of s.opening set (length t) (length y) (take (length_field v) v))
        (sane s.opening set (length t) (length y) (take (length_field v) v)))))

    module _ (x : Filling) where
      -- the bytes that a step takes
      abbrev n : ℕ
      n = min (x.declared - x.filled) (length d)

      filled : (b : List ℕ) → (ltb (length b) x.declared || ltb x.declared x.filled) ≡ false
          → length (paste b x.filled d n) ≡ length b
      filled b e =
          let q = neither _ _ e in
          let f : x.declared ≤ length b = ltb-false _ _ q.0 in
          let g : x.filled ≤ x.declared = ltb-false _ _ q.1 in
          length-paste b x.filled d n (omega arith) (omega arith)

      response_within : (ltb (length y) x.declared || ltb x.declared x.filled) ≡ false → Keeps (response_of s x d t y o)
      unfolding response_of
      response_within e =
          split Keeps (ltb (x.filled + n) x.declared)
          (λ m.
          record { within = record { taken = omega arith; answer = tt; table = refl; reply = filled y e; out = refl }; reply = λ i. tt })
          (λ m.
          record {
            within =
                record {
                  taken = omega arith;
                  answer = omega (arith, size_most Q.SwitchMode);
                  table = refl;
                  reply = filled y e;
                  out = length_out Q.SwitchMode o room;
                };
            reply = λ i. tt;
          })

      table_within : (ltb (length t) x.declared || ltb x.declared x.filled) ≡ false → Keeps (table_of s x d t y o)
      unfolding table_of
      table_within e =
          split Keeps (ltb (x.filled + n) x.declared)
          (λ m. record { within = record { taken = omega arith; answer = tt; table = filled t e; reply = refl; out = refl }; reply = λ i. tt })
          (λ m. record { within = record { taken = omega arith; answer = tt; table = filled t e; reply = refl; out = refl }; reply = λ i. tt })

    switched_within : (k : ℕ) → k ≤ length y → Keeps (switched_of s k t y o)
    unfolding switched_of
    switched_within k h = plainly _ 0 (A.Finished Finish.Reply s.reads) none tt (λ i. h)

    -- an entry of a table that its buffer holds
    entry_in_lem : (k i : ℕ) → k ≤ length t → i < entries_in f k → entry_size f * (i + 1) ≤ length t
    entry_in_lem k i h l = omega (arith, entry_end f k i l)

    open_within : (k i : ℕ) (e : List ℕ) (c : Result Unit Refusal) → entry_size f * (i + 1) ≤ length t → Keeps (outcome (open_of f s k i e c) t y o)
    open_within k i e (Ok tt) h = plainly _ 0 (A.Open i) none h (λ j. tt)
    open_within k i e (Err why) h = plainly _ 0 (A.Refused why) none tt (λ j. no_reply)

    between_within : (k from : ℕ) → k ≤ length t → Keeps (outcome (between_of f s k from names t) t y o)
    unfolding between_of
    between_within k from h =
        let i : ℕ = next_of f names t (entries_in f k - from) from in
        split (λ r. Keeps (outcome r t y o)) (ltb i (entries_in f k))
        (λ m. open_within k i (entry_of f t i) (open_check (filename_of f (entry_of f t i))) (entry_in_lem k i h (ltb-true _ _ m)))
        (λ m. plainly _ 0 (A.Finished Finish.Dumped s.reads) none tt (λ j. no_reply))

    module _ (k : ℕ) (x : Region) (h : entry_size f * (x.entry + 1) ≤ length t) where
      next_within : Keeps (next_chunk s k x t y o)
      unfolding next_chunk
      next_within =
          split Keeps (leb x.len x.done) (λ m. plainly _ 0 (A.Close x.entry) none h (λ j. tt))
          (λ m. sends (Q.MemRead s.width _ _) _ 0 none (λ j. tt))

      begun_within : (c : Result Unit Refusal) → Keeps (begun_of s k x t y o c)
      begun_within (Ok tt) =
          split Keeps (ltb (256 ^ f) (x.base + x.len)) (λ m. plainly _ 0 (A.Refused (past_end s.width)) none tt (λ j. no_reply)) (λ m. next_within)
      begun_within (Err why) = plainly _ 0 (A.Refused why) none tt (λ j. no_reply)

      ask_within : Keeps (ask_of s k x t y o)
      unfolding ask_of
      ask_within =
          split Keeps (eqb x.done 0) (λ m. begun_within (after_open_check (name_in s.width t x))) (λ m. next_within)

      hand_within : Keeps (hand_of s k x d t y o)
      unfolding hand_of
      hand_within =
          split Keeps (eqb (length d) 0) (λ m. plainly s 0 A.Go none tt (live s.phase))
          (λ m. plainly _ _ (A.Bytes _) (omega arith) (omega arith) (λ j. tt))

      region_within : Keeps (region_of s k x d t y o)
      unfolding region_of
      region_within =
          split Keeps x.due (λ m. plainly _ 0 A.EmptyRead none tt (λ j. tt))
          (λ m. split Keeps (eqb x.outstanding 0) (λ i. ask_within) (λ i. hand_within))

    -- ---- the step

    phase_within : (p : Phase) → phase_limit f s.window p t y ≡ false → Keeps (on_phase s p d set names t y o)
    phase_within (P.Packet h) e = packet_within h
    phase_within (P.Response x) e = response_within x e
    phase_within (P.Switched k) e = switched_within k (ltb-false _ _ e)
    phase_within (P.Table x) e = table_within x e
    phase_within (P.Between k i) e = between_within k i (ltb-false _ _ (neither _ _ e).0)
    phase_within (P.Region k x) e =
        let q = neither _ _ (neither _ _ (neither _ _ e).0).0 in
        region_within k x (entry_in_lem k x.entry (ltb-false _ _ q.0) (leb-false _ _ q.1))
    phase_within (P.Ended k) e = untouched_within Refusal.Ended

  keeps : Keeps (step_of s d set names t y o)
  unfolding step_of limit_of
  keeps =
      split Keeps (not (well_formed true set)) (λ e. untouched_within Refusal.ImageSet)
      (λ e.
      split Keeps (not (well_formed false names)) (λ m. untouched_within Refusal.NameList)
      (λ m.
      split Keeps (ltb (length o) 48) (λ i. untouched_within Refusal.OutBuffer)
      (λ i.
      split Keeps (is_ended s.phase) (λ j. untouched_within Refusal.Ended)
      (λ j.
      split Keeps (reads_limit s || phase_limit f s.window s.phase t y) (λ k. untouched_within Refusal.Limit)
      (λ k. phase_within (ltb-false _ _ i) s.phase (neither (reads_limit s) (phase_limit f s.window s.phase t y) k).1)))))

  pub step_within : Within f (given_of (step_of s d set names t y o)) d set t y o
  step_within = keeps.within

  -- a step that ends the session leaves no longer a reply in it than the buffer it was lent
  pub reply_within : is_ended s.phase ≡ false → ReplyWithin (step_of s d set names t y o).stepped.session.phase y
  reply_within = keeps.reply

-- every step of every list, from any world: fair or not, refused or not, whatever it is lent
pub within : (c : Setting) (w : World Session) (ls : List Lent) → Throughout (next definitions c) (StepWithin definitions (λ s. s.width) c) w ls
within c w [] = tt
within c w (l ∷ ls) = (
  step_within w.state (delivered l.delivery w.queue) (lent l.set c.set) (lent l.names c.names) (lent l.table w.table)
      (lent l.reply w.reply) (lent l.out w.out),
  within c (next definitions c w l) ls,
)
