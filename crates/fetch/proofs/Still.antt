-- Refusals that leave all untouched come from the tests before the phases: no phase but the ended one refuses so. Session and buffers stay as they were
-- and nothing is taken, whatever was lent. By the tests of each phase. Assumes nothing.
use mathlib.Core.Path.{◌≡◌, refl, sym}
use mathlib.Core.Bool.{true, false, not}
use mathlib.Core.List.{List}
use Prim.Native.Nat.{ℕ, ◌+◌, ◌-◌, ◌^◌, min}
use lib.Dec.{eqb, ltb, leb, T}
use lib.ListN.{length, take}
use Rattle.bundle.specs.Bundle.{well_formed}
use Rattle.field.specs.Field.{field_size}
use Rattle.field.specs.declared.Width.{Width}
use Rattle.field.specs.declared.Width.TheVariants as WI
use Rattle.entry.specs.Entry.{entry_of, filename_of, entries_in}
use Rattle.utf8.specs.Utf8.{utf8}
use Rattle.filename.specs.Filename.{before, has, open_check, after_open_check}
use Rattle.selection.specs.Selection.{next_of}
use Rattle.packet.specs.Packet.{length_field, bad_length}
use Rattle.verdict.specs.Verdict.{verdict_of}
use Rattle.verdict.specs.declared.Verdict.{Verdict}
use Rattle.verdict.specs.declared.Verdict.TheVariants as W
use Rattle.session.specs.declared.Filling.{Filling}
use Rattle.session.specs.declared.Region.{Region}
use Rattle.session.specs.declared.Phase.{Phase}
use Rattle.session.specs.declared.Phase.TheVariants as P
use Rattle.session.specs.declared.Session.{Session}
use Rattle.session.specs.Outcome.{Outcome, outcome, is_ended, untouched}
use Rattle.session.specs.PacketPhase.{keep, acted, whole_of, sized_of, packet_of}
use Rattle.session.specs.FillingPhase.{response_of, switched_of, table_of}
use Rattle.session.specs.BetweenPhase.{open_of, between_of}
use Rattle.session.specs.RegionPhase.{past_end, name_in, next_chunk, begun_of, ask_of, hand_of, region_of}
use Rattle.session.specs.Limits.{limit_of}
use Rattle.session.specs.Step.{on_phase, step_of}
use Rattle.fetch.specs.Device.{aside}
use Rattle.base.proofs.Tests.{split, differ}
use Rattle.fetch.proofs.Verdict.{Ends, Sane, sane}
use Rattle.std.specs.Prelude.{Result, Ok, Err}
use Rattle.refusal.specs.declared.Refusal.{Refusal}

-- not such a refusal
abbrev pub Quiet : Outcome → Type 0
Quiet r = T (aside r.stepped.answer) → ⊥

-- ---- names

abbrev NameSane : Result Unit Refusal → Type 0
NameSane (Ok tt) = Unit
NameSane (Err why) = Ends why

opening_sane : (name : List ℕ) → NameSane (open_check name)
unfolding open_check
opening_sane name =
    split NameSane (has 0 name) (λ e. split NameSane (utf8 (before 0 name)) (λ m. tt) (λ m. refl)) (λ e. refl {a = false})

opened_sane : (name : List ℕ) → NameSane (after_open_check name)
unfolding after_open_check
opened_sane name = split NameSane (utf8 name) (λ e. tt) (λ e. refl)

past_sane : (v : Width) → Ends (past_end v)
past_sane WI.Bits32 = refl
past_sane WI.Bits64 = refl

module _ (s : Session) (d set names t y o : List ℕ) where
  -- the bytes of the session's numbers
  abbrev f : ℕ
  f = field_size s.width

  -- ---- no phase but the ended one refuses so

  acted_quiet : (n : ℕ) (w : List ℕ) (v : Result Verdict Refusal) → Sane set (length t) v → Quiet (acted s n w t y o v)
  acted_quiet n w (Ok (W.Reply q)) e = λ h. h
  acted_quiet n w (Ok (W.Image x k)) e = λ h. h
  acted_quiet n w (Ok W.Pass) e = λ h. h
  acted_quiet n w (Ok (W.Finish how)) e = λ h. h
  acted_quiet n w (Ok (W.Respond c k)) e = λ h. h
  acted_quiet n w (Ok (W.Debug v a k)) e = λ h. h
  acted_quiet n w (Err why) e = rw e (λ h. h)

  packet_quiet : (h : ℕ) → Quiet (packet_of s h d set t y o)
  unfolding packet_of sized_of whole_of
  packet_quiet h =
      let size : ℕ = length_field (keep s.window h d) in
      let n : ℕ = min (size - h) (length d) in
      let w : List ℕ = keep s.window h (take n d) in
      split Quiet (ltb (h + length d) 8) (λ e i. i)
      (λ e.
      split Quiet (bad_length size) (λ m i. i)
      (λ m.
      split Quiet (ltb (h + n) size) (λ k i. i)
      (λ k.
      acted_quiet n w (verdict_of s.opening set (length t) (length y) (take (length_field w) w))
      (sane s.opening set (length t) (length y) (take (length_field w) w)))))

  response_quiet : (x : Filling) → Quiet (response_of s x d t y o)
  unfolding response_of
  response_quiet x =
      split Quiet (ltb (x.filled + min (x.declared - x.filled) (length d)) x.declared) (λ e h. h) (λ e h. h)

  switched_quiet : (k : ℕ) → Quiet (switched_of s k t y o)
  unfolding switched_of
  switched_quiet k h = h

  table_quiet : (x : Filling) → Quiet (table_of s x d t y o)
  unfolding table_of
  table_quiet x = split Quiet (ltb (x.filled + min (x.declared - x.filled) (length d)) x.declared) (λ e h. h) (λ e h. h)

  opening_quiet : (k i : ℕ) (e : List ℕ) (c : Result Unit Refusal) → NameSane c → Quiet (outcome (open_of f s k i e c) t y o)
  opening_quiet k i e (Ok tt) m = λ h. h
  opening_quiet k i e (Err why) m = rw m (λ h. h)

  between_quiet : (k from : ℕ) → Quiet (outcome (between_of f s k from names t) t y o)
  unfolding between_of
  between_quiet k from =
      let i : ℕ = next_of f names t (entries_in f k - from) from in
      let e : List ℕ = entry_of f t i in
      split (λ r. Quiet (outcome r t y o)) (ltb i (entries_in f k))
      (λ m. opening_quiet k i e (open_check (filename_of f e)) (opening_sane (filename_of f e))) (λ m h. h)

  next_quiet : (k : ℕ) (x : Region) → Quiet (next_chunk s k x t y o)
  unfolding next_chunk
  next_quiet k x = split Quiet (leb x.len x.done) (λ e h. h) (λ e h. h)

  begun_quiet : (k : ℕ) (x : Region) (c : Result Unit Refusal) → NameSane c → Quiet (begun_of s k x t y o c)
  begun_quiet k x (Ok tt) e =
      split Quiet (ltb (256 ^ f) (x.base + x.len)) (λ m. rw (past_sane s.width) (λ h. h)) (λ m. next_quiet k x)
  begun_quiet k x (Err why) e = rw e (λ h. h)

  ask_quiet : (k : ℕ) (x : Region) → Quiet (ask_of s k x t y o)
  unfolding ask_of
  ask_quiet k x =
      let name : List ℕ = name_in s.width t x in
      split Quiet (eqb x.done 0) (λ e. begun_quiet k x (after_open_check name) (opened_sane name)) (λ e. next_quiet k x)

  hand_quiet : (k : ℕ) (x : Region) → Quiet (hand_of s k x d t y o)
  unfolding hand_of
  hand_quiet k x = split Quiet (eqb (length d) 0) (λ e h. h) (λ e h. h)

  region_quiet : (k : ℕ) (x : Region) → Quiet (region_of s k x d t y o)
  unfolding region_of
  region_quiet k x =
      split Quiet x.due (λ e h. h) (λ e. split Quiet (eqb x.outstanding 0) (λ m. ask_quiet k x) (λ m. hand_quiet k x))

  pub phase_quiet : (p : Phase) → is_ended p ≡ false → Quiet (on_phase s p d set names t y o)
  phase_quiet (P.Packet h) e = packet_quiet h
  phase_quiet (P.Response x) e = response_quiet x
  phase_quiet (P.Switched k) e = switched_quiet k
  phase_quiet (P.Table x) e = table_quiet x
  phase_quiet (P.Between k i) e = between_quiet k i
  phase_quiet (P.Region k x) e = region_quiet k x
  phase_quiet (P.Ended k) e = differ (sym e)

  -- ---- the step

  -- refused with session and buffers untouched, nothing taken
  pub record Still (r : Outcome) : Type 0 where
    pub why : Refusal
    pub same : r ≡ untouched s why t y o

  abbrev pub Same : Outcome → Type 0
  Same r = T (aside r.stepped.answer) → Still r

  -- a phase refuses so only where the session has ended
  phase_still : (p : Phase) → Same (on_phase s p d set names t y o)
  phase_still (P.Packet h) e = absurd (phase_quiet (P.Packet h) refl e)
  phase_still (P.Response x) e = absurd (phase_quiet (P.Response x) refl e)
  phase_still (P.Switched k) e = absurd (phase_quiet (P.Switched k) refl e)
  phase_still (P.Table x) e = absurd (phase_quiet (P.Table x) refl e)
  phase_still (P.Between k i) e = absurd (phase_quiet (P.Between k i) refl e)
  phase_still (P.Region k x) e = absurd (phase_quiet (P.Region k x) refl e)
  phase_still (P.Ended k) e = record { why = Refusal.Ended; same = refl }

  refused_still : (why : Refusal) → Same (untouched s why t y o)
  refused_still why e = record { why = why; same = refl }

  pub step_still : Same (step_of s d set names t y o)
  unfolding step_of
  step_still =
      split Same (not (well_formed true set)) (λ e. refused_still Refusal.ImageSet)
      (λ e.
      split Same (not (well_formed false names)) (λ m. refused_still Refusal.NameList)
      (λ m.
      split Same (ltb (length o) 48) (λ i. refused_still Refusal.OutBuffer)
      (λ i.
      split Same (is_ended s.phase) (λ j. refused_still Refusal.Ended)
      (λ j.
      split Same (limit_of s t y) (λ k. refused_still Refusal.Limit)
      (λ k. phase_still s.phase)))))
