-- When a step waits, and for how many bytes, tied to the step. Each law goes by the phase, then by the tests of its definition.
-- Assumes nothing.
use mathlib.Core.Path.{◌≡◌, refl, sym, ap, ◌∙◌}
use mathlib.Core.Bool.{true, false, not, ◌||◌, ◌&&◌}
use mathlib.Core.List.{List, [], ◌++◌, append-nil, append_assoc}
use Prim.Native.Nat.{ℕ, ◌+◌, ◌-◌, ◌^◌, ◌≤◌, ◌<◌, min}
use native.Mathlib.Omega.{arith}
use native.Mathlib.Nat.{add-zero}
use borrow.Author.Tests.{ltb-true, ltb-false, leb-false, eqb-true, eqb-false, lt-ltb, le-ltb, le-leb}
use lib.Dec.{ltb, leb, eqb}
use lib.ListN.{length, take, drop, length-take, take-append-drop}
use lib.Seq.{paste-zero, take_all, take-take, take-append-le}
use Rattle.field.specs.Field.{field_size}
use Rattle.base.specs.Choice.{pick}
use Rattle.base.proofs.Tests.{neither, split, differ}
use Rattle.base.proofs.Ranges.{by_test}
use Rattle.bundle.specs.Bundle.{well_formed}
use Rattle.entry.specs.Entry.{entry_of, filename_of, entries_in}
use Rattle.filename.specs.Filename.{open_check, after_open_check}
use Rattle.selection.specs.Selection.{next_of}
use Rattle.packet.specs.Packet.{length_field, bad_length}
use Rattle.verdict.specs.Verdict.{verdict_of}
use Rattle.verdict.specs.declared.Verdict.{Verdict}
use Rattle.verdict.specs.declared.Verdict.TheVariants as W
use Rattle.session.specs.declared.Filling.{Filling}
use Rattle.session.specs.declared.Region.{Region}
use Rattle.session.specs.declared.Phase.{Phase}
use Rattle.session.specs.declared.Phase.TheVariants as P
use Rattle.session.specs.declared.Session.{Session}
use Rattle.session.specs.declared.Answer.{Answer}
use Rattle.session.specs.declared.Answer.TheVariants as A
use Rattle.session.specs.declared.Stepped.{Stepped}
use Rattle.session.specs.Outcome.{Outcome, outcome, gives, untouched, in_phase, is_ended}
use Rattle.session.specs.PacketPhase.{keep, acted, whole_of, sized_of, packet_of}
use Rattle.session.specs.FillingPhase.{response_of, switched_of, table_of}
use Rattle.session.specs.BetweenPhase.{open_of, between_of}
use Rattle.session.specs.RegionPhase.{next_chunk, begun_of, ask_of, hand_of, region_of, name_in}
use Rattle.session.specs.Limits.{held_limit, reads_limit, phase_limit, limit_of}
use Rattle.session.specs.Step.{on_phase, step_of}
use Rattle.waiting.specs.Wanted.{region_waits, needs_bytes, wanted_in, wanted_of}
use Rattle.limits.proofs.Laws.{same_ltb}
use Rattle.waiting.specs.Waiting.{InOrder}
use Rattle.field.proofs.Laws.{le_same}
use Rattle.std.specs.Prelude.{Result, Ok, Err}
use Rattle.refusal.specs.declared.Refusal.{Refusal}

-- ---- the window

module _ (w : List ℕ) (full : length w ≡ 48) where
  -- no byte more leaves it as it was
  keep_none : (h : ℕ) → keep w h [] ≡ w
  keep_none h = rw (add-zero, append-nil, take-append-drop) (take_all 48 w (omega arith))

  -- the header stays, whatever comes behind it
  pub keep_header : (h : ℕ) (x : List ℕ) → 8 ≤ h → length_field (keep w h x) ≡ length_field w
  keep_header h x l =
      let y : List ℕ = drop (h + length x) w in
      let e : take 8 (keep w h x) ≡ take 8 w =
      take-take 8 48 (take h w ++ x ++ y) (omega arith) ∙ ap (take 8) (append_assoc (take h w) x y)
      ∙ take-append-le 8 (take h w) (x ++ y) (rw length-take (omega arith)) ∙ take-take 8 h w l in
      le_same 4 4 8 (keep w h x) w (omega arith) e

-- from the eighth byte on, the header is good, and the packet is not whole
pub held_within : (w : List ℕ) (h : ℕ) → held_limit w h ≡ false → 8 ≤ h → (bad_length (length_field w) ≡ false) × (h < length_field w)
held_within w h l g =
    let q = (neither (ltb 4095 h) (leb 8 h && (bad_length (length_field w) || leb (length_field w) h)) l).1 in
    let r = neither (bad_length (length_field w)) (leb (length_field w) h) (rw (le-leb 8 h g) at q) in
    (r.0, leb-false (length_field w) h r.1)

-- a good length is 8 or more
pub eight_or_more : (n : ℕ) → bad_length n ≡ false → 8 ≤ n
eight_or_more n e = by_test (ltb n 8) (λ m. differ (sym (rw m at e))) (λ m. ltb-false n 8 m)

-- ---- the step is its phase

-- the ended one too
ended_phase : (s : Session) (p : Phase) (d set names t y o : List ℕ)
    → pick (is_ended p) (untouched s Refusal.Ended t y o) (on_phase s p d set names t y o) ≡ on_phase s p d set names t y o
ended_phase s (P.Packet h) d set names t y o = refl
ended_phase s (P.Response x) d set names t y o = refl
ended_phase s (P.Switched k) d set names t y o = refl
ended_phase s (P.Table x) d set names t y o = refl
ended_phase s (P.Between k i) d set names t y o = refl
ended_phase s (P.Region k x) d set names t y o = refl
ended_phase s (P.Ended k) d set names t y o = refl

module _ (s : Session) (set names t y o : List ℕ) (i : InOrder s set names t y o) where
  pub step_is_phase : (d : List ℕ) → step_of s d set names t y o ≡ on_phase s s.phase d set names t y o
  unfolding step_of
  step_is_phase d = rw (i.images, i.stems, le-ltb (length o) 48 i.room, i.limits) (ended_phase s s.phase d set names t y o)

  pub phase_within : phase_limit (field_size s.width) s.window s.phase t y ≡ false
  unfolding limit_of
  phase_within = (neither (reads_limit s) (phase_limit (field_size s.width) s.window s.phase t y) i.limits).1

-- ---- an empty delivery, where bytes are needed: go, and nothing changes

module _ (s : Session) (full : length s.window ≡ 48) (set names t y o : List ℕ) where
  abbrev waiting : Outcome
  waiting = outcome (gives s 0 A.Go) t y o

  waits_packet : (h : ℕ) → held_limit s.window h ≡ false → in_phase s (P.Packet h) ≡ s → packet_of s h [] set t y o ≡ waiting
  unfolding packet_of sized_of
  waits_packet h l e =
      by_test (ltb h 8)
      (λ m. rw (keep_none s.window full h, add-zero, m) (ap (λ (z : Session). outcome (gives z 0 A.Go) t y o) e))
      (λ m.
      let b = held_within s.window h l (ltb-false h 8 m) in
      let z : min (length_field s.window - h) 0 ≡ 0 = omega arith in
      rw (keep_none s.window full h, add-zero, m, b.0, z, keep_none s.window full h, add-zero, lt-ltb h (length_field s.window) b.1)
      (ap (λ (z : Session). outcome (gives z 0 A.Go) t y o) e))

  waits_response : (x : Filling) → in_phase s (P.Response x) ≡ s → ltb x.filled x.declared ≡ true → response_of s x [] t y o ≡ waiting
  unfolding response_of
  waits_response x e l =
      let z : min (x.declared - x.filled) 0 ≡ 0 = omega arith in
      rw (z, ← paste-zero y x.filled [], add-zero, l) (ap (λ (z : Session). outcome (gives z 0 A.Go) t y o) e)

  waits_table : (x : Filling) → in_phase s (P.Table x) ≡ s → ltb x.filled x.declared ≡ true → table_of s x [] t y o ≡ waiting
  unfolding table_of
  waits_table x e l =
      let z : min (x.declared - x.filled) 0 ≡ 0 = omega arith in
      rw (z, ← paste-zero t x.filled [], add-zero, l) (ap (λ (z : Session). outcome (gives z 0 A.Go) t y o) e)

  waits_region : (k : ℕ) (x : Region) → region_waits x ≡ true → region_of s k x [] t y o ≡ waiting
  unfolding region_of hand_of
  waits_region k x l =
      by_test x.due (λ m. differ (rw m at l))
      (λ m. by_test (eqb x.outstanding 0) (λ n. differ (rw (m, n) at l)) (λ n. rw (m, n) refl))

  waits_phase : (p : Phase) → phase_limit (field_size s.width) s.window p t y ≡ false → in_phase s p ≡ s → needs_bytes p ≡ true
      → on_phase s p [] set names t y o ≡ waiting
  waits_phase (P.Packet h) l e n = waits_packet h l e
  waits_phase (P.Response x) l e n = waits_response x e n
  waits_phase (P.Switched k) l e n = differ n
  waits_phase (P.Table x) l e n = waits_table x e n
  waits_phase (P.Between k i) l e n = differ n
  waits_phase (P.Region k x) l e n = waits_region k x n
  waits_phase (P.Ended k) l e n = differ n

-- a session that needs bytes answers go to an empty delivery, and nothing changes
pub waits : (s : Session) (set names t y o : List ℕ) → InOrder s set names t y o → length s.window ≡ 48 → needs_bytes s.phase ≡ true
    → step_of s [] set names t y o ≡ outcome (gives s 0 A.Go) t y o
waits s set names t y o i full n =
    step_is_phase s set names t y o i []
    ∙ waits_phase s full set names t y o s.phase (phase_within s set names t y o i) refl n

-- ---- and only such a session does

-- nothing is taken, and the answer is not go
abbrev Other : Stepped → Type 0
Other r = (r.taken ≡ 0) × (r.answer ≡ A.Go → ⊥)

other : (a : Answer) → (a ≡ A.Go → ◌≡◌ {A = ℕ} 0 1) → a ≡ A.Go → ⊥
other a f e = let z : ◌≡◌ {A = ℕ} 0 1 = f e in omega arith

module _ (s : Session) (set names t y o : List ℕ) where
  -- between regions
  open_other : (k i : ℕ) (e : List ℕ) (c : Result Unit Refusal) → Other (open_of (field_size s.width) s k i e c)
  open_other k i e (Ok tt) = (refl, other _ (λ q. cc))
  open_other k i e (Err why) = (refl, other _ (λ q. cc))

  between_other : (k i : ℕ) → Other (between_of (field_size s.width) s k i names t)
  unfolding between_of
  between_other k from =
      let f : ℕ = field_size s.width in
      let i : ℕ = next_of f names t (entries_in f k - from) from in
      split Other (ltb i (entries_in f k)) (λ e. open_other k i (entry_of f t i) (open_check (filename_of f (entry_of f t i)))) (λ e. (refl, other _ (λ q. cc)))

  -- a region with nothing outstanding
  abbrev Asks : Outcome → Type 0
  Asks r = Other r.stepped

  next_other : (k : ℕ) (x : Region) → Asks (next_chunk s k x t y o)
  unfolding next_chunk
  next_other k x = split Asks (leb x.len x.done) (λ e. (refl, other _ (λ q. cc))) (λ e. (refl, other _ (λ q. cc)))

  begun_other : (k : ℕ) (x : Region) (c : Result Unit Refusal) → Asks (begun_of s k x t y o c)
  begun_other k x (Ok tt) = split Asks (ltb (256 ^ field_size s.width) (x.base + x.len)) (λ e. (refl, other _ (λ q. cc))) (λ e. next_other k x)
  begun_other k x (Err why) = (refl, other _ (λ q. cc))

  ask_other : (k : ℕ) (x : Region) → Asks (ask_of s k x t y o)
  unfolding ask_of
  ask_other k x =
      split Asks (eqb x.done 0) (λ e. begun_other k x (after_open_check (name_in s.width t x))) (λ e. next_other k x)

  -- an outcome that is a wait only where p needs bytes
  abbrev Only : Phase → Outcome → Type 0
  Only p r = r ≡ outcome (gives s 0 A.Go) t y o → needs_bytes p ≡ true

  never : {X : Type 0} {r : Outcome} → (r.stepped.answer ≡ A.Go → ⊥) → r ≡ outcome (gives s 0 A.Go) t y o → X
  never f e = absurd (f (ap (λ (z : Outcome). z.stepped.answer) e))

  only_response : (x : Filling) → Only (P.Response x) (response_of s x [] t y o)
  unfolding response_of
  only_response x =
      let n : ℕ = min (x.declared - x.filled) 0 in
      split (Only (P.Response x)) (ltb (x.filled + n) x.declared)
      (λ m e. let l : x.filled + n < x.declared = ltb-true _ _ m in lt-ltb x.filled x.declared (omega arith)) (λ m. never (other _ (λ q. cc)))

  only_table : (x : Filling) → in_phase s (P.Table x) ≡ s → Only (P.Table x) (table_of s x [] t y o)
  unfolding table_of
  only_table x i =
      let n : ℕ = min (x.declared - x.filled) 0 in
      split (Only (P.Table x)) (ltb (x.filled + n) x.declared)
      (λ m e. let l : x.filled + n < x.declared = ltb-true _ _ m in lt-ltb x.filled x.declared (omega arith))
      (λ m e.
      let q : P.Between x.declared 0 ≡ P.Table x =
      ap (λ (z : Outcome). z.stepped.session.phase) e ∙ sym (ap (λ (z : Session). z.phase) i) in
      let z : ◌≡◌ {A = ℕ} 0 1 = cc in
      absurd (omega arith))

  only_region : (k : ℕ) (x : Region) → Only (P.Region k x) (region_of s k x [] t y o)
  unfolding region_of
  only_region k x =
      split (Only (P.Region k x)) x.due (λ m. never (other _ (λ q. cc)))
      (λ m. split (Only (P.Region k x)) (eqb x.outstanding 0) (λ n. never (ask_other k x).1) (λ n e. rw (m, n) refl))

  only_phase : (p : Phase) → in_phase s p ≡ s → Only p (on_phase s p [] set names t y o)
  unfolding switched_of
  only_phase (P.Packet h) i = λ e. refl
  only_phase (P.Response x) i = only_response x
  only_phase (P.Switched k) i = never (other _ (λ q. cc))
  only_phase (P.Table x) i = only_table x i
  only_phase (P.Between k j) i = never (between_other k j).1
  only_phase (P.Region k x) i = only_region k x
  only_phase (P.Ended k) i = never (other _ (λ q. cc))

  -- a step that answers go to an empty delivery, nothing having changed, is of a session that needs bytes: whatever was lent, and whatever its counts
  pub waits_only : step_of s [] set names t y o ≡ outcome (gives s 0 A.Go) t y o → needs_bytes s.phase ≡ true
  unfolding step_of
  waits_only =
      let Only_so : Outcome → Type 0 = Only s.phase in
      split Only_so (not (well_formed true set)) (λ m. never (other _ (λ q. cc)))
      (λ m.
      split Only_so (not (well_formed false names)) (λ m. never (other _ (λ q. cc)))
      (λ m.
      split Only_so (ltb (length o) 48) (λ m. never (other _ (λ q. cc)))
      (λ m.
      split Only_so (is_ended s.phase) (λ m. never (other _ (λ q. cc)))
      (λ m. split Only_so (limit_of s t y) (λ m. never (other _ (λ q. cc))) (λ m. only_phase s.phase refl)))))

-- ---- how many bytes

-- none are wanted exactly where none are needed
module _ (s : Session) (t y : List ℕ) where
  wanted_phase : (p : Phase) → phase_limit (field_size s.width) s.window p t y ≡ false → needs_bytes p ≡ ltb 0 (wanted_in s.window p)
  wanted_phase (P.Packet h) l =
      by_test (ltb h 8) (λ m. rw m (sym (lt-ltb 0 (8 - h) (omega (arith, ltb-true h 8 m)))))
      (λ m. rw m (sym (lt-ltb 0 (length_field s.window - h) (omega (arith, (held_within s.window h l (ltb-false h 8 m)).1)))))
  wanted_phase (P.Response x) l = same_ltb x.filled x.declared 0 (x.declared - x.filled) (λ m. omega arith) (λ m. omega arith)
  wanted_phase (P.Switched k) l = refl
  wanted_phase (P.Table x) l = same_ltb x.filled x.declared 0 (x.declared - x.filled) (λ m. omega arith) (λ m. omega arith)
  wanted_phase (P.Between k i) l = refl
  wanted_phase (P.Region k x) l =
      by_test x.due (λ m. rw m refl)
      (λ m.
      by_test (eqb x.outstanding 0) (λ n. rw (m, n, eqb-true x.outstanding 0 n) refl)
      (λ n.
      let g : x.outstanding ≡ 0 → ⊥ = eqb-false x.outstanding 0 n in
      rw (m, n) (sym (lt-ltb 0 x.outstanding (omega arith)))))
  wanted_phase (P.Ended k) l = refl

  pub wanted_needs : limit_of s t y ≡ false → needs_bytes s.phase ≡ ltb 0 (wanted_of s)
  unfolding limit_of
  wanted_needs l = wanted_phase s.phase (neither (reads_limit s) (phase_limit (field_size s.width) s.window s.phase t y) l).1

-- a delivery of no more than is wanted is taken whole
module _ (s : Session) (full : length s.window ≡ 48) (d set names t y o : List ℕ) where
  abbrev All : Outcome → Type 0
  All r = r.stepped.taken ≡ length d

  acted_takes : (n : ℕ) (w : List ℕ) (v : Result Verdict Refusal) → (acted s n w t y o v).stepped.taken ≡ n
  acted_takes n w (Ok (W.Reply q)) = refl
  acted_takes n w (Ok (W.Image x k)) = refl
  acted_takes n w (Ok W.Pass) = refl
  acted_takes n w (Ok (W.Finish how)) = refl
  acted_takes n w (Ok (W.Respond c k)) = refl
  acted_takes n w (Ok (W.Debug v a k)) = refl
  acted_takes n w (Err why) = refl

  -- size is the packet's length: at the eighth byte it is refused, or all that came is of the packet
  takes_sized : (h size : ℕ) → (bad_length size ≡ true → 8 - h ≡ length d) → (bad_length size ≡ false → length d ≤ size - h)
      → All (sized_of s h d size set t y o)
  unfolding sized_of whole_of
  takes_sized h size f g =
      let n : ℕ = min (size - h) (length d) in
      let w : List ℕ = keep s.window h (take n d) in
      split All (bad_length size) f
      (λ b.
      let e : n ≡ length d = omega (arith, g b) in
      split All (ltb (h + n) size) (λ m. e)
      (λ m. acted_takes n w (verdict_of s.opening set (length t) (length y) (take (length_field w) w)) ∙ e))

  takes_packet : (h : ℕ) → held_limit s.window h ≡ false → length d ≤ wanted_in s.window (P.Packet h) → All (packet_of s h d set t y o)
  unfolding packet_of
  takes_packet h l c =
      let size : ℕ = length_field (keep s.window h d) in
      split All (ltb (h + length d) 8) (λ m. refl)
      (λ m.
      let i : 8 ≤ h + length d = ltb-false _ _ m in
      by_test (ltb h 8)
      (λ q.
      let j : length d ≤ 8 - h = rw q at c in
      takes_sized h size (λ b. omega arith) (λ b. omega (arith, eight_or_more size b)))
      (λ q.
      let g : 8 ≤ h = ltb-false h 8 q in
      let j : length d ≤ length_field s.window - h = rw q at c in
      let e : size ≡ length_field s.window = keep_header s.window full h d g in
      let b : bad_length size ≡ false = ap bad_length e ∙ (held_within s.window h l g).0 in
      takes_sized h size (λ n. differ (sym b ∙ n)) (λ n. omega arith)))

  takes_region : (k : ℕ) (x : Region) → length d ≤ wanted_in s.window (P.Region k x) → All (region_of s k x d t y o)
  unfolding region_of hand_of
  takes_region k x c =
      split All x.due (λ m. let j : length d ≤ 0 = rw m at c in omega arith)
      (λ m.
      let j : length d ≤ x.outstanding = rw m at c in
      split All (eqb x.outstanding 0) (λ n. omega (arith, eqb-true x.outstanding 0 n, (ask_other s set names t y o k x).0))
      (λ n. split All (eqb (length d) 0) (λ q. omega (arith, eqb-true (length d) 0 q)) (λ q. omega arith)))

  takes_phase : (p : Phase) → phase_limit (field_size s.width) s.window p t y ≡ false → length d ≤ wanted_in s.window p → All (on_phase s p d set names t y o)
  unfolding response_of switched_of table_of between_of
  takes_phase (P.Packet h) l c = takes_packet h l c
  takes_phase (P.Response x) l c =
      let n : ℕ = min (x.declared - x.filled) (length d) in
      split All (ltb (x.filled + n) x.declared) (λ m. omega arith) (λ m. omega arith)
  takes_phase (P.Switched k) l c = omega arith
  takes_phase (P.Table x) l c =
      let n : ℕ = min (x.declared - x.filled) (length d) in
      split All (ltb (x.filled + n) x.declared) (λ m. omega arith) (λ m. omega arith)
  takes_phase (P.Between k i) l c = omega (arith, (between_other s set names t y o k i).0)
  takes_phase (P.Region k x) l c = takes_region k x c
  takes_phase (P.Ended k) l c = omega arith

-- a step lent no more than is wanted takes all of it
pub takes_all : (s : Session) (d set names t y o : List ℕ) → InOrder s set names t y o → length s.window ≡ 48 → length d ≤ wanted_of s
    → (step_of s d set names t y o).stepped.taken ≡ length d
takes_all s d set names t y o i full c =
    ap (λ (r : Outcome). r.stepped.taken) (step_is_phase s set names t y o i d)
    ∙ takes_phase s full d set names t y o s.phase (phase_within s set names t y o i) c
