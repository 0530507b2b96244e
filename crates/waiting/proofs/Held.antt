-- The bytes held are kept by every step, refused or not: by its branches. A packet that goes on stands in the window as far as it reaches and is not
-- whole; every other outcome holds no byte of a packet. Assumes nothing.
use mathlib.Core.Path.{◌≡◌, refl, sym, ap, subst, ◌∙◌}
use mathlib.Core.Bool.{true, false, not}
use mathlib.Core.List.{List, ◌++◌, append-nil}
use Prim.Native.Nat.{ℕ, ◌+◌, ◌-◌, ◌^◌, ◌≤◌, ◌<◌, min}
use native.Mathlib.Omega.{arith}
use borrow.Author.Tests.{ltb-true, ltb-false, le-ltb, lt-leb, eqb-true}
use lib.Dec.{ltb, leb, eqb}
use lib.ListN.{length, take, length-append}
use lib.Seq.{take-length}
use Rattle.field.specs.Field.{field_size}
use Rattle.base.proofs.Ranges.{by_test}
use Rattle.bundle.specs.Bundle.{well_formed}
use Rattle.entry.specs.Entry.{entry_of, filename_of, entries_in}
use Rattle.filename.specs.Filename.{open_check, after_open_check}
use Rattle.selection.specs.Selection.{next_of}
use Rattle.packet.specs.Packet.{length_field, bad_length}
use Rattle.verdict.specs.Verdict.{verdict_of}
use Rattle.verdict.specs.declared.Verdict.{Verdict}
use Rattle.verdict.specs.declared.Verdict.TheVariants as W
use Rattle.session.specs.declared.Region.{Region}
use Rattle.session.specs.declared.Phase.{Phase}
use Rattle.session.specs.declared.Phase.TheVariants as P
use Rattle.session.specs.declared.Session.{Session}
use Rattle.session.specs.declared.Stepped.{Stepped}
use Rattle.session.specs.Outcome.{held_in, is_ended, holding, Outcome, outcome}
use Rattle.session.specs.PacketPhase.{keep, acted, packet_of}
use Rattle.session.specs.FillingPhase.{response_of, switched_of, table_of}
use Rattle.session.specs.BetweenPhase.{open_of, between_of}
use Rattle.session.specs.RegionPhase.{next_chunk, begun_of, ask_of, hand_of, region_of, name_in}
use Rattle.session.specs.Limits.{held_limit, limit_of}
use Rattle.session.proofs.Window.{keep_length, keep_same}
use Rattle.session.specs.Step.{on_phase, step_of}
use Rattle.waiting.specs.Window.{FreshIn, held_after, HoldsBytes, packet_over}
use Rattle.base.proofs.Tests.{split, and_false}
use Rattle.waiting.proofs.Waiting.{eight_or_more}
use Rattle.waiting.proofs.Packet.{header, over}
use Rattle.std.specs.Prelude.{Result, Ok, Err}
use Rattle.refusal.specs.declared.Refusal.{Refusal}

-- less than 8 bytes, and less than a good length
few_within : (w : List ℕ) (h : ℕ) → h < 8 → held_limit w h ≡ false
few_within w h l = rw (le-ltb 4095 h (omega arith), lt-leb 8 h l) refl

part_within : (w : List ℕ) (h : ℕ) → bad_length (length_field w) ≡ false → h < length_field w → held_limit w h ≡ false
part_within w h g l =
    let size : ℕ = length_field w in
    let m : size ≤ 4096 = by_test (ltb size 8) (λ e. absurd (omega (arith, eight_or_more size g, ltb-true size 8 e))) (λ e. ltb-false 4096 size (rw e at g)) in
    rw (le-ltb 4095 h (omega arith), g, lt-leb size h l) (and_false (leb 8 h))

module _ (s : Session) (b d set names t y o : List ℕ) (g : HoldsBytes s b) where
  -- the session z, n bytes having been taken; an outcome
  abbrev To : Session → ℕ → Type 0
  To z n = HoldsBytes z (held_after b d z n)

  abbrev Keeps : Outcome → Type 0
  Keeps r = To r.stepped.session r.stepped.taken

  -- nothing is taken and the session stays
  still : To s 0
  still =
      by_test (eqb (held_in s.phase) 0)
      (λ m.
      let z : held_in s.phase ≡ 0 = eqb-true _ _ m in
      record { size = g.size; count = rw m (sym z); same = rw (m, z) refl; fresh = g.fresh })
      (λ m. record { size = g.size; count = rw (m, append-nil) g.count; same = rw (m, append-nil) g.same; fresh = g.fresh })

  -- no byte of a packet is held then
  free : (z : Session) (n : ℕ) → held_in z.phase ≡ 0 → length z.window ≡ 48 → FreshIn z.phase z.window z.reads → To z n
  free z n e w f = record { size = w; count = rw e refl; same = rw e refl; fresh = f }

  -- ---- packet

  module _ (same : take (length b) s.window ≡ take 48 b) (none : s.reads ≡ 0) where
    -- it goes on: the whole delivery is held besides
    more : held_limit (keep s.window (length b) d) (length (b ++ d)) ≡ false
        → To (holding s (keep s.window (length b) d) (P.Packet (length (b ++ d)))) (length d)
    more l =
        let w : List ℕ = keep s.window (length b) d in
        let full : length w ≡ 48 = keep_length s.window (length b) d g.size in
        by_test (eqb (length (b ++ d)) 0)
        (λ m. free (holding s w (P.Packet (length (b ++ d)))) (length d) (eqb-true (length (b ++ d)) 0 m) full (l, none))
        (λ m.
        let e : take (length (b ++ d)) w ≡ take 48 (b ++ d) = rw length-append (keep_same s.window b d g.size same) in
        record { size = full; count = rw (m, take-length) refl; same = rw (m, take-length) e; fresh = (l, none) })

    acted_holds : (n : ℕ) (w : List ℕ) (v : Result Verdict Refusal) → length w ≡ 48 → Keeps (acted s n w t y o v)
    acted_holds n w (Ok (W.Reply q)) e = free _ n refl e (refl, none)
    acted_holds n w (Ok (W.Image x k)) e = free _ n refl e (refl, none)
    acted_holds n w (Ok W.Pass) e = free _ n refl e (refl, none)
    acted_holds n w (Ok (W.Finish how)) e = free _ n refl g.size tt
    acted_holds n w (Ok (W.Respond c k)) e = free _ n refl e tt
    acted_holds n w (Ok (W.Debug v a k)) e = free _ n refl e tt
    acted_holds n w (Err why) e = free _ n refl g.size tt

    over_holds : Keeps (packet_over s b d set t y o)
    unfolding packet_over
    over_holds =
        let p : List ℕ = b ++ d in
        let n : ℕ = length_field p - length b in
        let w : List ℕ = keep s.window (length b) d in
        split Keeps (ltb (length p) 8) (λ m. more (few_within w (length p) (ltb-true _ _ m)))
        (λ m.
        split Keeps (bad_length (length_field p)) (λ i. free _ (8 - length b) refl g.size tt)
        (λ i.
        split Keeps (ltb (length p) (length_field p))
        (λ j.
        let z : 8 ≤ length b + length d = omega (arith, length-append b d, ltb-false (length p) 8 m) in
        let q : length_field w ≡ length_field p = rw take-length at (header s b d g.size same (length d) (omega arith) z) in
        more (part_within w (length p) (ap bad_length q ∙ i) (rw q (ltb-true _ _ j))))
        (λ j.
        acted_holds n (keep s.window (length b) (take n d)) (verdict_of s.opening set (length t) (length y) (take (length_field p) p))
        (keep_length s.window (length b) (take n d) g.size))))

  -- ---- the other phases leave the window as it is

  open_holds : (k i : ℕ) (e : List ℕ) (c : Result Unit Refusal) → Keeps (outcome (open_of (field_size s.width) s k i e c) t y o)
  open_holds k i e (Ok tt) = free _ 0 refl g.size tt
  open_holds k i e (Err why) = free _ 0 refl g.size tt

  next_holds : (k : ℕ) (x : Region) → Keeps (next_chunk s k x t y o)
  unfolding next_chunk
  next_holds k x = split Keeps (leb x.len x.done) (λ e. free _ 0 refl g.size tt) (λ e. free _ 0 refl g.size tt)

  begun_holds : (k : ℕ) (x : Region) (c : Result Unit Refusal) → Keeps (begun_of s k x t y o c)
  begun_holds k x (Ok tt) = split Keeps (ltb (256 ^ field_size s.width) (x.base + x.len)) (λ e. free _ 0 refl g.size tt) (λ e. next_holds k x)
  begun_holds k x (Err why) = free _ 0 refl g.size tt

  region_holds : (k : ℕ) (x : Region) → Keeps (region_of s k x d t y o)
  unfolding region_of ask_of hand_of
  region_holds k x =
      split Keeps x.due (λ e. free _ 0 refl g.size tt)
      (λ e.
      split Keeps (eqb x.outstanding 0)
      (λ m.
      split Keeps (eqb x.done 0) (λ i. begun_holds k x (after_open_check (name_in s.width t x))) (λ i. next_holds k x))
      (λ m. split Keeps (eqb (length d) 0) (λ i. still) (λ i. free _ (min x.outstanding (length d)) refl g.size tt)))

  phase_holds : (p : Phase) → length b ≡ held_in p → FreshIn p s.window s.reads → Keeps (on_phase s p d set names t y o)
  unfolding response_of switched_of table_of between_of
  phase_holds (P.Packet k) e f =
      let same : take (length b) s.window ≡ take 48 b = ap (λ (i : ℕ). take i s.window) g.count ∙ g.same in
      let l : held_limit s.window (length b) ≡ false = rw e f.0 in
      subst (λ (i : ℕ). Keeps (packet_of s i d set t y o)) e (subst Keeps (sym (over s b d g.size same set t y o l)) (over_holds same f.1))
  phase_holds (P.Response x) e f =
      let n : ℕ = min (x.declared - x.filled) (length d) in
      split Keeps (ltb (x.filled + n) x.declared) (λ m. free _ n refl g.size tt) (λ m. free _ n refl g.size tt)
  phase_holds (P.Switched k) e f = free _ 0 refl g.size tt
  phase_holds (P.Table x) e f =
      let n : ℕ = min (x.declared - x.filled) (length d) in
      split Keeps (ltb (x.filled + n) x.declared) (λ m. free _ n refl g.size tt) (λ m. free _ n refl g.size tt)
  phase_holds (P.Between k from) e f =
      let w : ℕ = field_size s.width in
      let i : ℕ = next_of w names t (entries_in w k - from) from in
      split (λ (r : Stepped). Keeps (outcome r t y o)) (ltb i (entries_in w k))
      (λ m. open_holds k i (entry_of w t i) (open_check (filename_of w (entry_of w t i)))) (λ m. free _ 0 refl g.size tt)
  phase_holds (P.Region k x) e f = region_holds k x
  phase_holds (P.Ended k) e f = still

  pub holds_step : Keeps (step_of s d set names t y o)
  unfolding step_of
  holds_step =
      split Keeps (not (well_formed true set)) (λ m. still)
      (λ m.
      split Keeps (not (well_formed false names)) (λ m. still)
      (λ m.
      split Keeps (ltb (length o) 48) (λ m. still)
      (λ m.
      split Keeps (is_ended s.phase) (λ m. still)
      (λ m. split Keeps (limit_of s t y) (λ m. still) (λ m. phase_holds s.phase g.count g.fresh)))))
