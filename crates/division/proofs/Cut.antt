-- Where a region's chunk ends before the region does, it ends at a multiple of 512 (`CutAt` of fetch/proofs/Chunk): every step keeps it so. By the phase.
-- Assumes
-- nothing.
use mathlib.Core.Path.{◌≡◌, refl}
use mathlib.Core.Bool.{true, false, not}
use mathlib.Core.List.{List}
use Prim.Native.Nat.{ℕ, ◌+◌, ◌-◌, ◌^◌, min}
use native.Mathlib.Omega.{arith}
use borrow.Author.Tests.{leb-false, eqb-true}
use lib.Dec.{ltb, leb, eqb}
use lib.ListN.{length, take}
use Rattle.base.proofs.Tests.{split}
use Rattle.bundle.specs.Bundle.{well_formed}
use Rattle.field.specs.Field.{field_size}
use Rattle.entry.specs.Entry.{entries_in, entry_of, filename_of}
use Rattle.filename.specs.Filename.{open_check, after_open_check}
use Rattle.selection.specs.Selection.{next_of}
use Rattle.packet.specs.Packet.{length_field, bad_length}
use Rattle.verdict.specs.Verdict.{verdict_of}
use Rattle.verdict.specs.declared.Verdict.{Verdict}
use Rattle.verdict.specs.declared.Verdict.TheVariants as W
use Rattle.session.specs.declared.Region.{Region}
use Rattle.session.specs.declared.Phase.{Phase}
use Rattle.session.specs.declared.Phase.TheVariants as P
use Rattle.session.specs.declared.Session.{Session}
use Rattle.session.specs.declared.Stepped.{Stepped}
use Rattle.session.specs.Outcome.{Outcome, outcome, is_ended}
use Rattle.session.specs.PacketPhase.{keep, acted, whole_of, sized_of, packet_of}
use Rattle.session.specs.FillingPhase.{response_of, switched_of, table_of}
use Rattle.session.specs.BetweenPhase.{open_of, between_of}
use Rattle.session.specs.RegionPhase.{name_in, next_chunk, begun_of, ask_of, hand_of, region_of}
use Rattle.session.specs.Limits.{limit_of}
use Rattle.session.specs.Step.{on_phase, step_of}
use Rattle.fetch.proofs.Chunk.{CutAt, asked_cut, handed_cut}
use Rattle.std.specs.Prelude.{Result, Ok, Err}
use Rattle.refusal.specs.declared.Refusal.{Refusal}

abbrev pub CutIn : Phase → Type 0
CutIn (P.Packet h) = Unit
CutIn (P.Response x) = Unit
CutIn (P.Switched k) = Unit
CutIn (P.Table x) = Unit
CutIn (P.Between k i) = Unit
CutIn (P.Region k x) = CutAt x
CutIn (P.Ended k) = Unit

module _ (s : Session) (d set names t y o : List ℕ) where
  abbrev Cut : Outcome → Type 0
  Cut r = CutIn r.stepped.session.phase

  acted_cut : (n : ℕ) (w : List ℕ) (v : Result Verdict Refusal) → Cut (acted s n w t y o v)
  acted_cut n w (Ok (W.Reply q)) = tt
  acted_cut n w (Ok (W.Image x k)) = tt
  acted_cut n w (Ok W.Pass) = tt
  acted_cut n w (Ok (W.Finish how)) = tt
  acted_cut n w (Ok (W.Respond c k)) = tt
  acted_cut n w (Ok (W.Debug v a k)) = tt
  acted_cut n w (Err why) = tt

  packet_cut : (h : ℕ) → Cut (packet_of s h d set t y o)
  unfolding packet_of sized_of whole_of
  packet_cut h =
      let size : ℕ = length_field (keep s.window h d) in
      let n : ℕ = min (size - h) (length d) in
      let w : List ℕ = keep s.window h (take n d) in
      split Cut (ltb (h + length d) 8) (λ e. tt)
      (λ e. split Cut (bad_length size) (λ m. tt) (λ m. split Cut (ltb (h + n) size) (λ k. tt)
      (λ k. acted_cut n w (verdict_of s.opening set (length t) (length y) (take (length_field w) w)))))

  open_cut : (k i : ℕ) (e : List ℕ) (c : Result Unit Refusal) → Cut (outcome (open_of (field_size s.width) s k i e c) t y o)
  open_cut k i e (Ok tt) = λ l. refl
  open_cut k i e (Err why) = tt

  module _ (k : ℕ) (x : Region) (c : CutAt x) where
    next_cut : x.outstanding ≡ 0 → Cut (next_chunk s k x t y o)
    unfolding next_chunk
    next_cut z = split Cut (leb x.len x.done) (λ m. tt) (λ m. asked_cut s.opening x c z (leb-false _ _ m))

    begun_cut : x.outstanding ≡ 0 → (n : Result Unit Refusal) → Cut (begun_of s k x t y o n)
    begun_cut z (Ok tt) = split Cut (ltb (256 ^ field_size s.width) (x.base + x.len)) (λ m. tt) (λ m. next_cut z)
    begun_cut z (Err why) = tt

    hand_cut : CutIn s.phase → Cut (hand_of s k x d t y o)
    unfolding hand_of
    hand_cut old = split Cut (eqb (length d) 0) (λ m. old) (λ m. handed_cut x (min x.outstanding (length d)) c (omega arith))

    region_cut : CutIn s.phase → Cut (region_of s k x d t y o)
    unfolding region_of ask_of
    region_cut old =
        split Cut x.due (λ m. c)
        (λ m.
        split Cut (eqb x.outstanding 0)
        (λ z.
        split Cut (eqb x.done 0) (λ i. begun_cut (eqb-true _ _ z) (after_open_check (name_in s.width t x))) (λ i. next_cut (eqb-true _ _ z)))
        (λ z. hand_cut old))

  phase_cut : (p : Phase) → CutIn p → CutIn s.phase → Cut (on_phase s p d set names t y o)
  unfolding response_of switched_of table_of between_of
  phase_cut (P.Packet h) c old = packet_cut h
  phase_cut (P.Response x) c old =
      split Cut (ltb (x.filled + min (x.declared - x.filled) (length d)) x.declared) (λ m. tt) (λ m. tt)
  phase_cut (P.Switched k) c old = tt
  phase_cut (P.Table x) c old = split Cut (ltb (x.filled + min (x.declared - x.filled) (length d)) x.declared) (λ m. tt) (λ m. tt)
  phase_cut (P.Between k from) c old =
      let w : ℕ = field_size s.width in
      let i : ℕ = next_of w names t (entries_in w k - from) from in
      split (λ (r : Stepped). Cut (outcome r t y o)) (ltb i (entries_in w k))
      (λ m. open_cut k i (entry_of w t i) (open_check (filename_of w (entry_of w t i)))) (λ m. tt)
  phase_cut (P.Region k x) c old = region_cut k x c old
  phase_cut (P.Ended k) c old = old

  pub cut_step : CutIn s.phase → Cut (step_of s d set names t y o)
  unfolding step_of
  cut_step c =
      split Cut (not (well_formed true set)) (λ m. c)
      (λ m.
      split Cut (not (well_formed false names)) (λ m. c)
      (λ m.
      split Cut (ltb (length o) 48) (λ m. c)
      (λ m. split Cut (is_ended s.phase) (λ m. c) (λ m. split Cut (limit_of s t y) (λ m. c) (λ m. phase_cut s.phase c c)))))
