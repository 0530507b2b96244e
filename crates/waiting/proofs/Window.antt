-- A packet is judged whole: one step that holds its bytes (`whole_packet`, `completes_whole`), then any list of steps from the opening by induction
-- (`judged_whole`). Assumes nothing.
use mathlib.Core.Path.{◌≡◌, refl, sym, ap, subst, ◌∙◌}
use mathlib.Core.Bool.{true, false}
use mathlib.Core.List.{List, [], ◌∷◌, ◌++◌}
use Prim.Native.Nat.{ℕ, ◌+◌, ◌-◌, ◌≤◌}
use native.Mathlib.Omega.{arith}
use borrow.Author.Tests.{le-ltb}
use lib.ListN.{length, take, length-append}
use Rattle.field.specs.Field.{field_size}
use Rattle.bundle.specs.Bundle.{well_formed}
use Rattle.packet.specs.Packet.{length_field, bad_length}
use Rattle.verdict.specs.Verdict.{verdict_of}
use Rattle.verdict.specs.declared.Opening.{Opening}
use Rattle.session.specs.declared.Phase.{Phase}
use Rattle.session.specs.declared.Phase.TheVariants as P
use Rattle.session.specs.declared.Session.{Session}
use Rattle.session.specs.Outcome.{held_in, opened_with}
use Rattle.session.specs.PacketPhase.{keep, acted}
use Rattle.session.specs.Limits.{held_limit, phase_limit, limit_of}
use Rattle.session.specs.Step.{on_phase, step_of}
use Rattle.steps.specs.Steps.{final}
use Rattle.waiting.specs.Window.{FreshIn, HoldsBytes, packet_over, StepLent, step_with, WithHeld, opened_held, next_held}
use Rattle.waiting.proofs.Waiting.{eight_or_more, step_is_phase}
use Rattle.waiting.proofs.Packet.{packet_bytes_lem, over}
use Rattle.waiting.proofs.Held.{holds_step}

-- a step lent a well-formed image set and names and an out buffer of 48 bytes or more, h bytes b of a packet being held (else it is refused with 1, 2 or 3)
module _ (s : Session) (b set names t y o : List ℕ) (h : ℕ) (g : HoldsBytes s b) (e : s.phase ≡ P.Packet h) (images : well_formed true set ≡ true)
    (stems : well_formed false names ≡ true) (room : 48 ≤ length o) where
  phase_held : s.phase ≡ P.Packet (length b)
  phase_held = e ∙ ap P.Packet (sym (g.count ∙ ap held_in e))

  held : (held_limit s.window (length b) ≡ false) × (s.reads ≡ 0)
  held = subst (λ (p : Phase). FreshIn p s.window s.reads) phase_held g.fresh

  same_held : take (length b) s.window ≡ take 48 b
  same_held = ap (λ (k : ℕ). take k s.window) g.count ∙ g.same

  -- it is not refused with 18
  limits_held : limit_of s t y ≡ false
  unfolding limit_of
  limits_held =
      let f : ℕ = field_size s.width in
      let l : phase_limit f s.window s.phase t y ≡ false = ap (λ (p : Phase). phase_limit f s.window p t y) phase_held ∙ held.0 in
      rw (l, held.1) refl

  -- it is the packet phase with all the bytes
  pub whole_packet : (d : List ℕ) → step_of s d set names t y o ≡ packet_over s b d set t y o
  whole_packet d =
      step_is_phase s set names t y o (record { images = images; stems = stems; room = room; limits = limits_held }) d
      ∙ ap (λ (q : Phase). on_phase s q d set names t y o) phase_held ∙ over s b d g.size same_held set t y o held.0

  -- and so a step that completes a packet does what the verdict on the bytes held and the n taken asks for, which are the whole packet
  pub completes_whole : (d : List ℕ) (n : ℕ) → bad_length (length_field (b ++ d)) ≡ false → length b + n ≡ length_field (b ++ d) → n ≤ length d
      → step_of s d set names t y o
      ≡ acted s n (keep s.window (length b) (take n d)) t y o (verdict_of s.opening set (length t) (length y) (b ++ take n d))
  unfolding packet_over
  completes_whole d n good q m =
      let size : ℕ = length_field (b ++ d) in
      let l : 8 ≤ size = eight_or_more size good in
      let z : size - length b ≡ n = omega arith in
      let c : b ++ take n d ≡ take size (b ++ d) = ap (λ (k : ℕ). b ++ take k d) (sym z) ∙ packet_bytes_lem b d (omega arith) in
      whole_packet d
      ∙ rw (length-append b d, le-ltb (length b + length d) 8 (omega arith), good, le-ltb (length b + length d) size (omega arith), z, c) refl

-- ---- any list of steps

opened_holds : (u : Opening) → HoldsBytes (opened_with u) []
opened_holds u = record { size = refl; count = refl; same = refl; fresh = (refl, refl) }

holds_from : (is : List StepLent) (k : WithHeld) → HoldsBytes k.session k.held → HoldsBytes (final next_held k is).session (final next_held k is).held
holds_from [] k g = g
holds_from (i ∷ is) k g =
    holds_from is (next_held k i) (holds_step k.session k.held i.delivery i.set i.names i.table i.reply i.out g)

module _ (u : Opening) (is : List StepLent) where
  -- the session and the bytes held after the list, from the opening
  abbrev pub after : WithHeld
  after = final next_held (opened_held u) is

  pub holds_run : HoldsBytes after.session after.held
  holds_run = holds_from is (opened_held u) (opened_holds u)

  -- the whole packet is judged, in any step after any list of steps
  pub judged_whole : (d set names t y o : List ℕ) (h : ℕ) → after.session.phase ≡ P.Packet h
      → well_formed true set ≡ true → well_formed false names ≡ true → 48 ≤ length o
      → step_of after.session d set names t y o ≡ packet_over after.session after.held d set t y o
  judged_whole d set names t y o h e images stems room =
      whole_packet after.session after.held set names t y o h holds_run e images stems room d

-- the sessions are those of the steps alone
pub sessions_run : (is : List StepLent) (k : WithHeld) → (final next_held k is).session ≡ final (λ s i. (step_with s i).stepped.session) k.session is
sessions_run [] k = refl
sessions_run (i ∷ is) k = sessions_run is (next_held k i)
