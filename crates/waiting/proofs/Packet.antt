-- The packet phase with all the bytes. The window holds the first 48 of those held, a verdict looks at no more, and so the phase is `packet_over`: by the
-- tests of its definition. Assumes nothing.
use mathlib.Core.Path.{◌≡◌, refl, sym, ap, ◌∙◌}
use mathlib.Core.Bool.{false}
use mathlib.Core.List.{List, ◌++◌}
use Prim.Native.Nat.{ℕ, ◌+◌, ◌-◌, ◌≤◌, ◌<◌, min}
use native.Mathlib.Omega.{arith}
use borrow.Author.Tests.{ltb-true, ltb-false, le-ltb}
use lib.Dec.{ltb}
use lib.ListN.{length, take, length-append}
use lib.Seq.{take-length, take-take, take-append-add, take-append-le, length-take-le}
use Rattle.base.proofs.Ranges.{by_test}
use Rattle.field.proofs.Laws.{le_same}
use Rattle.packet.specs.Packet.{length_field, bad_length}
use Rattle.verdict.specs.Verdict.{verdict_of}
use Rattle.verdict.proofs.Laws.{verdict_window}
use Rattle.session.specs.declared.Session.{Session}
use Rattle.session.specs.PacketPhase.{keep, acted, whole_of, sized_of, packet_of}
use Rattle.session.specs.Limits.{held_limit}
use Rattle.session.proofs.Window.{keep_same}
use Rattle.waiting.specs.Window.{packet_over}
use Rattle.waiting.proofs.Waiting.{held_within, eight_or_more}

-- a packet's bytes are those held, b, and those taken of the delivery d
pub packet_bytes_lem : (b d : List ℕ) → length b ≤ length_field (b ++ d)
    → b ++ take (length_field (b ++ d) - length b) d ≡ take (length_field (b ++ d)) (b ++ d)
packet_bytes_lem b d l =
    let n : ℕ = length_field (b ++ d) - length b in
    let e : length b + n ≡ length_field (b ++ d) = omega arith in
    sym (take-append-add b d n) ∙ ap (λ (i : ℕ). take i (b ++ d)) e

-- ---- the packet phase is that with all the bytes

module _ (s : Session) (b d : List ℕ) (full : length s.window ≡ 48) (same : take (length b) s.window ≡ take 48 b) where
  abbrev held : ℕ
  held = length b

  -- the window with k bytes more has the first 48 of the first held + k
  window_same : (k : ℕ) → k ≤ length d → take (held + k) (keep s.window held (take k d)) ≡ take 48 (take (held + k) (b ++ d))
  window_same k l =
      ap (λ (i : ℕ). take (held + i) (keep s.window held (take k d))) (sym (length-take-le k d l))
      ∙ keep_same s.window b (take k d) full same
      ∙ ap (take 48) (sym (take-append-add b d k))

  -- the header in it is that of all the bytes
  pub header : (k : ℕ) → k ≤ length d → 8 ≤ held + k → length_field (keep s.window held (take k d)) ≡ length_field (b ++ d)
  header k l y =
      let v : List ℕ = keep s.window held (take k d) in
      let e : take 8 v ≡ take 8 (b ++ d) =
      sym (take-take 8 (held + k) v y) ∙ ap (take 8) (window_same k l) ∙ take-take 8 48 (take (held + k) (b ++ d)) (omega arith)
      ∙ take-take 8 (held + k) (b ++ d) y in
      le_same 4 4 8 v (b ++ d) (omega arith) e

  header_held : 8 ≤ held → length_field s.window ≡ length_field (b ++ d)
  header_held y =
      let e : take 8 s.window ≡ take 8 (b ++ d) =
      sym (take-take 8 held s.window y) ∙ ap (take 8) same ∙ take-take 8 48 b (omega arith) ∙ sym (take-append-le 8 b d y) in
      le_same 4 4 8 s.window (b ++ d) (omega arith) e

  -- within the limits the bytes held are less than a packet
  short : held_limit s.window held ≡ false → bad_length (length_field (b ++ d)) ≡ false → held < length_field (b ++ d)
  short l g =
      by_test (ltb held 8) (λ m. omega (arith, ltb-true held 8 m, eight_or_more (length_field (b ++ d)) g))
      (λ m. let y : 8 ≤ held = ltb-false held 8 m in omega (arith, (held_within s.window held l y).1, header_held y))

  module _ (set t y o : List ℕ) where
    -- the verdict on the window is that on the packet
    whole : (n : ℕ) → n ≤ length d → 8 ≤ held + n → held + n ≡ length_field (b ++ d)
        → whole_of s n (keep s.window held (take n d)) set t y o
        ≡ acted s n (keep s.window held (take n d)) t y o (verdict_of s.opening set (length t) (length y) (take (length_field (b ++ d)) (b ++ d)))
    unfolding whole_of
    whole n l z e =
        let v : List ℕ = keep s.window held (take n d) in
        let f : take (length_field (b ++ d)) v ≡ take 48 (take (length_field (b ++ d)) (b ++ d)) = rw (← e) (window_same n l) in
        ap (acted s n v t y o)
        (ap (λ (i : ℕ). verdict_of s.opening set (length t) (length y) (take i v)) (header n l z)
        ∙ ap (verdict_of s.opening set (length t) (length y)) f
        ∙ verdict_window s.opening set (length t) (length y) (take (length_field (b ++ d)) (b ++ d)))

    pub over : held_limit s.window held ≡ false → packet_of s held d set t y o ≡ packet_over s b d set t y o
    unfolding packet_of sized_of packet_over
    over l =
        let size : ℕ = length_field (b ++ d) in
        rw (length-append b d)
        (by_test (ltb (held + length d) 8) (λ m. rw m refl)
        (λ m.
        let z : 8 ≤ held + length d = ltb-false _ _ m in
        let e : length_field (keep s.window held d) ≡ size = rw take-length at (header (length d) (omega arith) z) in
        rw (m, e)
        (by_test (bad_length size) (λ g. rw g refl)
        (λ g.
        rw g
        (by_test (ltb (held + length d) size)
        (λ i.
        let q : min (size - held) (length d) ≡ length d = omega (arith, ltb-true (held + length d) size i) in
        rw (q, i, take-length) refl)
        (λ i.
        let c : size ≤ held + length d = ltb-false _ _ i in
        let a : held < size = short l g in
        let q : min (size - held) (length d) ≡ size - held = omega arith in
        let j : held + (size - held) ≡ size = omega arith in
        rw (q, i, le-ltb (held + (size - held)) size (omega arith))
        (whole (size - held) (omega arith) (omega (arith, eight_or_more size g)) j)))))))
