-- The law at one step, of a packet: by whether d is short of the header, of the packet's end, or neither. Assumes nothing.
use mathlib.Core.Path.{◌≡◌, refl, sym, subst}
use mathlib.Core.Bool.{true, false}
use mathlib.Core.List.{List, ◌++◌}
use Prim.Native.Nat.{ℕ, ◌+◌, ◌-◌, ◌≤◌, ◌<◌, min}
use native.Mathlib.Omega.{arith}
use borrow.Author.Tests.{ltb-true, ltb-false, le-ltb, lt-leb}
use lib.Dec.{ltb, leb}
use lib.ListN.{length, take, length-append}
use lib.Seq.{take-append-le, take-length, take-append-add}
use Rattle.base.proofs.Ranges.{by_test}
use Rattle.base.proofs.Tests.{differ, and_false}
use Rattle.packet.specs.Packet.{length_field, bad_length}
use Rattle.verdict.specs.Verdict.{verdict_of}
use Rattle.verdict.specs.declared.Verdict.{Verdict}
use Rattle.verdict.specs.declared.Verdict.TheVariants as W
use Rattle.session.specs.declared.Phase.TheVariants as P
use Rattle.session.specs.declared.Session.{Session}
use Rattle.session.specs.declared.Answer.TheVariants as A
use Rattle.session.specs.Outcome.{Outcome, outcome, gives, holding}
use Rattle.session.specs.PacketPhase.{keep, acted, whole_of, sized_of, packet_of}
use Rattle.session.proofs.Window.{keep_length}
use Rattle.waiting.specs.Waiting.{InOrder}
use Rattle.waiting.proofs.Waiting.{keep_header, eight_or_more}
use Rattle.division.specs.Law.{Joined, alone, joined}
use Rattle.division.proofs.Window.{keep_keep}
use Rattle.division.proofs.Phases.{Law, still_in_order}
use Rattle.std.specs.Prelude.{Result, Ok, Err}
use Rattle.refusal.specs.declared.Refusal.{Refusal}

-- a good length is 4,096 at most
most : (n : ℕ) → bad_length n ≡ false → n ≤ 4096
most n g = by_test (ltb n 8) (λ m. differ (sym (rw m at g))) (λ m. ltb-false 4096 n (rw m at g))

module _ (s : Session) (set names d e t y o : List ℕ) (h : ℕ) (full : length s.window ≡ 48) (inOrder : InOrder s set names t y o) where
  abbrev a : ℕ
  a = length d

  -- the window and the session after d, which is short of the packet's end
  abbrev v : List ℕ
  v = keep s.window h d

  abbrev z : Session
  z = holding s v (P.Packet (h + a))

  abbrev short : Outcome
  short = outcome (gives z a A.Go) t y o

  abbrev Joins : Outcome → Outcome → Type 0
  Joins q r = Joined (P.Packet h) set names d e short q r

  -- a whole packet: what the verdict asks for, from s with a + n bytes or from z with n
  acted_joined : InOrder z set names t y o → (n : ℕ) (w : List ℕ) (x : Result Verdict Refusal) → Joins (acted z n w t y o x) (acted s (a + n) w t y o x)
  acted_joined ord n w (Ok (W.Reply q)) =
      record { live = refl; packet = refl; order = ord; all = refl; taken = refl; session = refl; table = refl; reply = refl; out = refl; events = refl }
  acted_joined ord n w (Ok (W.Image i k)) =
      record { live = refl; packet = refl; order = ord; all = refl; taken = refl; session = refl; table = refl; reply = refl; out = refl; events = refl }
  acted_joined ord n w (Ok W.Pass) =
      record { live = refl; packet = refl; order = ord; all = refl; taken = refl; session = refl; table = refl; reply = refl; out = refl; events = refl }
  acted_joined ord n w (Ok (W.Finish how)) =
      record { live = refl; packet = refl; order = ord; all = refl; taken = refl; session = refl; table = refl; reply = refl; out = refl; events = refl }
  acted_joined ord n w (Ok (W.Respond c k)) =
      record { live = refl; packet = refl; order = ord; all = refl; taken = refl; session = refl; table = refl; reply = refl; out = refl; events = refl }
  acted_joined ord n w (Ok (W.Debug b i k)) =
      record { live = refl; packet = refl; order = ord; all = refl; taken = refl; session = refl; table = refl; reply = refl; out = refl; events = refl }
  acted_joined ord n w (Err why) =
      record { live = refl; packet = refl; order = ord; all = refl; taken = refl; session = refl; table = refl; reply = refl; out = refl; events = refl }

  -- the session between is within its limits
  early : h + a < 8 → InOrder z set names t y o
  early l = still_in_order s z set names t y o t y inOrder refl (rw (le-ltb 4095 (h + a) (omega arith), lt-leb 8 (h + a) l) refl)

  late : bad_length (length_field v) ≡ false → h + a < length_field v → InOrder z set names t y o
  late g l =
      let b : length_field v ≤ 4096 = most (length_field v) g in
      still_in_order s z set names t y o t y inOrder refl
      (rw (le-ltb 4095 (h + a) (omega arith), g, lt-leb (length_field v) (h + a) l) (and_false (leb 8 (h + a))))

  -- the header is whole, and its length good: d is short of the packet's end
  sized_joined : InOrder z set names t y o → (size : ℕ) → bad_length size ≡ false → h + a < size
      → Joins (sized_of z (h + a) e size set t y o) (sized_of s h (d ++ e) size set t y o)
  unfolding sized_of whole_of
  sized_joined ord size g l =
      let n : ℕ = min (size - (h + a)) (length e) in
      let i : min (size - h) (length (d ++ e)) ≡ a + n = omega (arith, length-append d e) in
      let j : h + (a + n) ≡ h + a + n = omega arith in
      let w : List ℕ = keep v (h + a) (take n e) in
      rw (g, i, take-append-add d e n, ← keep_keep s.window h d (take n e) full, j)
      (by_test (ltb (h + a + n) size)
      (λ m.
      rw m
      (record { live = refl; packet = refl; order = ord; all = refl; taken = refl; session = refl; table = refl; reply = refl; out = refl; events = refl }))
      (λ m. rw m (acted_joined ord n w (verdict_of s.opening set (length t) (length y) (take (length_field w) w)))))

  -- short of the header: it may end with a bad length
  bad_joined : InOrder z set names t y o → (size : ℕ) → bad_length size ≡ true → h + a < 8
      → Joins (sized_of z (h + a) e size set t y o) (sized_of s h (d ++ e) size set t y o)
  unfolding sized_of
  bad_joined ord size g l =
      let i : 8 - h ≡ a + (8 - (h + a)) = omega arith in
      rw (g, i)
      (record { live = refl; packet = refl; order = ord; all = refl; taken = refl; session = refl; table = refl; reply = refl; out = refl; events = refl })

  abbrev Packets : Outcome → Outcome → Type 0
  Packets p r = Law s set names d e t y o inOrder (P.Packet h) p r

  -- d has the header
  long : 8 ≤ h + a → Packets (sized_of s h d (length_field v) set t y o) (sized_of s h (d ++ e) (length_field v) set t y o)
  unfolding sized_of packet_of
  long l =
      let size : ℕ = length_field v in
      by_test (bad_length size) (λ g. rw g (alone refl))
      (λ g.
      by_test (ltb (h + a) size)
      (λ m.
      let i : min (size - h) a ≡ a = omega (arith, ltb-true (h + a) size m) in
      let q : length_field (keep v (h + a) e) ≡ size = keep_header v (keep_length s.window h d full) (h + a) e l in
      let ord : InOrder z set names t y o = late g (ltb-true (h + a) size m) in
      let f : sized_of s h d size set t y o ≡ short = rw (g, i, m, take-length d) refl in
      let b : packet_of z (h + a) e set t y o ≡ sized_of z (h + a) e size set t y o = rw (le-ltb (h + a + length e) 8 (omega arith), q) refl in
      subst (λ (p : Outcome). Packets p (sized_of s h (d ++ e) size set t y o)) (sym f)
      (joined (subst (λ (p : Outcome). Joins p (sized_of s h (d ++ e) size set t y o)) (sym b) (sized_joined ord size g (ltb-true _ _ m)))))
      (λ m.
      let c : size ≤ h + a = ltb-false _ _ m in
      let j : min (size - h) (length (d ++ e)) ≡ min (size - h) a = omega (arith, length-append d e) in
      alone (rw (g, j, take-append-le (min (size - h) a) d e (omega arith)) refl)))

  pub packet_law : Packets (packet_of s h d set t y o) (packet_of s h (d ++ e) set t y o)
  unfolding packet_of
  packet_law =
      let size : ℕ = length_field (keep v (h + a) e) in
      let k : h + length (d ++ e) ≡ h + a + length e = omega (arith, length-append d e) in
      rw (← keep_keep s.window h d e full, k)
      (by_test (ltb (h + a) 8)
      (λ m.
      let l : h + a < 8 = ltb-true _ _ m in
      let ord : InOrder z set names t y o = early l in
      rw m
      (joined
      (by_test (ltb (h + a + length e) 8)
      (λ i.
      rw i
      (record {
        live = refl;
        packet = refl;
        order = ord;
        all = refl;
        taken = length-append d e;
        session = refl;
        table = refl;
        reply = refl;
        out = refl;
        events = refl;
      }))
      (λ i.
      rw i (by_test (bad_length size) (λ g. bad_joined ord size g l) (λ g. sized_joined ord size g (omega (arith, eight_or_more size g))))))))
      (λ m.
      let l : 8 ≤ h + a = ltb-false _ _ m in
      let q : size ≡ length_field v = keep_header v (keep_length s.window h d full) (h + a) e l in
      rw (m, le-ltb (h + a + length e) 8 (omega arith), q) (long l)))
