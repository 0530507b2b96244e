-- The plain host's opening bytes, one packet at a time: by the tests of `hear`, and by induction on its fuel, of which the string's length is enough.
-- Assumes nothing.
use mathlib.Core.Path.{◌≡◌, refl, sym, ◌∙◌}
use mathlib.Core.Logic.{◌⊎◌, inl, inr}
use mathlib.Core.Bool.{true, false, true≢false}
use mathlib.Core.List.{List}
use Prim.Native.Nat.{ℕ, zero, suc, ◌-◌, ◌≤◌, ◌<◌}
use native.Mathlib.Omega.{arith}
use lib.Dec.{ltb}
use lib.ListN.{length, take, drop, length-drop}
use borrow.Author.Tests.{ltb-true, ltb-false, lt-ltb}
use Rattle.base.proofs.Ranges.{by_test}
use Rattle.packet.specs.Packet.{length_field, bad_length}
use Rattle.verdict.specs.Verdict.{verdict_of}
use Rattle.verdict.specs.declared.Opening.{Opening}
use Rattle.fetch.specs.Plain.{Debug, Heard, Stopped, Responded, Debugged, stop, after, hear}

-- a packet's length is 8..4096
pub record Sized (size : ℕ) : Type 0 where
  pub low : 8 ≤ size
  pub high : size ≤ 4096

pub size_ok : (size : ℕ) → bad_length size ≡ false → Sized size
size_ok size e =
    by_test (ltb size 8) (λ m. absurd (let z : true ≡ false = rw m at e in let y : ◌≡◌ {A = ℕ} 0 1 = cc in omega arith))
    (λ m. record { low = ltb-false _ _ m; high = ltb-false _ _ (rw m at e) })

-- neither stop is a memory debug
pub never : {A : Type 0} (dbg : Debug) (s : List ℕ) → Stopped ≡ Debugged dbg s → A
never dbg s e = absurd (let y : ◌≡◌ {A = ℕ} 0 1 = cc in omega arith)

pub no_response : {A : Type 0} (dbg : Debug) (s : List ℕ) → Responded ≡ Debugged dbg s → A
no_response dbg s e = absurd (let y : ◌≡◌ {A = ℕ} 0 1 = cc in omega arith)

module _ (u : Opening) (set : List ℕ) (tsize rsize : ℕ) where
  -- enough fuel is enough
  pub fuel : (f g : ℕ) (s : List ℕ) → length s ≤ f → length s ≤ g → hear u set tsize rsize f s ≡ hear u set tsize rsize g s
  unfolding hear
  fuel zero zero s h k = refl
  fuel zero (suc g) s h k = rw (lt-ltb (length s) 8 (omega arith)) refl
  fuel (suc f) zero s h k = rw (lt-ltb (length s) 8 (omega arith)) refl
  fuel (suc f) (suc g) s h k =
      by_test (ltb (length s) 8) (λ e. rw e refl)
      (λ e.
      by_test (bad_length (length_field s)) (λ m. rw (e, m) refl)
      (λ m.
      let z : Sized (length_field s) = size_ok _ m in
      let l : length (drop (length_field s) s) ≡ length s - length_field s = length-drop _ s in
      rw (e, m, fuel f g (drop (length_field s) s) (omega arith) (omega arith)) refl))

  -- the first packet cut off
  abbrev pub cut_off : List ℕ → Heard
  cut_off s =
      after set (drop (length_field s) s) (hear u set tsize rsize (length (drop (length_field s) s)) (drop (length_field s) s))
      (verdict_of u set tsize rsize (take (length_field s) s))

  -- a string that the plain host goes on with begins with a whole packet
  pub record Begins (s : List ℕ) : Type 0 where
    pub header : 8 ≤ length s
    pub good : bad_length (length_field s) ≡ false
    pub sized : Sized (length_field s)
    pub whole : length_field s ≤ length s
    pub cut : hear u set tsize rsize (length s) s ≡ cut_off s

  -- no whole packet is there: the header is not, or its length is bad, or the packet is cut short; and the plain host stops
  pub record Halts (s : List ℕ) : Type 0 where
    pub why : (8 ≤ length s → bad_length (length_field s) ≡ false) → 8 ≤ length s → length s < length_field s
    pub heard : hear u set tsize rsize (length s) s ≡ stop Stopped

  more : (s : List ℕ) → hear u set tsize rsize (length s) s ≡ hear u set tsize rsize (suc (length s)) s
  more s = fuel (length s) (suc (length s)) s (omega arith) (omega arith)

  -- a string begins with a whole packet, or the plain host stops
  pub starts : (s : List ℕ) → Begins s ⊎ Halts s
  unfolding hear
  starts s =
      by_test (ltb (length s) 8) (λ e. inr (record { why = λ b l. absurd (omega (arith, ltb-true (length s) 8 e)); heard = more s ∙ rw e refl }))
      (λ e.
      by_test (bad_length (length_field s)) (λ m. inr (record { why = λ b l. absurd (true≢false (sym m ∙ b l)); heard = more s ∙ rw (e, m) refl }))
      (λ m.
      let z : Sized (length_field s) = size_ok _ m in
      by_test (ltb (length s) (length_field s))
      (λ i. inr (record { why = λ b l. ltb-true (length s) (length_field s) i; heard = more s ∙ rw (e, m, i) refl }))
      (λ i.
      let l : length (drop (length_field s) s) ≡ length s - length_field s = length-drop _ s in
      let y = fuel (length s) (length (drop (length_field s) s)) (drop (length_field s) s) (omega arith) (omega arith) in
      inl
      (record {
        header = ltb-false (length s) 8 e;
        good = m;
        sized = z;
        whole = ltb-false (length s) (length_field s) i;
        cut = more s ∙ rw (e, m, i, y) refl;
      }))))
