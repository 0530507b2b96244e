-- The theorem: `Division definitions`. The measure of a world is 0 where an own step changes nothing, since it is refused or waits for what is not left; else
-- it is
-- `steps_at` of proofs/Measure, which is `enough_over` at the start. Assumes nothing.
use mathlib.Core.Path.{◌≡◌, refl, sym, ap, ◌∙◌}
use mathlib.Core.Logic.{◌⊎◌, inl, inr}
use mathlib.Core.Bool.{Bool, true, false, ◌&&◌}
use mathlib.Core.List.{List, []}
use Prim.Native.Nat.{ℕ, ◌+◌, ◌-◌, ◌≤◌, ◌<◌}
use native.Mathlib.Omega.{arith}
use borrow.Author.Tests.{eqb-true, eqb-false}
use lib.Dec.{eqb}
use lib.ListN.{length, length-drop}
use Rattle.base.specs.Choice.{pick}
use Rattle.base.proofs.Ranges.{by_test}
use Rattle.base.proofs.Tests.{differ, and_true}
use Rattle.field.specs.Field.{field_size}
use Rattle.session.specs.declared.Session.{Session}
use Rattle.waiting.specs.Wanted.{needs_bytes}
use Rattle.waiting.proofs.Waiting.{step_is_phase, phase_within}
use Rattle.fetch.specs.Plain.{Setting}
use Rattle.fetch.specs.Device.{definitions, World, start}
use Rattle.division.specs.Claim.{Division}
use Rattle.division.proofs.Step.{empty_list}
use Rattle.division.proofs.Measure.{steps_at, phase_less, steps_some}
use Rattle.division.proofs.Undivided.{forth, shown, RefusesIn, refuses_forth, Good, Fed}
use Rattle.division.proofs.Theorem.{GoesIn, which, waits_forth, divided}

module _ (c : Setting) where
  abbrev most : World Session → ℕ
  most w = steps_at (field_size w.state.width) w.state.phase (length w.queue)

  -- nothing is left, and bytes are needed
  abbrev dry : World Session → Bool
  dry w = eqb (length w.queue) 0 && needs_bytes w.state.phase

  abbrev by : (w : World Session) → RefusesIn c w ⊎ GoesIn c w → ℕ
  by w (inl k) = 0
  by w (inr g) = pick (dry w) 0 (most w)

  unfoldable mu : World Session → ℕ
  mu w = by w (which c w)

  mu_most : (w : World Session) → mu w ≤ most w
  unfolding mu
  mu_most w = go (which c w)
    where
      go : (x : RefusesIn c w ⊎ GoesIn c w) → by w x ≤ most w
      go (inl k) = omega arith
      go (inr g) = by_test (dry w) (λ m. rw m (omega arith)) (λ m. rw m (omega arith))

  -- an own step lent d changes nothing
  abbrev Still : World Session → List ℕ → Type 0
  Still w d = (forth c w d ≡ w) × (shown c w d ≡ [])

  record Measures (w : World Session) (d : List ℕ) : Type 0 where
    pub still : mu w ≡ 0 → Still w d
    pub falls : Fed w d → mu (forth c w d) ≤ mu w - 1

  measures : (w : World Session) (d : List ℕ) → Good (length c.bytes) w → length d ≤ length w.queue → Measures w d
  unfolding mu
  measures w d g l = go (which c w) refl
    where
      stays : Still w d → mu w ≡ 0 → Measures w d
      stays s z = let q : mu (forth c w d) ≡ mu w = ap mu s.0 in record { still = λ e. s; falls = λ f. omega (arith, q, z) }

      -- where bytes are needed, some are left
      some : dry w ≡ false → needs_bytes w.state.phase ≡ true → 0 < length w.queue
      some a b =
          by_test (eqb (length w.queue) 0) (λ i. differ (sym (rw (i, b) at a)))
          (λ i. let z : length w.queue ≡ 0 → ⊥ = eqb-false (length w.queue) 0 i in omega arith)

      goes : GoesIn c w → mu w ≡ most w → dry w ≡ false → Measures w d
      goes o s i =
          let n : ℕ = length w.queue in
          let p : 0 < most w = steps_some (field_size w.state.width) n w.state.phase o.live (some i) in
          record {
            still = λ z. absurd (omega (arith, s, z, p));
            falls =
                λ f.
                let b = phase_less w.state d c.set c.names w.table w.reply w.out n l w.state.phase g.holds.size
                (phase_within w.state c.set c.names w.table w.reply w.out o.order) g.cut (λ k. f k (some i k)) o.live in
                let q = step_is_phase w.state c.set c.names w.table w.reply w.out o.order d in
                let x : most (forth c w d) + 1 ≤ most w = rw (length-drop, q) b in
                omega (arith, mu_most (forth c w d), x, s);
          }

      go : (x : RefusesIn c w ⊎ GoesIn c w) → which c w ≡ x → Measures w d
      go (inl k) e = stays (refuses_forth c w d k) (ap (by w) e)
      go (inr o) e =
          by_test (dry w)
          (λ i.
          let a = and_true (eqb (length w.queue) 0) (needs_bytes w.state.phase) i in
          let z : d ≡ [] = empty_list d (omega (arith, eqb-true (length w.queue) 0 a.0, l)) in
          let s = waits_forth c w g.holds.size a.1 in
          stays (ap (forth c w) z ∙ s.0, ap (shown c w) z ∙ s.1) (ap (by w) e ∙ rw i refl))
          (λ i. goes o (ap (by w) e ∙ rw i refl) i)

-- however the bytes are divided
pub division : Division definitions (λ s. s)
division c ls f =
    divided c (mu c) (λ w d g l fed. (measures c w d g l).falls fed) (λ w d g l z. (measures c w d g l).still z)
    (omega (arith, mu_most c (start definitions c))) ls f
