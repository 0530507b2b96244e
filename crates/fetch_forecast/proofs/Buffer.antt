-- From where a session has its table on, the table buffer stays as it is, to the end of any list and behind it: so the list that the table decodes to is the
-- same wherever it is decoded, of a session that has ended too. By the branches of a step, then by induction on the list. Assumes nothing.
use mathlib.Core.Path.{◌≡◌, refl, ap, ◌∙◌}
use mathlib.Core.Logic.{⊎_elim, ◌⊎◌, inl, inr}
use mathlib.Core.Bool.{true, false, not}
use mathlib.Core.List.{List, [], ◌∷◌}
use Prim.Native.Nat.{ℕ, ◌+◌, ◌-◌, ◌^◌}
use lib.Dec.{T, eqb, ltb, leb}
use lib.ListN.{length}
use Rattle.base.proofs.Tests.{split}
use Rattle.bundle.specs.Bundle.{well_formed}
use Rattle.field.specs.Field.{field_size}
use Rattle.entry.specs.Entry.{entry_of, filename_of, entries_in}
use Rattle.entry.specs.declared.RamdumpTable64.{RamdumpTable64}
use Rattle.filename.specs.Filename.{open_check, after_open_check}
use Rattle.selection.specs.Selection.{next_of}
use Rattle.session.specs.declared.Region.{Region}
use Rattle.session.specs.declared.Phase.{Phase}
use Rattle.session.specs.declared.Phase.TheVariants as P
use Rattle.session.specs.declared.Session.{Session}
use Rattle.session.specs.declared.Answer.{Answer}
use Rattle.session.specs.declared.Answer.TheVariants as A
use Rattle.session.specs.Outcome.{Outcome, outcome, gives, is_ended}
use Rattle.session.specs.BetweenPhase.{open_of, between_of}
use Rattle.session.specs.RegionPhase.{name_in, next_chunk, begun_of, ask_of, hand_of, region_of}
use Rattle.session.specs.Limits.{limit_of}
use Rattle.session.specs.Step.{on_phase, step_of}
use Rattle.steps.specs.Steps.{final}
use Rattle.fetch.specs.Plain.{Setting}
use Rattle.fetch.specs.Device.{Lent, lent, delivered, kept, World}
use Rattle.fetch.proofs.Counter.{after}
use Rattle.fetch.proofs.Lent.{kept_lent}
use Rattle.fetch_forecast.specs.Claim.{DecodesIn, Decodes}
use Rattle.std.specs.Prelude.{Result, Ok, Err}
use Rattle.refusal.specs.declared.Refusal.{Refusal}
use Rattle.verdict.specs.declared.Finish.TheVariants as Finish

-- the table has come: it decodes to a list, the numbers being of f bytes and b the buffer; or the session has ended
abbrev Had : ℕ → Phase → List ℕ → Type 0
Had f p b = ((es : List RamdumpTable64) × DecodesIn f p b es) ⊎ T (is_ended p)

not_had : {X : Type 0} → (List RamdumpTable64 × ⊥) ⊎ ⊥ → X
not_had e = ⊎_elim (λ x. absurd x.1) (λ x. absurd x) e

module _ (b : List ℕ) (s : Session) (d set names t y o : List ℕ) where
  -- the lent table is as it was, and it still has come
  record Leaves (r : Outcome) : Type 0 where
    pub table : r.table ≡ t
    pub had : Had (field_size r.stepped.session.width) r.stepped.session.phase b

  plainly : (z : Session) (n : ℕ) (a : Answer) (o' : List ℕ) → Had (field_size z.width) z.phase b → Leaves (outcome (gives z n a) t y o')
  plainly z n a o' h = record { table = refl; had = h }

  abbrev f : ℕ
  f = field_size s.width

  opening_leaves : (k i : ℕ) (e : List ℕ) (c : Result Unit Refusal) → Leaves (outcome (open_of f s k i e c) t y o)
  opening_leaves k i e (Ok tt) = plainly _ 0 (A.Open i) o (inl (_, refl))
  opening_leaves k i e (Err why) = plainly _ 0 (A.Refused why) o (inr tt)

  between_leaves : (k from : ℕ) → Leaves (outcome (between_of f s k from names t) t y o)
  unfolding between_of
  between_leaves k from =
      let i : ℕ = next_of f names t (entries_in f k - from) from in
      split (λ r. Leaves (outcome r t y o)) (ltb i (entries_in f k))
      (λ e. opening_leaves k i (entry_of f t i) (open_check (filename_of f (entry_of f t i)))) (λ e. plainly _ 0 (A.Finished Finish.Dumped s.reads) o (inr tt))

  module _ (h : Had f s.phase b) where
    module _ (k : ℕ) (x : Region) where
      next_leaves : Leaves (next_chunk s k x t y o)
      unfolding next_chunk
      next_leaves =
          split Leaves (leb x.len x.done) (λ e. plainly _ 0 (A.Close x.entry) o (inl (_, refl))) (λ e. plainly _ 0 (A.Send _) _ (inl (_, refl)))

      begun_leaves : (c : Result Unit Refusal) → Leaves (begun_of s k x t y o c)
      begun_leaves (Ok tt) = split Leaves (ltb (256 ^ f) (x.base + x.len)) (λ e. plainly _ 0 (A.Refused _) o (inr tt)) (λ e. next_leaves)
      begun_leaves (Err why) = plainly _ 0 (A.Refused why) o (inr tt)

      ask_leaves : Leaves (ask_of s k x t y o)
      unfolding ask_of
      ask_leaves = split Leaves (eqb x.done 0) (λ e. begun_leaves (after_open_check (name_in s.width t x))) (λ e. next_leaves)

      hand_leaves : Leaves (hand_of s k x d t y o)
      unfolding hand_of
      hand_leaves = split Leaves (eqb (length d) 0) (λ e. plainly s 0 A.Go o h) (λ e. plainly _ _ (A.Bytes _) o (inl (_, refl)))

      region_leaves : Leaves (region_of s k x d t y o)
      unfolding region_of
      region_leaves =
          split Leaves x.due (λ e. plainly _ 0 A.EmptyRead o (inl (_, refl)))
          (λ e. split Leaves (eqb x.outstanding 0) (λ i. ask_leaves) (λ i. hand_leaves))

    phase_leaves : (p : Phase) → Had f p b → Leaves (on_phase s p d set names t y o)
    phase_leaves (P.Packet j) e = not_had e
    phase_leaves (P.Response x) e = not_had e
    phase_leaves (P.Switched k) e = not_had e
    phase_leaves (P.Table x) e = not_had e
    phase_leaves (P.Between k i) e = between_leaves k i
    phase_leaves (P.Region k x) e = region_leaves k x
    phase_leaves (P.Ended k) e = plainly s 0 (A.Refused Refusal.Ended) o h

    step_leaves : Leaves (step_of s d set names t y o)
    unfolding step_of
    step_leaves =
        split Leaves (not (well_formed true set)) (λ e. plainly s 0 (A.Refused Refusal.ImageSet) o h)
        (λ e.
        split Leaves (not (well_formed false names)) (λ i. plainly s 0 (A.Refused Refusal.NameList) o h)
        (λ i.
        split Leaves (ltb (length o) 48) (λ j. plainly s 0 (A.Refused Refusal.OutBuffer) o h)
        (λ j.
        split Leaves (is_ended s.phase) (λ k. plainly s 0 (A.Refused Refusal.Ended) o h)
        (λ k. split Leaves (limit_of s t y) (λ l. plainly s 0 (A.Refused Refusal.Limit) o h) (λ l. phase_leaves s.phase h)))))

module _ (c : Setting) where
  stays : (b : List ℕ) (ls : List Lent) (w : World Session) → Had (field_size w.state.width) w.state.phase b
      → (final (after c) w ls).table ≡ w.table
  stays b [] w h = refl
  stays b (l ∷ ls) w h =
      let r =
      step_leaves b w.state (delivered l.delivery w.queue) (lent l.set c.set) (lent l.names c.names) (lent l.table w.table)
      (lent l.reply w.reply) (lent l.out w.out) h in
      stays b ls (after c w l) r.had ∙ ap (kept l.table w.table) r.table ∙ kept_lent l.table w.table

  -- whatever the steps behind it are lent
  pub buffer_stays : (ls : List Lent) (w : World Session) (es : List RamdumpTable64) → Decodes w.state w.table es
      → (final (after c) w ls).table ≡ w.table
  buffer_stays ls w es e = stays w.table ls w (inl (es, e))
