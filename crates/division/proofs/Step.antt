-- The law at one step: `StepLaw` of specs/Law. A step that 1, 2, 3, 4 or 18 refuses is so refused whatever is delivered; any other is its phase's, and the law
-- goes by the phase. Assumes nothing.
use mathlib.Core.Path.{◌≡◌, refl, sym, ap, subst, ◌∙◌}
use mathlib.Core.Logic.{◌⊎◌, inl, inr, ⊎_elim}
use mathlib.Core.Bool.{true, false, not, ◌&&◌}
use mathlib.Core.List.{List, [], ◌∷◌, ◌++◌, append-nil}
use Prim.Native.Nat.{ℕ, ◌<◌}
use native.Mathlib.Omega.{arith}
use borrow.Author.Tests.{ltb-false, eqb-true, eqb-false, not-false}
use lib.Dec.{ltb, eqb}
use lib.ListN.{length}
use Rattle.base.proofs.Ranges.{by_test}
use Rattle.base.proofs.Tests.{neither, differ, and_true}
use Rattle.field.specs.Field.{field_size}
use Rattle.bundle.specs.Bundle.{well_formed}
use Rattle.session.specs.declared.Phase.{Phase}
use Rattle.session.specs.declared.Phase.TheVariants as P
use Rattle.session.specs.declared.Session.{Session}
use Rattle.session.specs.declared.Answer.TheVariants as A
use Rattle.session.specs.Outcome.{Outcome, untouched, is_ended}
use Rattle.session.specs.FillingPhase.{switched_of}
use Rattle.session.specs.Limits.{phase_limit, limit_of}
use Rattle.session.specs.Step.{on_phase, step_of}
use Rattle.waiting.specs.Waiting.{InOrder}
use Rattle.waiting.specs.Wanted.{needs_bytes}
use Rattle.waiting.proofs.Waiting.{waits, step_is_phase, phase_within}
use Rattle.refusal.specs.declared.Refusal.{Refusal}
use Rattle.fetch.specs.Device.{aside}
use Rattle.division.specs.Law.{Joined, Divides, alone, joined, step_after, StepLaw}
use Rattle.division.proofs.Phases.{Law, response_law, table_law, region_law}
use Rattle.division.proofs.Packet.{packet_law}

-- ---- refused whatever is delivered, or its phase's

pub record Refuses (s : Session) (set names t y o : List ℕ) : Type 0 where
  pub why : Refusal
  pub quiet : aside (A.Refused why) ≡ true
  pub stays : (d : List ℕ) → step_of s d set names t y o ≡ untouched s why t y o

pub record Goes (s : Session) (set names t y o : List ℕ) : Type 0 where
  pub order : InOrder s set names t y o
  pub live : is_ended s.phase ≡ false

pub refuses_or_goes : (s : Session) (set names t y o : List ℕ) → Refuses s set names t y o ⊎ Goes s set names t y o
unfolding step_of
refuses_or_goes s set names t y o =
    by_test (not (well_formed true set)) (λ a. inl (record { why = Refusal.ImageSet; quiet = refl; stays = λ d. rw a refl }))
    (λ a.
    by_test (not (well_formed false names)) (λ b. inl (record { why = Refusal.NameList; quiet = refl; stays = λ d. rw (a, b) refl }))
    (λ b.
    by_test (ltb (length o) 48) (λ e. inl (record { why = Refusal.OutBuffer; quiet = refl; stays = λ d. rw (a, b, e) refl }))
    (λ e.
    by_test (is_ended s.phase) (λ f. inl (record { why = Refusal.Ended; quiet = refl; stays = λ d. rw (a, b, e, f) refl }))
    (λ f.
    by_test (limit_of s t y) (λ g. inl (record { why = Refusal.Limit; quiet = refl; stays = λ d. rw (a, b, e, f, g) refl }))
    (λ g.
    inr
    (record {
      order = record { images = not-false _ a; stems = not-false _ b; room = ltb-false _ _ e; limits = g };
      live = f;
    }))))))

-- a session that has ended is refused
pub ended_refuses : (s : Session) (set names t y o : List ℕ) → is_ended s.phase ≡ true → Refuses s set names t y o
ended_refuses s set names t y o e = ⊎_elim (λ k. k) (λ g. differ (sym g.live ∙ e)) (refuses_or_goes s set names t y o)

pub empty_list : (l : List ℕ) → length l ≡ 0 → l ≡ []
empty_list [] e = refl
empty_list (x ∷ xs) e = absurd (omega arith)

-- ---- its phase's

module _ (s : Session) (set names d e t y o : List ℕ) (i : InOrder s set names t y o) (full : length s.window ≡ 48) (more : 0 < length e) where
  phase_law : (p : Phase) → phase_limit (field_size s.width) s.window p t y ≡ false → (needs_bytes p ≡ true → 0 < length d)
      → Law s set names d e t y o i p (on_phase s p d set names t y o) (on_phase s p (d ++ e) set names t y o)
  unfolding switched_of
  phase_law (P.Packet h) l some = packet_law s set names d e t y o h full i
  phase_law (P.Response x) l some = response_law s set names d e t y o i x (ltb-false (length y) x.declared (neither _ _ l).0)
  phase_law (P.Switched k) l some = alone refl
  phase_law (P.Table x) l some = table_law s set names d e t y o i x (ltb-false (length t) x.declared (neither _ _ l).0)
  phase_law (P.Between k j) l some = alone refl
  phase_law (P.Region k x) l some = region_law s set names d e t y o i k x more l some
  phase_law (P.Ended k) l some = alone refl

  abbrev Lawful : Outcome → Outcome → Type 0
  Lawful p r = Divides s.phase set names d e p (step_after p e set names) r

  -- the second step is its phase's too
  stepped : (p r : Outcome) → Law s set names d e t y o i s.phase p r → Lawful p r
  stepped p r (alone q) = alone q
  stepped p r (joined j) =
      joined
      (subst (λ (q : Outcome). Joined s.phase set names d e p q r)
      (sym (step_is_phase p.stepped.session set names p.table p.reply p.out j.order e)) j)

  fed_law : (needs_bytes s.phase ≡ true → 0 < length d) → Lawful (step_of s d set names t y o) (step_of s (d ++ e) set names t y o)
  fed_law some =
      rw (step_is_phase s set names t y o i d, step_is_phase s set names t y o i (d ++ e))
      (stepped _ _ (phase_law s.phase (phase_within s set names t y o i) some))

-- nothing is delivered first, and bytes are needed: the first step waits
waits_law : (s : Session) (set names e t y o : List ℕ) → Goes s set names t y o → length s.window ≡ 48 → needs_bytes s.phase ≡ true
    → Divides s.phase set names [] e (step_of s [] set names t y o) (step_after (step_of s [] set names t y o) e set names) (step_of s e set names t y o)
waits_law s set names e t y o g full n =
    subst (λ (p : Outcome). Divides s.phase set names [] e p (step_after p e set names) (step_of s e set names t y o))
    (sym (waits s set names t y o g.order full n))
    (joined
    (record {
      live = g.live;
      packet = refl;
      order = g.order;
      all = refl;
      taken = omega arith;
      session = refl;
      table = refl;
      reply = refl;
      out = refl;
      events = refl;
    }))

-- ---- any step

module _ (s : Session) (set names t y o : List ℕ) (full : length s.window ≡ 48) where
  abbrev Holds : List ℕ → List ℕ → Type 0
  Holds d e =
      Divides s.phase set names d e (step_of s d set names t y o) (step_after (step_of s d set names t y o) e set names) (step_of s (d ++ e) set names t y o)

  goes_law : (d e : List ℕ) → Goes s set names t y o → 0 < length e → Holds d e
  goes_law d e g more =
      by_test (needs_bytes s.phase && eqb (length d) 0)
      (λ m.
      let b = and_true (needs_bytes s.phase) (eqb (length d) 0) m in
      subst (λ (x : List ℕ). Holds x e) (sym (empty_list d (eqb-true (length d) 0 b.1))) (waits_law s set names e t y o g full b.0))
      (λ m.
      fed_law s set names d e t y o g.order full more
      (λ n. let z : length d ≡ 0 → ⊥ = eqb-false (length d) 0 (rw n at m) in omega arith))

  holds : (d e : List ℕ) → Holds d e
  holds d e =
      ⊎_elim (λ k. alone (k.stays (d ++ e) ∙ sym (k.stays d)))
      (λ g.
      by_test (eqb (length e) 0)
      (λ m.
      let z : e ≡ [] = empty_list e (eqb-true (length e) 0 m) in
      alone (ap (λ (x : List ℕ). step_of s x set names t y o) (ap (λ (x : List ℕ). d ++ x) z ∙ append-nil d)))
      (λ m. let z : length e ≡ 0 → ⊥ = eqb-false (length e) 0 m in goes_law d e g (omega arith)))
      (refuses_or_goes s set names t y o)

pub step_law : StepLaw
step_law s set names d e t y o full = holds s set names t y o full d e
