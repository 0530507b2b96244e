-- A step that judges a packet does what the verdict on it asks for. And one step with two image sets of one shape that agree on what it covers is seen
-- alike, whatever the session and all else that it is lent: a step looks at its set in the check (1) and in the verdict on a packet, and no other answer is
-- an image. By the branches of a step. Assumes nothing.
use mathlib.Core.Path.{◌≡◌, refl, sym, ap, ◌∙◌}
use mathlib.Core.Bool.{Bool, true, false, not}
use mathlib.Core.List.{List, [], ◌∷◌}
use mathlib.Core.Option.{none, some, none-ne-some, some-injective}
use Prim.Native.Nat.{ℕ, ◌+◌, ◌-◌, ◌^◌, min}
use borrow.Author.Tests.{ltb-false, not-false}
use lib.Dec.{eqb, ltb, leb}
use lib.ListN.{length, take}
use Rattle.base.specs.Choice.{pick}
use Rattle.base.proofs.Ranges.{by_else}
use Rattle.base.proofs.Tests.{split}
use Rattle.field.specs.Field.{field_size}
use Rattle.bundle.specs.Bundle.{well_formed}
use Rattle.entry.specs.Entry.{entry_of, filename_of, entries_in}
use Rattle.filename.specs.Filename.{open_check, after_open_check}
use Rattle.selection.specs.Selection.{next_of}
use Rattle.packet.specs.Packet.{length_field, bad_length}
use Rattle.verdict.specs.Verdict.{verdict_of}
use Rattle.verdict.specs.declared.Verdict.{Verdict}
use Rattle.verdict.specs.declared.Verdict.TheVariants as W
use Rattle.session.specs.declared.Filling.{Filling}
use Rattle.session.specs.declared.Region.{Region}
use Rattle.session.specs.declared.Phase.{Phase}
use Rattle.session.specs.declared.Phase.TheVariants as P
use Rattle.session.specs.declared.Session.{Session}
use Rattle.session.specs.declared.Stepped.{Stepped}
use Rattle.session.specs.Outcome.{Outcome, outcome, is_ended}
use Rattle.session.specs.PacketPhase.{keep, acted, whole_of, sized_of, packet_of}
use Rattle.session.specs.FillingPhase.{response_of, switched_of, table_of}
use Rattle.session.specs.BetweenPhase.{open_of, between_of}
use Rattle.session.specs.RegionPhase.{name_in, next_chunk, begun_of, ask_of, hand_of, region_of}
use Rattle.session.specs.Limits.{limit_of}
use Rattle.session.specs.Step.{on_phase, step_of}
use Rattle.waiting.specs.Waiting.{InOrder}
use Rattle.waiting.proofs.Waiting.{step_is_phase}
use Rattle.fetch.specs.Plain.{Report, image}
use Rattle.fetch.specs.Device.{given_of, reports_for}
use Rattle.two_runs.specs.Claim.{Seen, seen_of}
use Rattle.two_runs.specs.Alike.{SameShape, made_whole, Judges, AgreeIn}
use Rattle.two_runs.proofs.Verdict.{verdict_aside, verdict_bytes, VerdictsAlike, verdict_alike}
use Rattle.std.specs.Prelude.{Result, Ok, Err}
use Rattle.refusal.specs.declared.Refusal.{Refusal}

-- ---- a step that judges a packet (`Judges` of specs/Alike) does what the verdict on it asks for

module _ (s : Session) (d set names t y o p : List ℕ) (j : Judges s d set names t y o p) where
  abbrev taken : ℕ
  taken = min (length_field (keep s.window j.held d) - j.held) (length d)

  abbrev window : List ℕ
  window = keep s.window j.held (take taken d)

  pub judged : step_of s d set names t y o ≡ acted s taken window t y o (verdict_of s.opening set (length t) (length y) p)
  unfolding made_whole packet_of sized_of whole_of
  judged =
      let h : ℕ = j.held in
      let a = by_else (ltb (h + length d) 8) none _ (none-ne-some p) j.whole in
      let b = by_else (bad_length (length_field (keep s.window h d))) none _ (none-ne-some p) a.1 in
      let c =
      by_else (ltb (h + taken) (length_field (keep s.window h d))) none (some (take (length_field window) window)) (none-ne-some p) b.1 in
      let e : take (length_field window) window ≡ p = some-injective _ p c.1 in
      step_is_phase s set names t y o j.order d
      ∙ ap (λ (q : Phase). on_phase s q d set names t y o) j.phase
      ∙ rw (a.0, b.0, c.0, e) refl

-- ---- two sets

-- what holds of both branches of two decisions by one test
split_two : {A : Type 0} {x y x' y' : A} (P : A → A → Type 0) (b : Bool) → (b ≡ true → P x x') → (b ≡ false → P y y') → P (pick b x y) (pick b x' y')
split_two P true f g = f refl
split_two P false f g = g refl

module _ (s : Session) (d t y o : List ℕ) where
  -- what is seen of an outcome, the image set being so
  abbrev look : List ℕ → Outcome → Seen Session
  look set r = seen_of d set (given_of r)

  -- ---- a verdict: what is seen is the verdict, where an image starts aside, and the image's bytes

  module _ (n : ℕ) (w : List ℕ) where
    abbrev reports_with : Result Verdict Refusal → List ℕ → List Report
    reports_with (Ok (W.Reply q)) p = reports_for (acted s n w t y o (Ok (W.Reply q))).stepped.answer d [] (acted s n w t y o (Ok (W.Reply q))).out
    reports_with (Ok (W.Image x k)) p = image p ∷ []
    reports_with (Ok W.Pass) p = []
    reports_with (Ok (W.Finish how)) p = reports_for (acted s n w t y o (Ok (W.Finish how))).stepped.answer d [] o
    reports_with (Ok (W.Respond c k)) p = reports_for (acted s n w t y o (Ok (W.Respond c k))).stepped.answer d [] (acted s n w t y o (Ok (W.Respond c k))).out
    reports_with (Ok (W.Debug v a k)) p = reports_for (acted s n w t y o (Ok (W.Debug v a k))).stepped.answer d [] (acted s n w t y o (Ok (W.Debug v a k))).out
    reports_with (Err why) p = []

    abbrev seen_with : Result Verdict Refusal → List ℕ → Seen Session
    seen_with v p = record { given = given_of (acted s n w t y o v); reports = reports_with v p }

    acted_seen : (set : List ℕ) (v : Result Verdict Refusal) → look set (acted s n w t y o v) ≡ seen_with (verdict_aside v) (verdict_bytes set v)
    acted_seen set (Ok (W.Reply q)) = refl
    acted_seen set (Ok (W.Image x k)) = refl
    acted_seen set (Ok W.Pass) = refl
    acted_seen set (Ok (W.Finish how)) = refl
    acted_seen set (Ok (W.Respond c k)) = refl
    acted_seen set (Ok (W.Debug v a k)) = refl
    acted_seen set (Err why) = refl

    acted_alike : (a b : List ℕ) (v v' : Result Verdict Refusal) → VerdictsAlike a b v v' → look a (acted s n w t y o v) ≡ look b (acted s n w t y o v')
    acted_alike a b v v' e =
        acted_seen a v
        ∙ ap (λ (x : Result Verdict Refusal). seen_with x (verdict_bytes a v)) e.aside
        ∙ ap (seen_with (verdict_aside v')) e.bytes
        ∙ sym (acted_seen b v')

  -- ---- the phases that look at no set

  module _ (a b : List ℕ) where
    abbrev Unread : Outcome → Type 0
    Unread r = look a r ≡ look b r

    abbrev Steps : Stepped → Type 0
    Steps r = Unread (outcome r t y o)

    response_unread : (x : Filling) → Unread (response_of s x d t y o)
    unfolding response_of
    response_unread x = split Unread (ltb (x.filled + min (x.declared - x.filled) (length d)) x.declared) (λ e. refl) (λ e. refl)

    table_unread : (x : Filling) → Unread (table_of s x d t y o)
    unfolding table_of
    table_unread x = split Unread (ltb (x.filled + min (x.declared - x.filled) (length d)) x.declared) (λ e. refl) (λ e. refl)

    switched_unread : (k : ℕ) → Unread (switched_of s k t y o)
    unfolding switched_of
    switched_unread k = refl

    open_unread : (f k i : ℕ) (e : List ℕ) (c : Result Unit Refusal) → Steps (open_of f s k i e c)
    open_unread f k i e (Ok tt) = refl
    open_unread f k i e (Err why) = refl

    between_unread : (f k from : ℕ) (names : List ℕ) → Steps (between_of f s k from names t)
    unfolding between_of
    between_unread f k from names =
        let i : ℕ = next_of f names t (entries_in f k - from) from in
        split Steps (ltb i (entries_in f k)) (λ e. open_unread f k i (entry_of f t i) (open_check (filename_of f (entry_of f t i)))) (λ e. refl)

    module _ (k : ℕ) (x : Region) where
      next_unread : Unread (next_chunk s k x t y o)
      unfolding next_chunk
      next_unread = split Unread (leb x.len x.done) (λ e. refl) (λ e. refl)

      begun_unread : (c : Result Unit Refusal) → Unread (begun_of s k x t y o c)
      begun_unread (Ok tt) = split Unread (ltb (256 ^ field_size s.width) (x.base + x.len)) (λ e. refl) (λ e. next_unread)
      begun_unread (Err why) = refl

      region_unread : Unread (region_of s k x d t y o)
      unfolding region_of ask_of hand_of
      region_unread =
          split Unread x.due (λ e. refl)
          (λ e.
          split Unread (eqb x.outstanding 0)
          (λ m. split Unread (eqb x.done 0) (λ i. begun_unread (after_open_check (name_in s.width t x))) (λ i. next_unread))
          (λ m. split Unread (eqb (length d) 0) (λ i. refl) (λ i. refl)))

-- ---- all phases

module _ (a b : List ℕ) (wa : well_formed true a ≡ true) (wb : well_formed true b ≡ true) (same : SameShape a b)
    (s : Session) (d names t y o : List ℕ) (agree : AgreeIn a b s d names t y o) where
  abbrev Both : Outcome → Outcome → Type 0
  Both r q = look s d t y o a r ≡ look s d t y o b q

  whole_alike : (n : ℕ) (w : List ℕ) → Judges s d a names t y o (take (length_field w) w) → Both (whole_of s n w a t y o) (whole_of s n w b t y o)
  unfolding whole_of
  whole_alike n w j =
      let p : List ℕ = take (length_field w) w in
      acted_alike s d t y o n w a b (verdict_of s.opening a (length t) (length y) p) (verdict_of s.opening b (length t) (length y) p)
      (verdict_alike a b same s.opening (length t) (length y) p (agree p j))

  module _ (h : ℕ) (e : s.phase ≡ P.Packet h) (i : InOrder s a names t y o) where
    abbrev size : ℕ
    size = length_field (keep s.window h d)

    sized_alike : ltb (h + length d) 8 ≡ false → Both (sized_of s h d size a t y o) (sized_of s h d size b t y o)
    unfolding sized_of made_whole
    sized_alike x =
        let n : ℕ = min (size - h) (length d) in
        split_two Both (bad_length size) (λ q. refl)
        (λ q.
        split_two Both (ltb (h + n) size) (λ z. refl)
        (λ z. whole_alike n (keep s.window h (take n d)) (record { order = i; held = h; phase = e; whole = rw (x, q, z) refl })))

    packet_alike : Both (packet_of s h d a t y o) (packet_of s h d b t y o)
    unfolding packet_of
    packet_alike = split_two Both (ltb (h + length d) 8) (λ x. refl) (λ x. sized_alike x)

  phase_alike : (p : Phase) → s.phase ≡ p → InOrder s a names t y o → Both (on_phase s p d a names t y o) (on_phase s p d b names t y o)
  phase_alike (P.Packet h) e i = packet_alike h e i
  phase_alike (P.Response x) e i = response_unread s d t y o a b x
  phase_alike (P.Switched k) e i = switched_unread s d t y o a b k
  phase_alike (P.Table x) e i = table_unread s d t y o a b x
  phase_alike (P.Between k from) e i = between_unread s d t y o a b (field_size s.width) k from names
  phase_alike (P.Region k x) e i = region_unread s d t y o a b k x
  phase_alike (P.Ended k) e i = refl

  pub step_alike : seen_of d a (given_of (step_of s d a names t y o)) ≡ seen_of d b (given_of (step_of s d b names t y o))
  unfolding step_of
  step_alike =
      rw
      (wa, wb)
      (split_two Both (not (well_formed false names)) (λ e. refl)
      (λ e.
      split_two Both (ltb (length o) 48) (λ r. refl)
      (λ r.
      split_two Both (is_ended s.phase) (λ q. refl)
      (λ q.
      split_two Both (limit_of s t y) (λ l. refl)
      (λ l. phase_alike s.phase refl (record { images = wa; stems = not-false _ e; room = ltb-false _ _ r; limits = l }))))))
