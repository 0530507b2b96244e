-- How many own steps are left at most, by the phase and the bytes that are left: one for each byte, and what is done without one, which is paid for by the
-- bytes
-- that led to it, eight for a step. Each step that waits for nothing makes it less. Assumes nothing.
use mathlib.Core.Path.{◌≡◌, refl, sym, ap, subst, ◌∙◌}
use mathlib.Core.Bool.{Bool, true, false, ◌&&◌}
use mathlib.Core.List.{List}
use Prim.Native.Nat.{ℕ, suc, ◌+◌, ◌-◌, ◌*◌, ◌/◌, ◌%◌, ◌^◌, ◌≤◌, ◌<◌, min}
use native.Mathlib.Omega.{arith}
use borrow.Author.Tests.{lt-ltb, ltb-true, ltb-false, leb-false, eqb-true, eqb-false, ne_eqb}
use lib.Dec.{ltb, leb, eqb}
use lib.ListN.{length, take, drop, length-take, take-append-drop}
use lib.Seq.{length-take-le}
use Rattle.base.specs.Choice.{pick}
use Rattle.base.proofs.Ranges.{by_test}
use Rattle.base.proofs.Tests.{split, neither, differ, and_false}
use Rattle.field.specs.Field.{field_size}
use Rattle.field.specs.declared.Width.{Width}
use Rattle.field.specs.declared.Width.TheVariants as WI
use Rattle.entry.specs.Entry.{entries_in, entry_of, filename_of, length_of}
use Rattle.filename.specs.Filename.{open_check, after_open_check}
use Rattle.selection.specs.Selection.{next_of}
use Rattle.selection.proofs.Laws.{next_from}
use Rattle.packet.specs.Packet.{length_field, bad_length}
use Rattle.verdict.specs.Opening.{chunk_of, on_usb}
use Rattle.verdict.specs.Verdict.{verdict_of}
use Rattle.verdict.specs.declared.Verdict.{Verdict}
use Rattle.verdict.specs.declared.Verdict.TheVariants as W
use Rattle.session.specs.declared.Filling.{Filling}
use Rattle.session.specs.declared.Region.{Region}
use Rattle.session.specs.declared.Phase.{Phase}
use Rattle.session.specs.declared.Phase.TheVariants as P
use Rattle.session.specs.declared.Session.{Session}
use Rattle.session.specs.declared.Stepped.{Stepped}
use Rattle.session.specs.Outcome.{Outcome, outcome, is_ended}
use Rattle.session.specs.PacketPhase.{keep, acted, whole_of, sized_of, packet_of}
use Rattle.session.specs.FillingPhase.{response_of, switched_of, table_of}
use Rattle.session.specs.BetweenPhase.{open_of, between_of}
use Rattle.session.specs.RegionPhase.{name_in, asks_for, next_chunk, begun_of, ask_of, hand_of, region_of}
use Rattle.session.specs.Limits.{held_limit, phase_limit}
use Rattle.session.specs.Step.{on_phase}
use Rattle.session.proofs.Window.{keep_length}
use Rattle.steps.specs.Steps.{one}
use Rattle.division.proofs.Big.{Big, big}
use Rattle.fetch.proofs.Chunk.{chunk_good, chunk_some, CutAt}
use Rattle.division.proofs.Cut.{CutIn}
use Rattle.division.proofs.Window.{keep_keep}
use Rattle.waiting.specs.Wanted.{region_waits, needs_bytes}
use Rattle.waiting.proofs.Waiting.{held_within, eight_or_more, keep_header}
use Rattle.std.specs.Prelude.{Result, Ok, Err}
use Rattle.refusal.specs.declared.Refusal.{Refusal}

-- n bytes are left, f is the width of an entry's numbers
abbrev pub steps_at : ℕ → Phase → ℕ → ℕ
steps_at f (P.Packet h) n = n + (h + n) / 8
steps_at f (P.Response x) n = n + 2
steps_at f (P.Switched k) n = n + 1
steps_at f (P.Table x) n = n + 2 + (x.filled + n) / 8
steps_at f (P.Between k i) n = n + 1 + 3 * (entries_in f k - i) + n / 8
steps_at f (P.Region k x) n =
    n + 1 + 3 * (entries_in f k - suc x.entry) + one x.due + pick (eqb x.outstanding 0) (pick (leb x.len x.done) 1 2) 1
    + (n + x.done % 512) / 8
steps_at f (P.Ended k) n = 0

few : (v : Width) (k : ℕ) → 3 * entries_in (field_size v) k ≤ k / 8
few WI.Bits32 k = omega arith
few WI.Bits64 k = omega arith

two_most : (c : Bool) → pick c 1 2 ≤ 2
two_most true = omega arith
two_most false = omega arith

one_most : (b : Bool) → one b ≤ 1
one_most true = omega arith
one_most false = omega arith

-- m bytes that end at a multiple of 512 pass at least 512
reach : (m done : ℕ) → 0 < m → (done + m) % 512 ≡ 0 → 512 ≤ done % 512 + m
reach m done a e = omega arith

crossing : (n m done : ℕ) → 0 < m → m ≤ n → (done + m) % 512 ≡ 0 → (n - m + (done + m) % 512) / 8 + 8 ≤ (n + done % 512) / 8
crossing n m done a b e = let r : 512 ≤ done % 512 + m = reach m done a e in rw e (omega arith)

no_more : (m done : ℕ) → (done + m) % 512 ≤ done % 512 + m
no_more m done = omega arith

falling : (n m done : ℕ) → m ≤ n → (n - m + (done + m) % 512) / 8 ≤ (n + done % 512) / 8
falling n m done b = let r : (done + m) % 512 ≤ done % 512 + m = no_more m done in go ((done + m) % 512) (done % 512) r
  where
    go : (x z : ℕ) → x ≤ z + m → (n - m + x) / 8 ≤ (n + z) / 8
    go x z r = omega arith

paid_one : (n m g c c' : ℕ) → 0 < m → m ≤ n → c' ≤ c → n - m + 1 + g + 0 + 1 + c' + 1 ≤ n + 1 + g + 1 + c
paid_one n m g c c' a b e = omega arith

paid : (n m g o p c c' : ℕ) → m ≤ n → o ≤ 1 → p ≤ 2 → c' + 8 ≤ c → n - m + 1 + g + o + p + c' + 1 ≤ n + 1 + g + 1 + c
paid n m g o p c c' a b e f = omega arith

module _ (s : Session) (d set names t y o : List ℕ) (n : ℕ) (room : length d ≤ n) where
  abbrev f : ℕ
  f = field_size s.width

  -- what is left after a step with outcome r is less than b
  abbrev Less : ℕ → Outcome → Type 0
  Less b r = steps_at (field_size r.stepped.session.width) r.stepped.session.phase (n - r.stepped.taken) + 1 ≤ b

  acted_less : (h m : ℕ) → 0 < m → m ≤ n → (w : List ℕ) (v : Result Verdict Refusal) → Big (h + m) v → Less (n + (h + n) / 8) (acted s m w t y o v)
  acted_less h m a b w (Ok (W.Reply q)) g = omega arith
  acted_less h m a b w (Ok (W.Image x k)) g = omega arith
  acted_less h m a b w (Ok W.Pass) g = omega arith
  acted_less h m a b w (Ok (W.Finish how)) g = omega arith
  acted_less h m a b w (Ok (W.Respond c k)) g = omega arith
  acted_less h m a b w (Ok (W.Debug v i k)) g = omega arith
  acted_less h m a b w (Err why) g = omega arith

  big_more : (i j : ℕ) (v : Result Verdict Refusal) → i ≤ j → Big i v → Big j v
  big_more i j (Ok (W.Reply q)) l g = tt
  big_more i j (Ok (W.Image x k)) l g = tt
  big_more i j (Ok W.Pass) l g = tt
  big_more i j (Ok (W.Finish how)) l g = tt
  big_more i j (Ok (W.Respond c k)) l g = omega arith
  big_more i j (Ok (W.Debug v a k)) l g = omega arith
  big_more i j (Err why) l g = tt

  packet_less : (h : ℕ) → length s.window ≡ 48 → held_limit s.window h ≡ false → 0 < length d → Less (n + (h + n) / 8) (packet_of s h d set t y o)
  unfolding packet_of sized_of whole_of
  packet_less h full l some =
      let size : ℕ = length_field (keep s.window h d) in
      let m : ℕ = min (size - h) (length d) in
      let w : List ℕ = keep s.window h (take m d) in
      let B : ℕ = n + (h + n) / 8 in
      split (Less B) (ltb (h + length d) 8) (λ a. omega arith)
      (λ a.
      split (Less B) (bad_length size) (λ g. omega arith)
      (λ g.
      let c : h < size =
      by_test (ltb h 8) (λ i. omega (arith, ltb-true h 8 i, eight_or_more size g))
      (λ i.
      let e : 8 ≤ h = ltb-false h 8 i in
      omega (arith, (held_within s.window h l e).1, keep_header s.window full h d e)) in
      let p : 0 < m = omega arith in
      split (Less B) (ltb (h + m) size) (λ i. omega arith)
      (λ i.
      let v : Result Verdict Refusal = verdict_of s.opening set (length t) (length y) (take (length_field w) w) in
      let q : size ≤ h + m = ltb-false (h + m) size i in
      let e : length_field w ≡ size = same_header h m full (omega arith) (omega (arith, eight_or_more size g)) in
      let k : length (take (length_field w) w) ≤ h + m = omega (arith, length-take (length_field w) w, e) in
      acted_less h m p (omega arith) w v (big_more _ _ v k (big s.opening set (length t) (length y) (take (length_field w) w))))))
    where
      same_header : (h m : ℕ) → length s.window ≡ 48 → m ≤ length d → 8 ≤ h + m
          → length_field (keep s.window h (take m d)) ≡ length_field (keep s.window h d)
      same_header h m full l g =
          let x : List ℕ = take m d in
          let z : List ℕ = drop m d in
          let b : h + length x ≡ h + m = omega (arith, length-take-le m d l) in
          let a : keep (keep s.window h x) (h + length x) z ≡ keep s.window h d =
          keep_keep s.window h x z full ∙ ap (keep s.window h) (take-append-drop m d) in
          sym (keep_header (keep s.window h x) (keep_length s.window h x full) (h + length x) z (omega (arith, b))) ∙ ap length_field a

  response_less : (x : Filling) → (ltb x.filled x.declared ≡ true → 0 < length d) → Less (n + 2) (response_of s x d t y o)
  unfolding response_of
  response_less x some =
      let m : ℕ = min (x.declared - x.filled) (length d) in
      by_test (ltb x.filled x.declared)
      (λ a.
      let b : x.filled < x.declared = ltb-true _ _ a in
      let g = some a in
      split (Less (n + 2)) (ltb (x.filled + m) x.declared) (λ i. omega arith) (λ i. omega arith))
      (λ a.
      let b : x.declared ≤ x.filled = ltb-false _ _ a in
      split (Less (n + 2)) (ltb (x.filled + m) x.declared) (λ i. absurd (omega (arith, ltb-true (x.filled + m) x.declared i))) (λ i. omega arith))

  table_less : (x : Filling) → x.filled ≤ x.declared → (ltb x.filled x.declared ≡ true → 0 < length d)
      → Less (n + 2 + (x.filled + n) / 8) (table_of s x d t y o)
  unfolding table_of
  table_less x lim some =
      let m : ℕ = min (x.declared - x.filled) (length d) in
      let e = few s.width x.declared in
      split (Less (n + 2 + (x.filled + n) / 8)) (ltb (x.filled + m) x.declared)
      (λ i.
      let j : x.filled + m < x.declared = ltb-true _ _ i in
      let g : 0 < length d = some (lt-ltb x.filled x.declared (omega arith)) in
      omega arith)
      (λ i. let j : x.declared ≤ x.filled + m = ltb-false _ _ i in omega arith)

  open_less : (k i from : ℕ) (e : List ℕ) (c : Result Unit Refusal) → from ≤ i → i < entries_in f k
      → Less (n + 1 + 3 * (entries_in f k - from) + n / 8) (outcome (open_of f s k i e c) t y o)
  open_less k i from e (Ok tt) a b = let p = two_most (leb (length_of f e) 0) in omega (arith, p)
  open_less k i from e (Err why) a b = omega arith

  between_less : (k from : ℕ) → Less (n + 1 + 3 * (entries_in f k - from) + n / 8) (outcome (between_of f s k from names t) t y o)
  unfolding between_of
  between_less k from =
      let i : ℕ = next_of f names t (entries_in f k - from) from in
      let e : List ℕ = entry_of f t i in
      split (λ (r : Stepped). Less (n + 1 + 3 * (entries_in f k - from) + n / 8) (outcome r t y o)) (ltb i (entries_in f k))
      (λ m. open_less k i from e (open_check (filename_of f e)) (next_from f names t (entries_in f k - from) from) (ltb-true _ _ m)) (λ m. omega arith)

  module _ (k : ℕ) (x : Region) where
    -- the other regions, and the bytes
    abbrev b : ℕ
    b = n + 1 + 3 * (entries_in f k - suc x.entry)

    abbrev cr : ℕ
    cr = (n + x.done % 512) / 8

    abbrev ask : ℕ
    ask = b + pick (leb x.len x.done) 1 2 + cr

    next_less : Less ask (next_chunk s k x t y o)
    unfolding next_chunk
    next_less =
        by_test (leb x.len x.done) (λ m. rw m (omega arith))
        (λ m.
        let l : x.done < x.len = leb-false _ _ m in
        let y : 0 < chunk_of s.opening = chunk_some s.opening (chunk_good s.opening) in
        let e : eqb (asks_for s.opening x) 0 ≡ false = ne_eqb (asks_for s.opening x) 0 (λ i. omega arith) in
        rw (m, e) (omega arith))

    begun_less : (c : Result Unit Refusal) → Less ask (begun_of s k x t y o c)
    begun_less (Ok tt) = split (Less ask) (ltb (256 ^ f) (x.base + x.len)) (λ m. omega arith) (λ m. next_less)
    begun_less (Err why) = omega arith

    asks_less : Less ask (ask_of s k x t y o)
    unfolding ask_of
    asks_less = split (Less ask) (eqb x.done 0) (λ i. begun_less (after_open_check (name_in s.width t x))) (λ i. next_less)

    asks_is : x.due ≡ false → eqb x.outstanding 0 ≡ true → region_of s k x d t y o ≡ ask_of s k x t y o
    unfolding region_of
    asks_is u z = rw (u, z) refl

    -- bytes are handed out
    hand_less : CutAt x → eqb x.outstanding 0 ≡ false → 0 < length d → Less (b + 1 + cr) (hand_of s k x d t y o)
    unfolding hand_of
    hand_less cut z g =
        let nz : x.outstanding ≡ 0 → ⊥ = eqb-false _ _ z in
        let m : ℕ = min x.outstanding (length d) in
        let e : ℕ = x.done + m in
        let q : eqb (length d) 0 ≡ false = ne_eqb (length d) 0 (λ i. omega arith) in
        rw q
        (by_test (eqb (x.outstanding - m) 0)
        (λ i.
        let j : x.outstanding - m ≡ 0 = eqb-true _ _ i in
        by_test (eqb (e % 512) 0)
        (λ a.
        let a0 : e % 512 ≡ 0 = eqb-true _ _ a in
        let v = one_most (on_usb s.opening && true && eqb (e % 512) 0) in
        let p = two_most (leb x.len e) in
        rw i (paid n m (3 * (entries_in f k - suc x.entry)) _ _ _ _ (omega arith) v p (crossing n m x.done (omega arith) (omega arith) a0)))
        (λ a.
        let a0 : e % 512 ≡ 0 → ⊥ = eqb-false _ _ a in
        let w : x.done + x.outstanding ≡ e = omega arith in
        let l : leb x.len e ≡ true =
        by_test (leb x.len e) (λ r. r) (λ r. absurd (a0 (rw w at (cut (omega (arith, leb-false x.len e r)))))) in
        rw (i, a, and_false (on_usb s.opening && true), l) (paid_one n m (3 * (entries_in f k - suc x.entry)) _ _ (omega arith) (omega arith) (falling n m x.done (omega arith)))))
        (λ i. rw (i, and_false (on_usb s.opening)) (paid_one n m (3 * (entries_in f k - suc x.entry)) _ _ (omega arith) (omega arith) (falling n m x.done (omega arith)))))

    hands_is : x.due ≡ false → eqb x.outstanding 0 ≡ false → region_of s k x d t y o ≡ hand_of s k x d t y o
    unfolding region_of
    hands_is u z = rw (u, z) refl

    -- what is to be done without a byte
    abbrev idle : ℕ
    idle = one x.due + pick (eqb x.outstanding 0) (pick (leb x.len x.done) 1 2) 1

    abbrev all : ℕ
    all = b + one x.due + pick (eqb x.outstanding 0) (pick (leb x.len x.done) 1 2) 1 + cr

    region_less : CutAt x → (region_waits x ≡ true → 0 < length d) → Less all (region_of s k x d t y o)
    unfolding region_of
    region_less cut some =
        by_test x.due (λ u. rw u (omega arith))
        (λ u.
        by_test (eqb x.outstanding 0)
        (λ z.
        let e : idle ≡ pick (leb x.len x.done) 1 2 = rw (u, z) (omega arith) in
        let h : ask ≡ all = omega (arith, e) in
        subst (λ (i : ℕ). Less i (region_of s k x d t y o)) h (subst (Less ask) (sym (asks_is u z)) asks_less))
        (λ z.
        let g : 0 < length d = some (rw (u, z) refl) in
        let e : idle ≡ 1 = rw (u, z) (omega arith) in
        let h : b + 1 + cr ≡ all = omega (arith, e) in
        subst (λ (i : ℕ). Less i (region_of s k x d t y o)) h (subst (Less (b + 1 + cr)) (sym (hands_is u z)) (hand_less cut z g))))

  -- by the phase: bytes came where they are needed
  pub phase_less : (p : Phase) → length s.window ≡ 48 → phase_limit f s.window p t y ≡ false → CutIn p → (needs_bytes p ≡ true → 0 < length d) → is_ended p ≡ false
      → Less (steps_at f p n) (on_phase s p d set names t y o)
  unfolding switched_of
  phase_less (P.Packet h) w l cut some e = packet_less h w l (some refl)
  phase_less (P.Response x) w l cut some e = response_less x some
  phase_less (P.Switched k) w l cut some e = omega arith
  phase_less (P.Table x) w l cut some e = table_less x (ltb-false x.declared x.filled (neither (ltb (length t) x.declared) (ltb x.declared x.filled) l).1) some
  phase_less (P.Between k i) w l cut some e = between_less k i
  phase_less (P.Region k x) w l cut some e = region_less k x cut some
  phase_less (P.Ended k) w l cut some e = differ (sym e)

-- where no byte is needed, something is left to be done
pub steps_some : (f n : ℕ) (p : Phase) → is_ended p ≡ false → (needs_bytes p ≡ true → 0 < n) → 0 < steps_at f p n
steps_some f n (P.Packet h) e g = omega (arith, g refl)
steps_some f n (P.Response x) e g = omega arith
steps_some f n (P.Switched k) e g = omega arith
steps_some f n (P.Table x) e g = omega arith
steps_some f n (P.Between k i) e g = omega arith
steps_some f n (P.Region k x) e g = omega arith
steps_some f n (P.Ended k) e g = differ (sym e)
