-- The law at one step, of the phases that fill a buffer and of a region: by whether d is short of what the phase takes. Assumes nothing.
use mathlib.Core.Path.{◌≡◌, refl, sym, ap, subst, ◌∙◌}
use mathlib.Core.Bool.{true, false}
use mathlib.Core.List.{List, [], ◌∷◌, ◌++◌, map}
use Prim.Native.Nat.{ℕ, ◌+◌, ◌-◌, ◌≤◌, ◌<◌, min}
use native.Mathlib.Omega.{arith}
use borrow.Author.Tests.{ltb-true, ltb-false, le-ltb, ne_eqb}
use lib.Dec.{ltb, eqb}
use lib.ListN.{length, take, length-append}
use lib.Seq.{take-append-le, take-length, take-append-add, paste, length-paste}
use Rattle.base.proofs.Ranges.{by_test}
use Rattle.base.proofs.Tests.{neither, and_false}
use Rattle.field.specs.Field.{field_size}
use Rattle.verdict.specs.Opening.{on_usb}
use Rattle.session.specs.declared.Filling.{Filling}
use Rattle.session.specs.declared.Region.{Region}
use Rattle.session.specs.declared.Phase.{Phase}
use Rattle.session.specs.declared.Phase.TheVariants as P
use Rattle.session.specs.declared.Session.{Session}
use Rattle.session.specs.Outcome.{Outcome, in_phase, filling}
use Rattle.session.specs.FillingPhase.{response_of, table_of}
use Rattle.session.specs.RegionPhase.{hand_of, region_of, recounted}
use Rattle.session.specs.Limits.{reads_limit, phase_limit, limit_of, filling_limit, region_limit}
use Rattle.session.specs.Step.{on_phase}
use Rattle.waiting.specs.Waiting.{InOrder}
use Rattle.waiting.specs.Wanted.{region_waits}
use Rattle.fetch.specs.Plain.{byte}
use Rattle.division.specs.Over.{Event, does}
use Rattle.division.specs.Law.{Divides, alone, joined}
use Rattle.division.proofs.Window.{paste_paste}

-- bytes handed out in two parts show what they show at once
bytes_two : (x y : List ℕ) → map does (map byte (x ++ y)) ++ [] ≡ (map does (map byte x) ++ []) ++ (map does (map byte y) ++ [])
bytes_two [] y = refl
bytes_two (a ∷ x) y = ap (λ (l : List Event). does (byte a) ∷ l) (bytes_two x y)

-- a session in another phase that is within its limits
pub still_in_order : (s z : Session) (set names t y o t' y' : List ℕ) → InOrder s set names t y o → z.reads ≡ s.reads
    → phase_limit (field_size z.width) z.window z.phase t' y' ≡ false → InOrder z set names t' y' o
unfolding limit_of
still_in_order s z set names t y o t' y' i e l =
    let r : reads_limit s ≡ false = (neither (reads_limit s) (phase_limit (field_size s.width) s.window s.phase t y) i.limits).0 in
    record { images = i.images; stems = i.stems; room = i.room; limits = rw (e, r, l) refl }

filling_stays : (f k : ℕ) (d b : List ℕ) → f + length d < k → k ≤ length b → filling_limit (filling k (f + length d)) (paste b f d (length d)) ≡ false
filling_stays f k d b l g =
    let e : length (paste b f d (length d)) ≡ length b = length-paste b f d (length d) (omega arith) (omega arith) in
    rw (e, le-ltb (length b) k g, le-ltb k (f + length d) (omega arith)) refl

module _ (s : Session) (set names d e t y o : List ℕ) (inOrder : InOrder s set names t y o) where
  -- the second step, lent what the first one left
  abbrev pub again : Outcome → Outcome
  again p = on_phase p.stepped.session p.stepped.session.phase e set names p.table p.reply p.out

  abbrev pub Law : Phase → Outcome → Outcome → Type 0
  Law from p r = Divides from set names d e p (again p) r

  -- ---- a buffer is filled

  module _ (x : Filling) where
    abbrev k : ℕ
    k = x.declared

    abbrev f : ℕ
    f = x.filled

    abbrev a : ℕ
    a = length d

    abbrev n : ℕ
    n = min (k - (f + a)) (length e)

    pub response_law : k ≤ length y → Law (P.Response x) (response_of s x d t y o) (response_of s x (d ++ e) t y o)
    unfolding response_of
    response_law l =
        by_test (ltb (f + a) k)
        (λ m.
        let c : f + a < k = ltb-true _ _ m in
        let i : min (k - f) a ≡ a = omega arith in
        let j : min (k - f) (length (d ++ e)) ≡ a + n = omega (arith, length-append d e) in
        let z : f + (a + n) ≡ f + a + n = omega arith in
        let ord = still_in_order s (in_phase s (P.Response (filling k (f + a)))) set names t y o t (paste y f d a) inOrder refl (filling_stays f k d y c l) in
        rw (i, m, j, ← paste_paste y f d e n (omega arith), z)
        (by_test (ltb (f + a + n) k)
        (λ q. rw q (joined (record { live = refl; packet = refl; order = ord; all = refl; taken = refl; session = refl; table = refl; reply = refl; out = refl; events = refl })))
        (λ q. rw q (joined (record { live = refl; packet = refl; order = ord; all = refl; taken = refl; session = refl; table = refl; reply = refl; out = refl; events = refl })))))
        (λ m.
        let c : k ≤ f + a = ltb-false _ _ m in
        let j : min (k - f) (length (d ++ e)) ≡ min (k - f) a = omega (arith, length-append d e) in
        alone (rw (j, take-append-le (min (k - f) a) d e (omega arith)) refl))

    pub table_law : k ≤ length t → Law (P.Table x) (table_of s x d t y o) (table_of s x (d ++ e) t y o)
    unfolding table_of
    table_law l =
        by_test (ltb (f + a) k)
        (λ m.
        let c : f + a < k = ltb-true _ _ m in
        let i : min (k - f) a ≡ a = omega arith in
        let j : min (k - f) (length (d ++ e)) ≡ a + n = omega (arith, length-append d e) in
        let z : f + (a + n) ≡ f + a + n = omega arith in
        let ord = still_in_order s (in_phase s (P.Table (filling k (f + a)))) set names t y o (paste t f d a) y inOrder refl (filling_stays f k d t c l) in
        rw (i, m, j, ← paste_paste t f d e n (omega arith), z)
        (by_test (ltb (f + a + n) k)
        (λ q. rw q (joined (record { live = refl; packet = refl; order = ord; all = refl; taken = refl; session = refl; table = refl; reply = refl; out = refl; events = refl })))
        (λ q. rw q (joined (record { live = refl; packet = refl; order = ord; all = refl; taken = refl; session = refl; table = refl; reply = refl; out = refl; events = refl })))))
        (λ m.
        let c : k ≤ f + a = ltb-false _ _ m in
        let j : min (k - f) (length (d ++ e)) ≡ min (k - f) a = omega (arith, length-append d e) in
        alone (rw (j, take-append-le (min (k - f) a) d e (omega arith)) refl))

  -- ---- bytes are handed out

  module _ (k : ℕ) (x : Region) (more : 0 < length e) where
    hand_law : region_limit (field_size s.width) k x t ≡ false → eqb x.outstanding 0 ≡ false → x.due ≡ false → 0 < length d
        → Law (P.Region k x) (hand_of s k x d t y o) (hand_of s k x (d ++ e) t y o)
    unfolding hand_of region_of
    hand_law within z u some =
        let a : ℕ = length d in
        let b : ℕ = length e in
        let w : ℕ = x.outstanding in
        let c : eqb a 0 ≡ false = ne_eqb a 0 (λ i. omega arith) in
        let c' : eqb (length (d ++ e)) 0 ≡ false = ne_eqb (length (d ++ e)) 0 (λ i. omega (arith, length-append d e)) in
        by_test (ltb a w)
        (λ m.
        let l : a < w = ltb-true _ _ m in
        let n : ℕ = min (w - a) b in
        let i : min w a ≡ a = omega arith in
        let j : min w (length (d ++ e)) ≡ a + n = omega (arith, length-append d e) in
        let v : eqb (w - a) 0 ≡ false = ne_eqb (w - a) 0 (λ i. omega arith) in
        let g : x.done + (a + n) ≡ x.done + a + n = omega arith in
        let r : w - (a + n) ≡ w - a - n = omega arith in
        let sum : x.done + a + (w - a) ≡ x.done + w = omega arith in
        let ord = still_in_order s (in_phase s (P.Region k (recounted x (x.done + a) (w - a) false))) set names t y o t y inOrder refl (rw sum within) in
        rw (c, c', i, j, v, and_false (on_usb s.opening), g, r)
        (rw (ne_eqb b 0 (λ i. omega arith))
        (joined
        (record {
          live = refl;
          packet = refl;
          order = ord;
          all = refl;
          taken = refl;
          session = refl;
          table = refl;
          reply = refl;
          out = refl;
          events = ap (λ (l : List ℕ). map does (map byte l) ++ []) (take-append-add d e n) ∙ bytes_two d (take n e) ∙ rw take-length refl;
        }))))
        (λ m.
        let l : w ≤ a = ltb-false _ _ m in
        let j : min w (length (d ++ e)) ≡ min w a = omega (arith, length-append d e) in
        alone (rw (c, c', j) refl))

    -- what is outstanding is handed out, and nothing comes before it
    hands : x.due ≡ false → eqb x.outstanding 0 ≡ false → (l : List ℕ) → region_of s k x l t y o ≡ hand_of s k x l t y o
    unfolding region_of
    hands u z l = rw (u, z) refl

    abbrev Regions : Outcome → Outcome → Type 0
    Regions p r = Law (P.Region k x) p r

    pub region_law : region_limit (field_size s.width) k x t ≡ false → (region_waits x ≡ true → 0 < length d)
        → Regions (region_of s k x d t y o) (region_of s k x (d ++ e) t y o)
    unfolding region_of
    region_law within some =
        by_test x.due (λ u. alone (rw u refl))
        (λ u.
        by_test (eqb x.outstanding 0) (λ z. alone (rw (u, z) refl))
        (λ z.
        subst (λ (p : Outcome). Regions p (region_of s k x (d ++ e) t y o)) (sym (hands u z d))
        (subst (Regions (hand_of s k x d t y o)) (sym (hands u z (d ++ e))) (hand_law within z u (some (rw (u, z) refl))))))
