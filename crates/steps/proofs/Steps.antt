-- From one step to a list of steps, once, over any machine, by induction on the list: the reports of a fair list are a beginning of what was due at
-- its start, and the whole of it once enough steps counted; machines that stay related, or do so as long as something holds; and a list in two parts. Assumes nothing.
use mathlib.Core.Path.{◌≡◌, refl, sym, ap, ◌∙◌}
use mathlib.Core.Bool.{Bool}
use mathlib.Core.List.{List, [], ◌∷◌, ◌++◌, append_assoc, append-nil}
use Prim.Native.Nat.{ℕ, ◌+◌, ◌-◌, ◌≤◌}
use native.Mathlib.Omega.{arith}
use Rattle.steps.specs.Steps.{one, final, Throughout, outs, counted}

-- Good is kept by a fair step, and rest is what is still to be reported
module _ {S I R : Type 0} (next : S → I → S) (out : S → I → List R) (Fair : S → I → Type 0) (Good : S → Type 0) (rest : S → List R)
    (kept : (s : S) (i : I) → Good s → Fair s i → Good (next s i))
    (due : (s : S) (i : I) → Good s → Fair s i → rest s ≡ out s i ++ rest (next s i)) where
  -- what was due is what the list reports, then what is due after it
  pub beginning : (is : List I) (s : S) → Good s → Throughout next Fair s is → rest s ≡ outs next out s is ++ rest (final next s is)
  beginning [] s g f = refl
  beginning (i ∷ is) s g f =
      due s i g f.0 ∙ ap (λ (l : List R). out s i ++ l) (beginning is (next s i) (kept s i g f.0) f.1)
      ∙ sym (append_assoc (out s i) (outs next out (next s i) is) (rest (final next s (i ∷ is))))

  -- mu bounds the steps that count
  module _ (counts : S → I → Bool) (mu : S → ℕ)
      (falls : (s : S) (i : I) → Good s → Fair s i → mu (next s i) ≤ mu s - one (counts s i))
      (empty : (s : S) → Good s → mu s ≡ 0 → rest s ≡ []) where
    none_left : (is : List I) (s : S) → Good s → Throughout next Fair s is → mu s ≤ counted next counts s is → rest (final next s is) ≡ []
    none_left [] s g f h = empty s g (omega arith)
    none_left (i ∷ is) s g f h =
        let d : mu (next s i) ≤ mu s - one (counts s i) = falls s i g f.0 in
        none_left is (next s i) (kept s i g f.0) f.1 (omega arith)

    -- once as many steps counted as mu says, nothing is left
    pub whole : (is : List I) (s : S) → Good s → Throughout next Fair s is → mu s ≤ counted next counts s is → rest s ≡ outs next out s is
    whole is s g f h = beginning is s g f ∙ rw (none_left is s g f h, append-nil) refl

-- Two machines whose states stay related under the same list, as long as P holds of each step of the first
module _ {S S' I : Type 0} (next : S → I → S) (next' : S' → I → S') (P : S → I → Type 0) (R : S → S' → Type 0)
    (kept : (s : S) (s' : S') (i : I) → P s i → R s s' → R (next s i) (next' s' i)) where
  -- what both report of related states is the same, and so of the list
  pub outs_while : {X : Type 0} (out : S → I → List X) (out' : S' → I → List X)
      → ((s : S) (s' : S') (i : I) → P s i → R s s' → out s i ≡ out' s' i)
      → (is : List I) (s : S) (s' : S') → Throughout next P s is → R s s' → outs next out s is ≡ outs next' out' s' is
  outs_while out out' same [] s s' p r = refl
  outs_while {X} out out' same (i ∷ is) s s' p r =
      ap (λ (l : List X). l ++ outs next out (next s i) is) (same s s' i p.0 r)
      ∙ ap (λ (l : List X). out' s' i ++ l) (outs_while out out' same is (next s i) (next' s' i) p.1 (kept s s' i p.0 r))

  -- the states after the list are related too
  pub final_while : (is : List I) (s : S) (s' : S') → Throughout next P s is → R s s' → R (final next s is) (final next' s' is)
  final_while [] s s' p r = r
  final_while (i ∷ is) s s' p r = final_while is (next s i) (next' s' i) p.1 (kept s s' i p.0 r)

-- what holds of every step holds throughout any list
pub always : {S I : Type 0} (next : S → I → S) (P : S → I → Type 0) → ((s : S) (i : I) → P s i) → (is : List I) (s : S) → Throughout next P s is
always next P h [] s = tt
always next P h (i ∷ is) s = (h s i, always next P h is (next s i))

-- Two machines whose states stay related, step by step, under the same list: a state that carries more for a proof than the machine's own, or the same
-- machine over other states
module _ {S S' I : Type 0} (next : S → I → S) (next' : S' → I → S') (R : S → S' → Type 0)
    (kept : (s : S) (s' : S') (i : I) → R s s' → R (next s i) (next' s' i)) where
  abbrev Any : S → I → Type 0
  Any s i = Unit

  any : (is : List I) (s : S) → Throughout next Any s is
  any = always next Any (λ s i. tt)

  pub outs_related : {X : Type 0} (out : S → I → List X) (out' : S' → I → List X) → ((s : S) (s' : S') (i : I) → R s s' → out s i ≡ out' s' i)
      → (is : List I) (s : S) (s' : S') → R s s' → outs next out s is ≡ outs next' out' s' is
  outs_related out out' same is s s' r =
      outs_while next next' Any R (λ s s' i p. kept s s' i) out out' (λ s s' i p. same s s' i) is s s' (any is s) r

  pub final_related : (is : List I) (s : S) (s' : S') → R s s' → R (final next s is) (final next' s' is)
  final_related is s s' r = final_while next next' Any R (λ s s' i p. kept s s' i) is s s' (any is s) r

  -- how many steps count
  pub counted_related : (counts : S → I → Bool) (counts' : S' → I → Bool) → ((s : S) (s' : S') (i : I) → R s s' → counts s i ≡ counts' s' i)
      → (is : List I) (s : S) (s' : S') → R s s' → counted next counts s is ≡ counted next' counts' s' is
  counted_related counts counts' same [] s s' r = refl
  counted_related counts counts' same (i ∷ is) s s' r =
      ap (λ (b : Bool). one b + counted next counts (next s i) is) (same s s' i r)
      ∙ ap (λ (k : ℕ). one (counts' s' i) + k) (counted_related counts counts' same is (next s i) (next' s' i) (kept s s' i r))

  -- what each step of the second machine's list meets, each of the first one's meets too
  pub fair_related : (Fair : S → I → Type 0) (Fair' : S' → I → Type 0) → ((s : S) (s' : S') (i : I) → R s s' → Fair' s' i → Fair s i)
      → (is : List I) (s : S) (s' : S') → R s s' → Throughout next' Fair' s' is → Throughout next Fair s is
  fair_related Fair Fair' same [] s s' r f = tt
  fair_related Fair Fair' same (i ∷ is) s s' r f =
      (same s s' i r f.0, fair_related Fair Fair' same is (next s i) (next' s' i) (kept s s' i r) f.1)

-- A list in two parts: the second begins where the first ends
module _ {S I : Type 0} (next : S → I → S) where
  pub outs_append : {R : Type 0} (out : S → I → List R) (is js : List I) (s : S)
      → outs next out s (is ++ js) ≡ outs next out s is ++ outs next out (final next s is) js
  outs_append out [] js s = refl
  outs_append {R} out (i ∷ is) js s =
      ap (λ (l : List R). out s i ++ l) (outs_append out is js (next s i))
      ∙ sym (append_assoc (out s i) (outs next out (next s i) is) (outs next out (final next s (i ∷ is)) js))

  pub throughout_first : (P : S → I → Type 0) (is js : List I) (s : S) → Throughout next P s (is ++ js) → Throughout next P s is
  throughout_first P [] js s h = tt
  throughout_first P (i ∷ is) js s h = (h.0, throughout_first P is js (next s i) h.1)

  pub throughout_second : (P : S → I → Type 0) (is js : List I) (s : S) → Throughout next P s (is ++ js) → Throughout next P (final next s is) js
  throughout_second P [] js s h = h
  throughout_second P (i ∷ is) js s h = throughout_second P is js (next s i) h.1
