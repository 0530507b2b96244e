-- Laws of what answers tell: an equation with the definition is the promise; and where a way back is known, number and values tell the answers apart.
-- Assumes nothing.
use mathlib.Core.Path.{◌≡◌, sym, ap, ◌∙◌}
use Rattle.base.specs.Told.{Told, Tells}

pub tells : {A : Type 0} (t : A → Told) {r d : A} → r ≡ d → Tells t r d
tells t e = record { is = e; told = ap t e }

pub apart : {A : Type 0} (t : A → Told) (back : Told → A) → ((a : A) → back (t a) ≡ a) → (a b : A) → t a ≡ t b → a ≡ b
apart t back h a b e = sym (h a) ∙ ap back e ∙ h b
