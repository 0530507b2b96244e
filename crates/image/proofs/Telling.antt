-- Number and values tell image ranges apart: each is found again from them. Assumes nothing.
use mathlib.Core.Path.{◌≡◌, refl}
use lib.ListN.{get_or}
use Rattle.base.specs.Told.{told_image}
use Rattle.refusal.proofs.Laws.{result_apart}
use Rattle.image.specs.Image.{range_told}
use Rattle.std.specs.Prelude.{ℕ, Result}
use Rattle.refusal.specs.declared.Refusal.{Refusal}

pub range_apart : (x y : Result (ℕ × ℕ) Refusal) → range_told x ≡ range_told y → x ≡ y
range_apart = result_apart (λ r. told_image r.0 r.1) (λ t. (get_or t.values 0 0, get_or t.values 1 0)) (λ _. refl) (λ _. refl)
