-- Number and values tell the answers of a tidying apart: each is found again from them. Assumes nothing.
use Rattle.std.specs.Prelude.{◌≡◌, ℕ, Result}
use Rattle.refusal.specs.declared.Refusal.{Refusal}
use Rattle.refusal.proofs.Laws.{made_apart}
use Rattle.tidied.specs.Tidy.{tidied_told}

pub tidied_apart : (x y : Result ℕ Refusal) → tidied_told x ≡ tidied_told y → x ≡ y
tidied_apart = made_apart
