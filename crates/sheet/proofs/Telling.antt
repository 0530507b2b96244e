-- Number and values tell the answers of a sheet apart: each is found again from them. Assumes nothing.
use Rattle.std.specs.Prelude.{◌≡◌, ℕ, Result}
use Rattle.refusal.specs.declared.Refusal.{Refusal}
use Rattle.refusal.proofs.Laws.{made_apart}
use Rattle.sheet.specs.Sheet.{sheet_told}

pub sheet_apart : (x y : Result ℕ Refusal) → sheet_told x ≡ sheet_told y → x ≡ y
sheet_apart = made_apart
