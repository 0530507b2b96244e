-- Number and values tell the answers about a name apart: each is found again from them. Assumes nothing.
use Rattle.std.specs.Prelude.{◌≡◌, Result}
use Rattle.refusal.specs.declared.Refusal.{Refusal}
use Rattle.refusal.proofs.Laws.{accepted_apart}
use Rattle.filename.specs.Filename.{name_told}

pub name_apart : (x y : Result Unit Refusal) → name_told x ≡ name_told y → x ≡ y
name_apart = accepted_apart
