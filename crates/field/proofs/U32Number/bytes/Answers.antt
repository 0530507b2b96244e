-- `u32`'s `bytes` meets its contract: the library's four, and zeros. Assumes nothing.
use Rattle.std.proofs.Common.{ℕ, List, [], ◌∷◌, ◌++◌, ap}
use Rattle.field.proofs.Laws.{bytes_are}
use Rattle.field.proofs.U32Number.bytes.Goals as goal

pub returns : goal.returns
returns c = rw c.to_le_bytes-b.ensures (ap (λ (s : List ℕ). s ++ 0 ∷ 0 ∷ 0 ∷ 0 ∷ []) (bytes_are 4 c.args.self))
