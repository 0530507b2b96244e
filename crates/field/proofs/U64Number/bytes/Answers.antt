-- `u64`'s `bytes` meets its contract: the library's eight. Assumes nothing.
use Rattle.std.proofs.Common.{sym, ◌∙◌}
use mathlib.Core.List.{append-nil}
use Rattle.field.specs.Field.{le_bytes}
use Rattle.field.proofs.Laws.{bytes_are}
use Rattle.field.proofs.U64Number.bytes.Goals as goal

pub returns : goal.returns
returns c = c.to_le_bytes.ensures ∙ bytes_are 8 c.args.self ∙ sym (append-nil (le_bytes 8 c.args.self))
