-- `bundle::Header::slots_good` meets its contract: `all` asks of the numbers below the count what `slots_good` asks of the slots. Assumes nothing.
use mathlib.Core.Path.{◌∙◌}
use native.Mathlib.Omega.{arith}
use Rattle.std.proofs.Common.{rules, tests}
use Rattle.std.proofs.lemmas.Iterator.{YieldsList-from_range}
use Rattle.std.proofs.lemmas.Iterator.Search.{all_from_yields_List}
use Rattle.bundle.specs.Bundle.{slot_good}
use Rattle.bundle.proofs.Laws.{slots_list}
use Rattle.bundle.proofs.Header.slots_good.Goals as goal

pub returns : goal.returns
returns c =
    let h = c.args.self in
    all_from_yields_List (slot_good c.args.gaps h.bytes.now) _ _ c.all.result c.all.ensures.ran (YieldsList-from_range 0 h.count h.count (cc) (omega arith))
    (λ x b q k. search (rules, tests))
    ∙ slots_list c.args.gaps h.bytes.now h.count 0
