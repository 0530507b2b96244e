-- `packet_phase::kept` meets its contract: the copy of what fits is the kept window. Assumes nothing.
use mathlib.Core.Path.{◌≡◌, ◌∙◌, ap}
use mathlib.Core.List.{List}
use Prim.Native.Nat.{ℕ, ◌-◌, min}
use native.Mathlib.Omega.{arith}
use lib.ListN.{length}
use Rattle.packet_phase.proofs.Laws.{copy_kept}
use Rattle.copy.specs.Copy.{copied}
use Rattle.packet_phase.proofs.kept.Goals as goal

pub returns : goal.returns
returns c =
    let a = c.args in
    let x : List ℕ = a.x.now in
    let f : length a.window ≡ 48 = omega (arith, c.well_formed) in
    let e : c.min-n.result ≡ min (48 - a.held) (length x) = omega arith in
    c.copy_into.ensures ∙ ap (copied a.window a.held x) e ∙ copy_kept a.window f a.held x
