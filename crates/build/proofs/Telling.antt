-- Number and values tell requests apart, and the answers to a build: each is found again from them. Assumes nothing.
use mathlib.Core.Path.{◌≡◌, refl, ap}
use mathlib.Core.List.{List}
use Prim.Native.Nat.{ℕ}
use lib.Dec.{eqb}
use lib.ListN.{get_or}
use Rattle.base.specs.Choice.{pick}
use Rattle.base.specs.Told.{told_send}
use Rattle.refusal.proofs.Laws.{result_apart}
use Rattle.field.specs.declared.Width.TheVariants as WI
use Rattle.command.specs.Command.{mode_of, command_of}
use Rattle.command.proofs.Laws.{mode_is, command_is, mode_again, command_again}
use Rattle.build.specs.Build.{request_number, request_values, built_told}
use Rattle.build.specs.declared.Request.{Request}
use Rattle.build.specs.declared.Request.TheVariants as Q
use Rattle.std.specs.Prelude.{Result}
use Rattle.refusal.specs.declared.Refusal.{Refusal}

-- the request of a packet's command and the values that it chooses
abbrev pub request_from : ℕ → List ℕ → Request
request_from n vs =
    pick (eqb n 2) (Q.HelloResp (mode_is (mode_of (get_or vs 0 0))))
    (pick (eqb n 5) Q.Done
    (pick (eqb n 0x0d) (Q.Execute (command_is (command_of (get_or vs 0 0))))
    (pick (eqb n 0x0f) (Q.ExecuteData (command_is (command_of (get_or vs 0 0))))
    (pick (eqb n 0x0c) Q.SwitchMode
    (pick (eqb n 7) Q.Reset (Q.MemRead (pick (eqb n 0x0a) WI.Bits32 WI.Bits64) (get_or vs 0 0) (get_or vs 1 0)))))))

pub request_back : (q : Request) → request_from (request_number q) (request_values q) ≡ q
request_back (Q.HelloResp m) = ap Q.HelloResp (mode_again m)
request_back Q.Done = refl
request_back (Q.Execute c) = ap Q.Execute (command_again c)
request_back (Q.ExecuteData c) = ap Q.ExecuteData (command_again c)
request_back Q.SwitchMode = refl
request_back Q.Reset = refl
request_back (Q.MemRead WI.Bits32 a k) = refl
request_back (Q.MemRead WI.Bits64 a k) = refl

pub built_apart : (x y : Result ℕ Refusal) → built_told x ≡ built_told y → x ≡ y
built_apart = result_apart told_send (λ t. get_or t.values 0 0) (λ _. refl) (λ _. refl)
