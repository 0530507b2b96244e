-- Number and values tell verdicts apart: each is found again from them. Of what is sent the packet's command says which request it is, and one value
-- more that it is a response or a memory debug. Assumes nothing.
use mathlib.Core.Path.{◌≡◌, refl, ap}
use mathlib.Core.List.{List}
use Prim.Native.Nat.{ℕ}
use lib.Dec.{eqb}
use lib.ListN.{length, drop, get_or}
use Rattle.base.specs.Choice.{pick}
use Rattle.base.specs.Told.{Told}
use Rattle.refusal.proofs.Laws.{result_apart}
use mathlib.Core.Bool.{false}
use Rattle.verdict.specs.declared.Finish.{Finish}
use Rattle.field.specs.declared.Width.TheVariants as WI
use Rattle.command.specs.Command.{command_of}
use Rattle.command.specs.declared.SaharaCmdModeCmd.{SaharaCmdModeCmd}
use Rattle.command.proofs.Laws.{command_is, command_again}
use Rattle.build.specs.declared.Request.{Request}
use Rattle.build.specs.declared.Request.TheVariants as Q
use Rattle.build.proofs.Telling.{request_from, request_back}
use Rattle.verdict.specs.Verdict.{finish_number, finish_of, ask_told, verdict_told}
use Rattle.verdict.specs.declared.Verdict.{Verdict}
use Rattle.verdict.specs.declared.Verdict.TheVariants as W
use Rattle.std.specs.Prelude.{Result}
use Rattle.refusal.specs.declared.Refusal.{Refusal}

-- what is sent: an ExecuteData with a response's length, a memory read of either width with a count of memory reads, or a request alone
abbrev send_from : List ℕ → Verdict
send_from vs =
    pick (eqb (length vs) 4) (W.Debug (pick (eqb (get_or vs 0 0) 0x0a) WI.Bits32 WI.Bits64) (get_or vs 1 0) (get_or vs 2 0))
    (pick (eqb (length vs) 3)
    (pick (eqb (get_or vs 0 0) 0x0f) (W.Respond (command_is (command_of (get_or vs 1 0))) (get_or vs 2 0)) (W.Reply (request_from (get_or vs 0 0) (drop 1 vs))))
    (W.Reply (request_from (get_or vs 0 0) (drop 1 vs))))

abbrev ask_from : Told → Verdict
ask_from t =
    pick (eqb t.number 0) W.Pass
    (pick (eqb t.number 1) (send_from t.values)
    (pick (eqb t.number 2) (W.Image (get_or t.values 0 0) (get_or t.values 1 0)) (W.Finish (finish_of (get_or t.values 0 0)))))

pub finish_back : (how : Finish) → finish_of (finish_number how) ≡ how
finish_back Finish.ImagesSent = refl
finish_back Finish.Reset = refl
finish_back Finish.Dumped = refl
finish_back Finish.Reply = refl

reply_back : (q : Request) → ask_from (ask_told (W.Reply q)) ≡ W.Reply q
reply_back (Q.HelloResp m) = ap W.Reply (request_back (Q.HelloResp m))
reply_back Q.Done = refl
reply_back (Q.Execute c) = ap W.Reply (request_back (Q.Execute c))
reply_back (Q.ExecuteData c) = ap W.Reply (request_back (Q.ExecuteData c))
reply_back Q.SwitchMode = refl
reply_back Q.Reset = refl
reply_back (Q.MemRead WI.Bits32 a k) = refl
reply_back (Q.MemRead WI.Bits64 a k) = refl

ask_back : (x : Verdict) → ask_from (ask_told x) ≡ x
ask_back (W.Reply q) = reply_back q
ask_back (W.Image start k) = refl
ask_back W.Pass = refl
ask_back (W.Finish how) = ap W.Finish (finish_back how)
ask_back (W.Respond c k) = ap (λ (x : SaharaCmdModeCmd). W.Respond x k) (command_again c)
ask_back (W.Debug WI.Bits32 a k) = refl
ask_back (W.Debug WI.Bits64 a k) = refl

-- none is told as a refusal
not_refused : (x : Verdict) → eqb (ask_told x).number 8 ≡ false
not_refused (W.Reply q) = refl
not_refused (W.Image start k) = refl
not_refused W.Pass = refl
not_refused (W.Finish how) = refl
not_refused (W.Respond c k) = refl
not_refused (W.Debug v a k) = refl

pub verdict_apart : (x y : Result Verdict Refusal) → verdict_told x ≡ verdict_told y → x ≡ y
verdict_apart = result_apart ask_told ask_from not_refused ask_back
