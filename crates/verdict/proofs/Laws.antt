-- Laws of the verdict. It looks at no more than a packet's first 48 bytes, as decoding does; a hello is answered alike whatever the device offers; and where a
-- packet's length is not its kind's, nothing else of it is looked at. Assumes nothing.
use mathlib.Core.Path.{◌≡◌, refl, sym, ap}
use mathlib.Core.Bool.{Bool, true, false, not, true≢false}
use mathlib.Core.List.{List}
use Prim.Native.Nat.{ℕ}
use lib.Dec.{eqb}
use lib.ListN.{take}
use Rattle.base.specs.Choice.{pick}
use Rattle.packet.proofs.Laws.{window}
use Rattle.packet.specs.declared.HelloReq.{HelloReq}
use Rattle.packet.specs.declared.SaharaPacketBody.{SaharaPacketBody}
use Rattle.packet.specs.declared.SaharaPacketBody.TheVariants as B
use Rattle.verdict.specs.Verdict.{on_body, on_decoded, verdict_of}
use Rattle.verdict.specs.declared.Opening.{Opening}
use Rattle.verdict.specs.declared.Verdict.{Verdict}
use Rattle.std.specs.Prelude.{Result, Err}
use Rattle.refusal.specs.declared.Refusal.{Refusal}

-- the length field is not the one that the kind must have. Of DoneResp and ExecuteResp any good length is, and what only a host sends is refused for its kind
abbrev wrong_length : ℕ → SaharaPacketBody → Bool
wrong_length len (B.HelloReq b) = not (eqb len 48)
wrong_length len (B.HelloResp b) = false
wrong_length len (B.ReadReq b) = not (eqb len 20)
wrong_length len (B.Eoi b) = not (eqb len 16)
wrong_length len B.DoneReq = false
wrong_length len (B.DoneResp b) = false
wrong_length len B.ResetResp = not (eqb len 8)
wrong_length len (B.DebugReq b) = not (eqb len 16)
wrong_length len (B.ReadMemReq b) = false
wrong_length len B.CommandReady = not (eqb len 8)
wrong_length len (B.ExecResp b) = false
wrong_length len (B.ExecData b) = false
wrong_length len (B.Debug64Req b) = not (eqb len 24)
wrong_length len (B.ReadMem64Req b) = false
wrong_length len (B.ReadData64Req b) = not (eqb len 32)

refused : (right : Bool) (v : Result Verdict Refusal) → not right ≡ true → pick right v (Err Refusal.KindLength) ≡ Err Refusal.KindLength
refused true v e = absurd (true≢false (sym e))
refused false v e = refl

module _ (u : Opening) (set : List ℕ) (tsize rsize : ℕ) where
  -- the first 48 bytes of a packet say what the whole packet says
  pub verdict_window : (p : List ℕ) → verdict_of u set tsize rsize (take 48 p) ≡ verdict_of u set tsize rsize p
  unfolding verdict_of
  verdict_window p = ap (on_decoded u set tsize rsize) (window p)

  module _ (len : ℕ) where
    -- "the session's mode, ... whatever the device offered"
    hello_any : (b c : HelloReq) → on_body u set tsize rsize len (B.HelloReq b) ≡ on_body u set tsize rsize len (B.HelloReq c)
    hello_any b c = refl

    -- 11 comes before all that the body could be refused for
    length_first : (b : SaharaPacketBody) → wrong_length len b ≡ true → on_body u set tsize rsize len b ≡ Err Refusal.KindLength
    length_first (B.HelloReq b) e = refused (eqb len 48) _ e
    length_first (B.HelloResp b) e = absurd (true≢false (sym e))
    length_first (B.ReadReq b) e = refused (eqb len 20) _ e
    length_first (B.Eoi b) e = refused (eqb len 16) _ e
    length_first B.DoneReq e = absurd (true≢false (sym e))
    length_first (B.DoneResp b) e = absurd (true≢false (sym e))
    length_first B.ResetResp e = refused (eqb len 8) _ e
    length_first (B.DebugReq b) e = refused (eqb len 16) _ e
    length_first (B.ReadMemReq b) e = absurd (true≢false (sym e))
    length_first B.CommandReady e = refused (eqb len 8) _ e
    length_first (B.ExecResp b) e = absurd (true≢false (sym e))
    length_first (B.ExecData b) e = absurd (true≢false (sym e))
    length_first (B.Debug64Req b) e = refused (eqb len 24) _ e
    length_first (B.ReadMem64Req b) e = absurd (true≢false (sym e))
    length_first (B.ReadData64Req b) e = refused (eqb len 32) _ e
