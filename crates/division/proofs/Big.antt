-- A packet that a response or a table follows has 16 bytes or more: by its kind's least bytes. Assumes nothing.
use mathlib.Core.Path.{◌≡◌, refl}
use mathlib.Core.List.{List}
use Prim.Native.Nat.{ℕ, ◌+◌, ◌≤◌}
use native.Mathlib.Omega.{arith}
use lib.Dec.{eqb, ltb}
use lib.ListN.{length}
use Rattle.base.proofs.Tests.{split}
use Rattle.bundle.specs.Bundle.{count_of}
use Rattle.image.specs.Image.{range_unjudged}
use Rattle.packet.specs.declared.SaharaPacket.{SaharaPacket}
use Rattle.packet.specs.declared.SaharaPacketBody.{SaharaPacketBody}
use Rattle.packet.specs.declared.SaharaPacketBody.TheVariants as B
use Rattle.packet.proofs.Laws.{accepted}
use Rattle.packet.specs.Packet.{kind_in, decode_of}
use Rattle.command.specs.Command.{least_body}
use Rattle.verdict.specs.Verdict.{image_for, execute_for, on_body, on_decoded, verdict_of, room}
use Rattle.verdict.specs.declared.Opening.{Opening}
use Rattle.verdict.specs.declared.Verdict.{Verdict}
use Rattle.verdict.specs.declared.Verdict.TheVariants as W
use Rattle.std.specs.Prelude.{Option, Some, None, Result, Ok, Err}
use Rattle.refusal.specs.declared.Refusal.{Refusal}
use Rattle.command.specs.declared.SaharaCmdModeCmd.{SaharaCmdModeCmd}

abbrev pub Big : ℕ → Result Verdict Refusal → Type 0
Big n (Ok (W.Reply q)) = Unit
Big n (Ok (W.Image x k)) = Unit
Big n (Ok W.Pass) = Unit
Big n (Ok (W.Finish how)) = Unit
Big n (Ok (W.Respond c k)) = 16 ≤ n
Big n (Ok (W.Debug v a k)) = 16 ≤ n
Big n (Err why) = Unit

module _ (u : Opening) (set : List ℕ) (tsize rsize n : ℕ) where
  image_big : (r : Result (ℕ × ℕ) Refusal) → Big n (image_for r)
  image_big (Ok (x, k)) = tt
  image_big (Err why) = tt

  execute_big : (c : Option SaharaCmdModeCmd) → Big n (execute_for c)
  execute_big (Some c) = tt
  execute_big None = tt

  on_body_lem : (len : ℕ) (b : SaharaPacketBody) → 8 + least_body (kind_in b) ≤ n → Big n (on_body u set tsize rsize len b)
  on_body_lem len (B.HelloReq b) l = split (Big n) (eqb len 48) (λ e. tt) (λ e. tt)
  on_body_lem len (B.HelloResp b) l = tt
  on_body_lem len (B.ReadReq b) l = split (Big n) (eqb len 20) (λ e. image_big (range_unjudged set b.image b.offset b.len)) (λ e. tt)
  on_body_lem len (B.Eoi b) l = split (Big n) (eqb len 16) (λ e. split (Big n) (eqb b.status 0) (λ i. tt) (λ i. tt)) (λ e. tt)
  on_body_lem len B.DoneReq l = tt
  on_body_lem len (B.DoneResp b) l = split (Big n) (eqb b.status 1) (λ e. tt) (λ e. split (Big n) (eqb (count_of set) 1) (λ i. tt) (λ i. tt))
  on_body_lem len B.ResetResp l = split (Big n) (eqb len 8) (λ e. tt) (λ e. tt)
  on_body_lem len (B.DebugReq b) l = split (Big n) (eqb len 16) (λ e. split (Big n) (ltb (room tsize) b.len) (λ i. tt) (λ i. omega arith)) (λ e. tt)
  on_body_lem len (B.ReadMemReq b) l = tt
  on_body_lem len B.CommandReady l = split (Big n) (eqb len 8) (λ e. execute_big u.command) (λ e. tt)
  on_body_lem len (B.ExecResp b) l = split (Big n) (ltb rsize b.len) (λ e. tt) (λ e. omega arith)
  on_body_lem len (B.ExecData b) l = tt
  on_body_lem len (B.Debug64Req b) l = split (Big n) (eqb len 24) (λ e. split (Big n) (ltb (room tsize) b.len) (λ i. tt) (λ i. omega arith)) (λ e. tt)
  on_body_lem len (B.ReadMem64Req b) l = tt
  on_body_lem len (B.ReadData64Req b) l = split (Big n) (eqb len 32) (λ e. image_big (range_unjudged set b.image b.offset b.len)) (λ e. tt)

module _ (u : Opening) (set : List ℕ) (tsize rsize : ℕ) (p : List ℕ) where
  on_decoded_lem : (x : Result SaharaPacket Refusal) → decode_of p ≡ x → Big (length p) (on_decoded u set tsize rsize x)
  on_decoded_lem (Ok q) e = on_body_lem u set tsize rsize (length p) q.len q.body (accepted p q e).least
  on_decoded_lem (Err why) e = tt

  pub big : Big (length p) (verdict_of u set tsize rsize p)
  unfolding verdict_of
  big = on_decoded_lem (decode_of p) refl
