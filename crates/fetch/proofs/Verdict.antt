-- The verdict on a packet is sane, by cases of what is decoded.
-- Assumes nothing.
use mathlib.Core.Path.{◌≡◌, refl}
use mathlib.Core.Bool.{Bool, true, false}
use mathlib.Core.List.{List}
use Prim.Native.Nat.{ℕ, ◌+◌, ◌≤◌}
use native.Mathlib.Omega.{arith}
use lib.Dec.{ltb, leb, eqb}
use lib.ListN.{length}
use borrow.Author.Tests.{ltb-false}
use Rattle.base.specs.Choice.{pick}
use Rattle.field.specs.declared.Width.{Width}
use Rattle.field.specs.declared.Width.TheVariants as WI
use Rattle.bundle.specs.Bundle.{count_of, slot_of}
use Rattle.bundle.specs.declared.Slot.{Slot}
use Rattle.bundle.specs.declared.Slot.TheVariants as S
use Rattle.image.specs.Image.{slot_for, range_in, range_unjudged}
use Rattle.image.proofs.Laws.{unjudged_within}
use Rattle.command.specs.Command.{class_of, least_body, mode_of, command_of}
use Rattle.command.specs.declared.SaharaCmd.{SaharaCmd}
use Rattle.command.specs.declared.SaharaCmd.TheVariants as K
use Rattle.command.specs.declared.SaharaMode.{SaharaMode}
use Rattle.command.specs.declared.Class.{Class}
use Rattle.command.specs.declared.Class.TheVariants as C
use Rattle.packet.specs.Packet.{
  command_field,
  length_field,
  word,
  hello_of,
  hello_resp_of,
  exec_resp_of,
  exec_data_of,
  body_of,
  kind_of,
  packet_with,
  by_class,
  decode_of,
}
use Rattle.packet.specs.declared.SaharaPacketBody.{SaharaPacketBody}
use Rattle.packet.specs.declared.SaharaPacketBody.TheVariants as B
use Rattle.verdict.specs.Verdict.{finish_number, exactly, image_for, execute_for, room, table_for, on_body, on_decoded, verdict_of}
use Rattle.verdict.specs.declared.Opening.{Opening}
use Rattle.verdict.specs.declared.Verdict.{Verdict}
use Rattle.verdict.specs.declared.Verdict.TheVariants as W
use Rattle.session.specs.declared.Answer.TheVariants as A
use Rattle.fetch.specs.Device.{aside}
use Rattle.base.proofs.Tests.{split}
use Rattle.fetch.proofs.Sent.{asks}
use Rattle.std.specs.Prelude.{Option, Some, None, Result, Ok, Err}
use Rattle.refusal.specs.declared.Refusal.{Refusal}
use Rattle.packet.specs.declared.SaharaPacket.{SaharaPacket}
use Rattle.command.specs.declared.SaharaCmdModeCmd.{SaharaCmdModeCmd}

-- a refusal is none of those that leave all untouched
abbrev pub Ends : Refusal → Type 0
Ends why = aside (A.Refused why) ≡ false

-- ---- what decoding refuses

abbrev DecodedSane : {A : Type 0} → Result A Refusal → Type 0
DecodedSane (Ok a) = Unit
DecodedSane (Err why) = Ends why

mode_sane : (n : ℕ) → DecodedSane (mode_of n)
unfolding mode_of
mode_sane n =
    split DecodedSane (eqb n 0) (λ e. tt)
    (λ e. split DecodedSane (eqb n 1) (λ m. tt) (λ m. split DecodedSane (eqb n 2) (λ i. tt) (λ i. split DecodedSane (eqb n 3) (λ j. tt) (λ j. refl))))

command_sane : (n : ℕ) → DecodedSane (command_of n)
unfolding command_of
command_sane n =
    split DecodedSane (eqb n 0) (λ e. tt)
    (λ e. split DecodedSane (eqb n 1) (λ m. tt) (λ m. split DecodedSane (eqb n 2) (λ i. tt) (λ i. split DecodedSane (eqb n 3) (λ j. tt) (λ j. refl))))

hello_sane : (p : List ℕ) (m : Result SaharaMode Refusal) → DecodedSane m → DecodedSane (hello_of p m)
hello_sane p (Ok m) e = tt
hello_sane p (Err why) e = e

hello_resp_sane : (p : List ℕ) (m : Result SaharaMode Refusal) → DecodedSane m → DecodedSane (hello_resp_of p m)
hello_resp_sane p (Ok m) e = tt
hello_resp_sane p (Err why) e = e

exec_resp_sane : (p : List ℕ) (c : Result SaharaCmdModeCmd Refusal) → DecodedSane c → DecodedSane (exec_resp_of p c)
exec_resp_sane p (Ok c) e = tt
exec_resp_sane p (Err why) e = e

exec_data_sane : (p : List ℕ) (c : Result SaharaCmdModeCmd Refusal) → DecodedSane c → DecodedSane (exec_data_of p c)
exec_data_sane p (Ok c) e = tt
exec_data_sane p (Err why) e = e

body_sane : (p : List ℕ) (k : SaharaCmd) → DecodedSane (body_of p k)
body_sane p K.Hello = hello_sane p (mode_of (word p 3)) (mode_sane (word p 3))
body_sane p K.HelloResp = hello_resp_sane p (mode_of (word p 3)) (mode_sane (word p 3))
body_sane p K.ReadData = tt
body_sane p K.EndOfImage = tt
body_sane p K.Done = tt
body_sane p K.DoneResp = tt
body_sane p K.ResetResp = tt
body_sane p K.MemDebug = tt
body_sane p K.MemRead = tt
body_sane p K.CommandReady = tt
body_sane p K.ExecuteResp = exec_resp_sane p (command_of (word p 0)) (command_sane (word p 0))
body_sane p K.ExecuteData = exec_data_sane p (command_of (word p 0)) (command_sane (word p 0))
body_sane p K.MemDebug64 = tt
body_sane p K.MemRead64 = tt
body_sane p K.ReadData64 = tt

kind_sane : (p : List ℕ) (k : SaharaCmd) → DecodedSane (kind_of p k)
unfolding kind_of
kind_sane p k = split DecodedSane (ltb (length p) (8 + least_body k)) (λ e. refl) (λ e. body_sane p k)

packet_sane : (len : ℕ) (b : Result SaharaPacketBody Refusal) → DecodedSane b → DecodedSane (packet_with len b)
packet_sane len (Ok b) e = tt
packet_sane len (Err why) e = e

class_sane : (p : List ℕ) (c : Class) → DecodedSane (by_class p c)
class_sane p (C.Kind k) = packet_sane (length_field p) (kind_of p k) (kind_sane p k)
class_sane p C.Xml = refl
class_sane p C.Unimplemented = refl
class_sane p C.Unknown = refl

decoded_sane : (p : List ℕ) → DecodedSane (decode_of p)
unfolding decode_of
decoded_sane p = split DecodedSane (ltb (length p) 8) (λ e. refl) (λ e. class_sane p (class_of (command_field p)))

-- ---- what the verdict gives, of any image set: a reply is no memory read; an image lies within the set; no packet finishes (3); a table fits its room; a
-- refusal ends the session

abbrev pub Sane : List ℕ → ℕ → Result Verdict Refusal → Type 0
Sane set tsize (Ok (W.Reply q)) = asks q ≡ false
Sane set tsize (Ok (W.Image x k)) = x + k ≤ length set
Sane set tsize (Ok W.Pass) = Unit
Sane set tsize (Ok (W.Finish how)) = eqb (finish_number how) 3 ≡ false
Sane set tsize (Ok (W.Respond c k)) = Unit
Sane set tsize (Ok (W.Debug v a k)) = k ≤ room tsize
Sane set tsize (Err why) = Ends why

module _ (u : Opening) (set : List ℕ) (tsize rsize : ℕ) where
  abbrev Fine : Result Verdict Refusal → Type 0
  Fine v = Sane set tsize v

  -- a range that is refused is so with 12 or 13
  slot_refused : (s : Slot) (offset len : ℕ) (why : Refusal) → range_in s offset len ≡ Err why → Ends why
  slot_refused (S.At start size) offset len why e = go (leb (offset + len) size) e
    where
      go : (b : Bool) → pick {A = Result (ℕ × ℕ) Refusal} b (Ok (start + offset, len)) (Err Refusal.ImageEnd) ≡ Err why → Ends why
      go true h = absurd (let z : ◌≡◌ {A = ℕ} 0 1 = cc in omega arith)
      go false h = let z : why ≡ Refusal.ImageEnd = cc in rw z refl
  slot_refused S.Absent offset len why e = let z : why ≡ Refusal.NoImage = cc in rw z refl
  slot_refused S.Missing offset len why e = let z : why ≡ Refusal.NoImage = cc in rw z refl

  image_sane : (id offset len : ℕ) → Fine (image_for (range_unjudged set id offset len))
  image_sane id offset len = go (range_unjudged set id offset len) refl
    where
      go : (r : Result (ℕ × ℕ) Refusal) → range_unjudged set id offset len ≡ r → Fine (image_for r)
      go (Ok (x, k)) e = (unjudged_within set id offset len x k e).0
      go (Err why) e = slot_refused (slot_of set (slot_for (count_of set) id)) offset len why e

  execute_sane : (c : Option SaharaCmdModeCmd) → Fine (execute_for c)
  execute_sane (Some c) = refl
  execute_sane None = refl

  table_sane : (len n : ℕ) (v : Width) (a k : ℕ) → Fine (exactly len n (table_for tsize v a k))
  table_sane len n v a k = split Fine (eqb len n) (λ e. split Fine (ltb (room tsize) k) (λ i. refl) (λ i. ltb-false _ _ i)) (λ e. refl)

  on_body_lem : (len : ℕ) (b : SaharaPacketBody) → Fine (on_body u set tsize rsize len b)
  on_body_lem len (B.HelloReq b) = split Fine (eqb len 48) (λ e. refl) (λ e. refl)
  on_body_lem len (B.HelloResp b) = refl
  on_body_lem len (B.ReadReq b) = split Fine (eqb len 20) (λ e. image_sane b.image b.offset b.len) (λ e. refl)
  on_body_lem len (B.Eoi b) = split Fine (eqb len 16) (λ e. split Fine (eqb b.status 0) (λ i. refl) (λ i. refl)) (λ e. refl)
  on_body_lem len B.DoneReq = refl
  on_body_lem len (B.DoneResp b) = split Fine (eqb b.status 1) (λ e. refl) (λ e. split Fine (eqb (count_of set) 1) (λ i. refl) (λ i. tt))
  on_body_lem len B.ResetResp = split Fine (eqb len 8) (λ e. refl) (λ e. refl)
  on_body_lem len (B.DebugReq b) = table_sane len 16 WI.Bits32 b.addr b.len
  on_body_lem len (B.ReadMemReq b) = refl
  on_body_lem len B.CommandReady = split Fine (eqb len 8) (λ e. execute_sane u.command) (λ e. refl)
  on_body_lem len (B.ExecResp b) = split Fine (ltb rsize b.len) (λ e. refl) (λ e. tt)
  on_body_lem len (B.ExecData b) = refl
  on_body_lem len (B.Debug64Req b) = table_sane len 24 WI.Bits64 b.addr b.len
  on_body_lem len (B.ReadMem64Req b) = refl
  on_body_lem len (B.ReadData64Req b) = split Fine (eqb len 32) (λ e. image_sane b.image b.offset b.len) (λ e. refl)

  on_decoded_lem : (x : Result SaharaPacket Refusal) → DecodedSane x → Fine (on_decoded u set tsize rsize x)
  on_decoded_lem (Ok p) e = on_body_lem p.len p.body
  on_decoded_lem (Err why) e = e

  pub sane : (p : List ℕ) → Sane set tsize (verdict_of u set tsize rsize p)
  unfolding verdict_of
  sane p = on_decoded_lem (decode_of p) (decoded_sane p)
