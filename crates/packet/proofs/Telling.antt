-- Number and values tell decoded packets apart: the number gives the kind back, and the values its body. Assumes nothing.
use mathlib.Core.Path.{◌≡◌, refl}
use mathlib.Core.List.{List}
use Prim.Native.Nat.{ℕ}
use lib.ListN.{get_or, drop}
use Rattle.base.specs.Told.{Told}
use Rattle.base.proofs.Telling.{apart}
use Rattle.refusal.specs.Refusal.{refusal_of}
use Rattle.refusal.proofs.Laws.{refusal_back, accepted_apart}
use Rattle.command.specs.Command.{mode_of, command_of, kinds, unimplemented, class_of}
use Rattle.command.specs.declared.SaharaCmd.{SaharaCmd}
use Rattle.command.specs.declared.SaharaCmd.TheVariants as K
use Rattle.command.specs.declared.SaharaMode.{SaharaMode}
use Rattle.command.specs.declared.SaharaCmdModeCmd.{SaharaCmdModeCmd}
use Rattle.command.specs.declared.Class.{Class}
use Rattle.command.specs.declared.Class.TheVariants as C
use Rattle.command.proofs.Laws.{mode_is, command_is, mode_again, command_again, kind_back}
use Rattle.packet.specs.Packet.{kind_in}
use Rattle.packet.specs.Told.{unk_from, body_values, decoded_told, length_told}
use Rattle.packet.specs.declared.SaharaPacketBody.{SaharaPacketBody}
use Rattle.packet.specs.declared.SaharaPacketBody.TheVariants as B
use Rattle.std.specs.Prelude.{Result, Ok, Err}
use Rattle.refusal.specs.declared.Refusal.{Refusal}
use Rattle.packet.specs.declared.SaharaPacket.{SaharaPacket}

-- the body of a kind with these values
module _ (vs : List ℕ) where
  abbrev v0 : ℕ
  v0 = get_or vs 0 0

  abbrev v1 : ℕ
  v1 = get_or vs 1 0

  abbrev v2 : ℕ
  v2 = get_or vs 2 0

  abbrev mode : SaharaMode
  mode = mode_is (mode_of (get_or vs 3 0))

  abbrev command : SaharaCmdModeCmd
  command = command_is (command_of v0)

  abbrev body_from : SaharaCmd → SaharaPacketBody
  body_from K.Hello = B.HelloReq (record { ver = v0; compatible = v1; max_len = v2; mode = mode; unk = unk_from vs })
  body_from K.HelloResp = B.HelloResp (record { ver = v0; compatible = v1; status = v2; mode = mode; unk = unk_from vs })
  body_from K.ReadData = B.ReadReq (record { image = v0; offset = v1; len = v2 })
  body_from K.EndOfImage = B.Eoi (record { image = v0; status = v1 })
  body_from K.Done = B.DoneReq
  body_from K.DoneResp = B.DoneResp (record { status = v0 })
  body_from K.ResetResp = B.ResetResp
  body_from K.MemDebug = B.DebugReq (record { addr = v0; len = v1 })
  body_from K.MemRead = B.ReadMemReq (record { addr = v0; len = v1 })
  body_from K.CommandReady = B.CommandReady
  body_from K.ExecuteResp = B.ExecResp (record { command = command; len = v1 })
  body_from K.ExecuteData = B.ExecData (record { command = command })
  body_from K.MemDebug64 = B.Debug64Req (record { addr = v0; len = v1 })
  body_from K.MemRead64 = B.ReadMem64Req (record { addr = v0; len = v1 })
  body_from K.ReadData64 = B.ReadData64Req (record { image = v0; offset = v1; len = v2 })

body_back : (b : SaharaPacketBody) → body_from (body_values b) (kind_in b) ≡ b
body_back (B.HelloReq b) = rw (mode_again b.mode) refl
body_back (B.HelloResp b) = rw (mode_again b.mode) refl
body_back (B.ReadReq b) = refl
body_back (B.Eoi b) = refl
body_back B.DoneReq = refl
body_back (B.DoneResp b) = refl
body_back B.ResetResp = refl
body_back (B.DebugReq b) = refl
body_back (B.ReadMemReq b) = refl
body_back B.CommandReady = refl
body_back (B.ExecResp b) = rw (command_again b.command) refl
body_back (B.ExecData b) = rw (command_again b.command) refl
body_back (B.Debug64Req b) = refl
body_back (B.ReadMem64Req b) = refl
body_back (B.ReadData64Req b) = refl

-- a packet of this class with these values, its length field first
abbrev packet_from : List ℕ → Class → Result SaharaPacket Refusal
packet_from vs (C.Kind k) = Ok (record { len = get_or vs 0 0; body = body_from (drop 1 vs) k })
packet_from vs C.Xml = Err (refusal_of (get_or vs 0 0))
packet_from vs C.Unimplemented = Err (refusal_of (get_or vs 0 0))
packet_from vs C.Unknown = Err (refusal_of (get_or vs 0 0))

-- 0 is no kind's number
no_kind : class_of 0 ≡ C.Unknown
unfolding class_of kinds unimplemented
no_kind = refl

abbrev decoded_from : Told → Result SaharaPacket Refusal
decoded_from t = packet_from t.values (class_of t.number)

decoded_back : (x : Result SaharaPacket Refusal) → decoded_from (decoded_told x) ≡ x
decoded_back (Ok p) = rw (kind_back (kind_in p.body), body_back p.body) refl
decoded_back (Err why) = rw (no_kind, refusal_back why) refl

pub decoded_apart : (x y : Result SaharaPacket Refusal) → decoded_told x ≡ decoded_told y → x ≡ y
decoded_apart = apart decoded_told decoded_from decoded_back

pub length_apart : (x y : Result Unit Refusal) → length_told x ≡ length_told y → x ≡ y
length_apart = accepted_apart
