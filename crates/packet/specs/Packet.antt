-- Decoding of a packet. Document 01, Records, "Packet": command (4 bytes), total length (4 bytes), body; "Extra body bytes are ignored in decoding."
-- Refusals, "Decode": 9 below 8 bytes; 6 unknown; 7 XML; 8 unimplemented; 9 short body or bad mode or command. The length field is handed on and not
-- judged; `sahara_read_packet_length` refuses it outside 8..4096 (5).
use Rattle.std.specs.Prelude.{ℕ, ◌+◌, ◌*◌, Bool, true, List, ltb, length, drop, Result, Ok, Err}
use Rattle.base.specs.Choice.{pick}
use Rattle.field.specs.Field.{le}
use Rattle.command.specs.Command.{least_body, mode_of, command_of, class_of}
use Rattle.command.specs.declared.SaharaCmd.{SaharaCmd}
use Rattle.command.specs.declared.SaharaCmd.TheVariants as K
use Rattle.command.specs.declared.SaharaMode.{SaharaMode}
use Rattle.command.specs.declared.SaharaCmdModeCmd.{SaharaCmdModeCmd}
use Rattle.command.specs.declared.Class.{Class}
use Rattle.command.specs.declared.Class.TheVariants as C
use Rattle.packet.specs.declared.Unk.{Unk}
use Rattle.packet.specs.declared.SaharaPacketBody.{SaharaPacketBody}
use Rattle.packet.specs.declared.SaharaPacketBody.TheVariants as B
use Rattle.packet.specs.declared.HelloResp.{HelloResp}
use Rattle.refusal.specs.declared.Refusal.{Refusal}
use Rattle.packet.specs.declared.SaharaPacket.{SaharaPacket}
use Rattle.refusal.specs.Refusal.{accepted}

-- the header's two words
abbrev pub command_field : List ℕ → ℕ
command_field p = le 4 (drop 0 p)

abbrev pub length_field : List ℕ → ℕ
length_field p = le 4 (drop 4 p)

-- word k and long k of the body, of 4 and of 8 bytes
abbrev pub word : List ℕ → ℕ → ℕ
word p k = le 4 (drop (8 + 4 * k) p)

abbrev pub long : List ℕ → ℕ → ℕ
long p k = le 8 (drop (8 + 8 * k) p)

-- the six words behind a mode
abbrev pub unk_of : List ℕ → Unk
unk_of p = record { unk0 = word p 4; unk1 = word p 5; unk2 = word p 6; unk3 = word p 7; unk4 = word p 8; unk5 = word p 9 }

-- "Hello: version, compatible, greatest length, mode, six unused words." A number that is no mode (`mode_of` of command/specs/Command) makes it malformed: 9
abbrev pub hello_of : List ℕ → Result SaharaMode Refusal → Result SaharaPacketBody Refusal
hello_of p (Ok m) =
    Ok (B.HelloReq (record { ver = word p 0; compatible = word p 1; max_len = word p 2; mode = m; unk = unk_of p }))
hello_of p (Err why) = Err why

-- "HelloResp: version, compatible, status, mode, six words."
abbrev pub hello_words : List ℕ → SaharaMode → HelloResp
hello_words p m = record { ver = word p 0; compatible = word p 1; status = word p 2; mode = m; unk = unk_of p }

abbrev pub hello_resp_of : List ℕ → Result SaharaMode Refusal → Result SaharaPacketBody Refusal
hello_resp_of p (Ok m) = Ok (B.HelloResp (hello_words p m))
hello_resp_of p (Err why) = Err why

-- "ExecuteResp: command, length." A command above 3 makes it malformed: 9
abbrev pub exec_resp_of : List ℕ → Result SaharaCmdModeCmd Refusal → Result SaharaPacketBody Refusal
exec_resp_of p (Ok c) = Ok (B.ExecResp (record { command = c; len = word p 1 }))
exec_resp_of p (Err why) = Err why

-- "ExecuteData: command."
abbrev pub exec_data_of : List ℕ → Result SaharaCmdModeCmd Refusal → Result SaharaPacketBody Refusal
exec_data_of p (Ok c) = Ok (B.ExecData (record { command = c }))
exec_data_of p (Err why) = Err why

-- "Both 64-bit memory kinds: address, length (8 bytes each)", and of 32 bits "each an address and a length of 4 bytes" (document 02, request 2): of f bytes
abbrev pub address_in : ℕ → List ℕ → ℕ
address_in f p = le f (drop 8 p)

abbrev pub length_in : ℕ → List ℕ → ℕ
length_in f p = le f (drop (8 + f) p)

-- the body of each kind, its least bytes being there
abbrev pub body_of : List ℕ → SaharaCmd → Result SaharaPacketBody Refusal
body_of p K.Hello = hello_of p (mode_of (word p 3))
body_of p K.HelloResp = hello_resp_of p (mode_of (word p 3))
body_of p K.ReadData = Ok (B.ReadReq (record { image = word p 0; offset = word p 1; len = word p 2 }))
body_of p K.EndOfImage = Ok (B.Eoi (record { image = word p 0; status = word p 1 }))
body_of p K.Done = Ok B.DoneReq
body_of p K.DoneResp = Ok (B.DoneResp (record { status = word p 0 }))
body_of p K.ResetResp = Ok B.ResetResp
body_of p K.MemDebug = Ok (B.DebugReq (record { addr = address_in 4 p; len = length_in 4 p }))
body_of p K.MemRead = Ok (B.ReadMemReq (record { addr = address_in 4 p; len = length_in 4 p }))
body_of p K.CommandReady = Ok B.CommandReady
body_of p K.ExecuteResp = exec_resp_of p (command_of (word p 0))
body_of p K.ExecuteData = exec_data_of p (command_of (word p 0))
body_of p K.MemDebug64 = Ok (B.Debug64Req (record { addr = address_in 8 p; len = length_in 8 p }))
body_of p K.MemRead64 = Ok (B.ReadMem64Req (record { addr = address_in 8 p; len = length_in 8 p }))
body_of p K.ReadData64 = Ok (B.ReadData64Req (record { image = long p 0; offset = long p 1; len = long p 2 }))

-- a kind's body, malformed where it is short
unfoldable pub kind_of : List ℕ → SaharaCmd → Result SaharaPacketBody Refusal
kind_of p k = pick (ltb (length p) (8 + least_body k)) (Err Refusal.Body) (body_of p k)

-- a packet with this body: its length field is handed on
abbrev pub packet_with : ℕ → Result SaharaPacketBody Refusal → Result SaharaPacket Refusal
packet_with len (Ok b) = Ok (record { len = len; body = b })
packet_with len (Err why) = Err why

abbrev pub by_class : List ℕ → Class → Result SaharaPacket Refusal
by_class p (C.Kind k) = packet_with (length_field p) (kind_of p k)
by_class p C.Xml = Err Refusal.Xml
by_class p C.Unimplemented = Err Refusal.NotImplemented
by_class p C.Unknown = Err Refusal.Unknown

unfoldable pub decode_of : List ℕ → Result SaharaPacket Refusal
decode_of p = pick (ltb (length p) 8) (Err Refusal.Body) (by_class p (class_of (command_field p)))

-- the kind of each body, which has 01's number
abbrev pub kind_in : SaharaPacketBody → SaharaCmd
kind_in (B.HelloReq b) = K.Hello
kind_in (B.HelloResp b) = K.HelloResp
kind_in (B.ReadReq b) = K.ReadData
kind_in (B.Eoi b) = K.EndOfImage
kind_in B.DoneReq = K.Done
kind_in (B.DoneResp b) = K.DoneResp
kind_in B.ResetResp = K.ResetResp
kind_in (B.DebugReq b) = K.MemDebug
kind_in (B.ReadMemReq b) = K.MemRead
kind_in B.CommandReady = K.CommandReady
kind_in (B.ExecResp b) = K.ExecuteResp
kind_in (B.ExecData b) = K.ExecuteData
kind_in (B.Debug64Req b) = K.MemDebug64
kind_in (B.ReadMem64Req b) = K.MemRead64
kind_in (B.ReadData64Req b) = K.ReadData64

-- the length rule: refused (5) by `length_checked`, and in a step by `sized_of` of session/specs/PacketPhase, before the command is looked at
abbrev pub bad_length : ℕ → Bool
bad_length n = pick (ltb n 8) true (ltb 4096 n)

abbrev pub length_checked : ℕ → Result Unit Refusal
length_checked n = pick (bad_length n) (Err Refusal.PacketLength) accepted
