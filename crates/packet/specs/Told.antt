-- What decoding tells. Document 01, Records, "Packet": a packet's number is its kind's, "Hello 1 (40), HelloResp 2 (40), .. ReadData64 0x12 (24)"; its
-- values are its length field and its body's in 01's order, a mode or a command by its number. What is refused tells 0, which is no kind's number, and
-- the refusal.
use Rattle.std.specs.Prelude.{ℕ, List, [], ◌∷◌, get_or, Result, Ok, Err}
use Rattle.base.specs.Told.{Told, told}
use Rattle.refusal.specs.Refusal.{refusal_number, accepted_told}
use Rattle.command.specs.Command.{mode_number, command_number, kind_number}
use Rattle.packet.specs.Packet.{kind_in}
use Rattle.packet.specs.declared.Unk.{Unk}
use Rattle.packet.specs.declared.SaharaPacketBody.{SaharaPacketBody}
use Rattle.packet.specs.declared.SaharaPacketBody.TheVariants as B
use Rattle.refusal.specs.declared.Refusal.{Refusal}
use Rattle.packet.specs.declared.SaharaPacket.{SaharaPacket}

-- "six unused words"
abbrev pub unk_values : Unk → List ℕ
unk_values u = u.unk0 ∷ u.unk1 ∷ u.unk2 ∷ u.unk3 ∷ u.unk4 ∷ u.unk5 ∷ []

-- and these among a hello's values
abbrev pub unk_from : List ℕ → Unk
unk_from vs =
    record { unk0 = get_or vs 4 0; unk1 = get_or vs 5 0; unk2 = get_or vs 6 0; unk3 = get_or vs 7 0; unk4 = get_or vs 8 0; unk5 = get_or vs 9 0 }

-- "Hello: version, compatible, greatest length, mode, six unused words. HelloResp: version, compatible, status, mode, six words. ReadData: image ID,
-- offset, length; ReadData64 the same in 8-byte fields. EndOfImage: ID, status. DoneResp: status. ExecuteResp: command, length. ExecuteData: command. Both
-- 64-bit memory kinds: address, length (8 bytes each)." MemDebug and MemRead likewise (document 02, request 2)
abbrev pub body_values : SaharaPacketBody → List ℕ
body_values (B.HelloReq b) = b.ver ∷ b.compatible ∷ b.max_len ∷ mode_number b.mode ∷ unk_values b.unk
body_values (B.HelloResp b) = b.ver ∷ b.compatible ∷ b.status ∷ mode_number b.mode ∷ unk_values b.unk
body_values (B.ReadReq b) = b.image ∷ b.offset ∷ b.len ∷ []
body_values (B.Eoi b) = b.image ∷ b.status ∷ []
body_values B.DoneReq = []
body_values (B.DoneResp b) = b.status ∷ []
body_values B.ResetResp = []
body_values (B.DebugReq b) = b.addr ∷ b.len ∷ []
body_values (B.ReadMemReq b) = b.addr ∷ b.len ∷ []
body_values B.CommandReady = []
body_values (B.ExecResp b) = command_number b.command ∷ b.len ∷ []
body_values (B.ExecData b) = command_number b.command ∷ []
body_values (B.Debug64Req b) = b.addr ∷ b.len ∷ []
body_values (B.ReadMem64Req b) = b.addr ∷ b.len ∷ []
body_values (B.ReadData64Req b) = b.image ∷ b.offset ∷ b.len ∷ []

abbrev pub decoded_told : Result SaharaPacket Refusal → Told
decoded_told (Ok p) = told (kind_number (kind_in p.body)) (p.len ∷ body_values p.body)
decoded_told (Err why) = told 0 (refusal_number why ∷ [])

-- what the length rule tells
abbrev pub length_told : Result Unit Refusal → Told
length_told = accepted_told
