-- Decoding what was built gives what was meant, for each built kind that is decoded and for all field values. The header and the small fields compute; the
-- two numbers of a memory read are read back by the fields' law. Assumes nothing.
use mathlib.Core.Path.{◌≡◌, refl}
use Prim.Native.Nat.{ℕ, ◌^◌, ◌<◌}
use Rattle.field.specs.Field.{le, le_bytes, field_size, fields}
use Rattle.field.specs.declared.Width.{Width}
use Rattle.field.specs.declared.Width.TheVariants as WI
use Rattle.command.specs.Command.{mode_of, command_of, kinds, class_of}
use Rattle.command.specs.declared.SaharaMode.{SaharaMode}
use Rattle.command.specs.declared.SaharaMode.TheVariants as M
use Rattle.command.specs.declared.SaharaCmdModeCmd.{SaharaCmdModeCmd}
use Rattle.command.specs.declared.SaharaCmdModeCmd.TheVariants as E
use Rattle.packet.specs.Packet.{address_in, length_in, kind_of, decode_of}
use Rattle.packet.specs.declared.SaharaPacketBody.{SaharaPacketBody}
use Rattle.packet.specs.declared.SaharaPacketBody.TheVariants as B
use Rattle.build.specs.Build.{bytes_of, size_of}
use Rattle.build.specs.declared.Request.TheVariants as Q
use Rattle.build.proofs.RoundTrip.{mem_read_back}
use Rattle.std.specs.Prelude.{Result, Ok}
use Rattle.refusal.specs.declared.Refusal.{Refusal}
use Rattle.packet.specs.declared.SaharaPacket.{SaharaPacket}

abbrev packet : ℕ → SaharaPacketBody → Result SaharaPacket Refusal
packet n b = Ok (record { len = n; body = b })

-- version 2, compatible 1, status 0, the mode, zeros
pub hello_resp_lem : (m : SaharaMode) → decode_of (bytes_of (Q.HelloResp m))
    ≡ packet 48
    (B.HelloResp
    (record {
      ver = 2;
      compatible = 1;
      status = 0;
      mode = m;
      unk = record { unk0 = 0; unk1 = 0; unk2 = 0; unk3 = 0; unk4 = 0; unk5 = 0 };
    }))
unfolding decode_of kind_of class_of kinds mode_of bytes_of fields le le_bytes
hello_resp_lem M.WaitingForImage = refl
hello_resp_lem M.ImageTransferComplete = refl
hello_resp_lem M.MemoryDebug = refl
hello_resp_lem M.Command = refl

pub done : decode_of (bytes_of Q.Done) ≡ packet 8 B.DoneReq
unfolding decode_of kind_of class_of kinds bytes_of fields le le_bytes
done = refl

pub execute_data : (c : SaharaCmdModeCmd) → decode_of (bytes_of (Q.ExecuteData c)) ≡ packet 12 (B.ExecData (record { command = c }))
unfolding decode_of kind_of class_of kinds command_of bytes_of fields le le_bytes
execute_data E.Nop = refl
execute_data E.ReadSerialNum = refl
execute_data E.ReadHwId = refl
execute_data E.ReadOemKeyHash = refl

-- an address and a length of 8 bytes each or, of an old board, of 4
abbrev read_body : Width → ℕ → ℕ → SaharaPacketBody
read_body WI.Bits32 a k = B.ReadMemReq (record { addr = a; len = k })
read_body WI.Bits64 a k = B.ReadMem64Req (record { addr = a; len = k })

read_decoded : (v : Width) (a k : ℕ)
    → decode_of (bytes_of (Q.MemRead v a k))
    ≡ packet (size_of (Q.MemRead v a k))
    (read_body v (address_in (field_size v) (bytes_of (Q.MemRead v a k))) (length_in (field_size v) (bytes_of (Q.MemRead v a k))))
unfolding decode_of kind_of class_of kinds bytes_of fields le le_bytes
read_decoded WI.Bits32 a k = refl
read_decoded WI.Bits64 a k = refl

pub mem_read_lem : (v : Width) (a k : ℕ) → a < 256 ^ field_size v → k < 256 ^ field_size v
    → decode_of (bytes_of (Q.MemRead v a k)) ≡ packet (size_of (Q.MemRead v a k)) (read_body v a k)
mem_read_lem v a k ha hk = let b = mem_read_back v a k ha hk in rw (read_decoded v a k, b.2, b.3) refl
