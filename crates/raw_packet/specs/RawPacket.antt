-- A decoded packet as plain numbers, as it crosses to C and Rust: its kind's number, its length field, the mode or the command that it names, the other
-- numbers of its body in 01's order (Records, "Packet"), and a hello's unused words; 0 where it has none. Of a packet that is refused the refusal alone.
use Rattle.std.specs.Prelude.{ℕ, List, get_or, Result, Ok, Err}
use Rattle.command.specs.Command.{kind_number}
use Rattle.command.specs.declared.SaharaCmd.{SaharaCmd}
use Rattle.command.specs.declared.SaharaCmd.TheVariants as K
use Rattle.packet.specs.Packet.{kind_in}
use Rattle.packet.specs.Told.{unk_from, body_values}
use Rattle.packet.specs.declared.Unk.{Unk}
use Rattle.packet.specs.declared.SaharaPacketBody.{SaharaPacketBody}
use Rattle.raw_packet.specs.declared.RawPacket.{RawPacket}
use Rattle.refusal.specs.Refusal.{refusal_number}
use Rattle.refusal.specs.declared.Refusal.{Refusal}
use Rattle.packet.specs.declared.SaharaPacket.{SaharaPacket}

abbrev pub hello_packet : ℕ → ℕ → ℕ → ℕ → ℕ → ℕ → Unk → RawPacket
hello_packet kind len value first second third unk =
    record {
      refused = 0;
      command = kind;
      len = len;
      value = value;
      first = first;
      second = second;
      third = third;
      unk0 = unk.unk0;
      unk1 = unk.unk1;
      unk2 = unk.unk2;
      unk3 = unk.unk3;
      unk4 = unk.unk4;
      unk5 = unk.unk5;
    }

abbrev pub no_unk : Unk
no_unk = record { unk0 = 0; unk1 = 0; unk2 = 0; unk3 = 0; unk4 = 0; unk5 = 0 }

abbrev pub plain_packet : ℕ → ℕ → ℕ → ℕ → ℕ → ℕ → RawPacket
plain_packet kind len value first second third = hello_packet kind len value first second third no_unk

-- where a kind's values stand: of a hello, "version, compatible, greatest length" or status, "mode, six words"; where a command comes first; of the others
abbrev pub hello_places : ℕ → ℕ → List ℕ → RawPacket
hello_places n len vs = hello_packet n len (get_or vs 3 0) (get_or vs 0 0) (get_or vs 1 0) (get_or vs 2 0) (unk_from vs)

abbrev pub command_places : ℕ → ℕ → List ℕ → RawPacket
command_places n len vs = plain_packet n len (get_or vs 0 0) (get_or vs 1 0) 0 0

abbrev pub plain_places : ℕ → ℕ → List ℕ → RawPacket
plain_places n len vs = plain_packet n len 0 (get_or vs 0 0) (get_or vs 1 0) (get_or vs 2 0)

abbrev pub places_of : SaharaCmd → ℕ → ℕ → List ℕ → RawPacket
places_of K.Hello = hello_places
places_of K.HelloResp = hello_places
places_of K.ReadData = plain_places
places_of K.EndOfImage = plain_places
places_of K.Done = plain_places
places_of K.DoneResp = plain_places
places_of K.ResetResp = plain_places
places_of K.MemDebug = plain_places
places_of K.MemRead = plain_places
places_of K.CommandReady = plain_places
places_of K.ExecuteResp = command_places
places_of K.ExecuteData = command_places
places_of K.MemDebug64 = plain_places
places_of K.MemRead64 = plain_places
places_of K.ReadData64 = plain_places

-- the body's values of packet/specs/Told in their places
abbrev pub body_packet : ℕ → SaharaPacketBody → RawPacket
body_packet len b = places_of (kind_in b) (kind_number (kind_in b)) len (body_values b)

abbrev pub refused_packet : Refusal → RawPacket
refused_packet why =
    record {
      refused = refusal_number why;
      command = 0;
      len = 0;
      value = 0;
      first = 0;
      second = 0;
      third = 0;
      unk0 = 0;
      unk1 = 0;
      unk2 = 0;
      unk3 = 0;
      unk4 = 0;
      unk5 = 0;
    }

abbrev pub raw_packet : Result SaharaPacket Refusal → RawPacket
raw_packet (Ok p) = body_packet p.len p.body
raw_packet (Err why) = refused_packet why
