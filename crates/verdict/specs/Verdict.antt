-- The verdict on one whole packet: 01's term "Packet" among the phases of a session, and the refusals that belong to it. Document 01, "Session",
-- *Packet*; Refusals, "Step, session ended": 10 kinds 2, 5, 0x0f, 0x11; 11 length not exact; 12, 13; 14 end status not 0; 15 no command; 16 response
-- above the reply buffer; 17 table above 65,536 or its buffer. Where several apply, the first written is given. Document 02, request 2: "MemDebug must be exactly
-- 16 bytes long, else 11. MemRead received from a device is 10." Besides the leaves and what an opening decides (Opening), the step and the plain host share
-- this alone.
use Rattle.std.specs.Prelude.{ℕ, min, List, [], ◌∷◌, ◌-◌, ltb, eqb, get_or, Option, Some, None, Result, Ok, Err}
use Rattle.base.specs.Choice.{pick}
use Rattle.base.specs.Told.{Told, told, told_go, told_image}
use Rattle.refusal.specs.Refusal.{result_told}
use Rattle.field.specs.declared.Width.{Width}
use Rattle.field.specs.declared.Width.TheVariants as WI
use Rattle.bundle.specs.Bundle.{count_of}
use Rattle.command.specs.Command.{command_number}
use Rattle.command.specs.declared.SaharaCmdModeCmd.{SaharaCmdModeCmd}
use Rattle.image.specs.Image.{range_unjudged}
use Rattle.packet.specs.Packet.{decode_of}
use Rattle.packet.specs.declared.SaharaPacketBody.{SaharaPacketBody}
use Rattle.packet.specs.declared.SaharaPacketBody.TheVariants as B
use Rattle.build.specs.Build.{request_number, request_values}
use Rattle.build.specs.declared.Request.TheVariants as Q
use Rattle.verdict.specs.declared.Opening.{Opening}
use Rattle.verdict.specs.declared.Verdict.{Verdict}
use Rattle.verdict.specs.declared.Verdict.TheVariants as W
use Rattle.refusal.specs.declared.Refusal.{Refusal}
use Rattle.packet.specs.declared.SaharaPacket.{SaharaPacket}
use Rattle.verdict.specs.declared.Finish.{Finish}

-- "finished" with 1 to 4: 1 by DoneResp, 2 by ResetResp, 3 behind the last selected entry, 4 with a response (the phases of session/specs)
abbrev pub finish_number : Finish → ℕ
finish_number Finish.ImagesSent = 1
finish_number Finish.Reset = 2
finish_number Finish.Dumped = 3
finish_number Finish.Reply = 4

abbrev pub finish_of : ℕ → Finish
finish_of n = get_or (Finish.ImagesSent ∷ Finish.Reset ∷ Finish.Dumped ∷ Finish.Reply ∷ []) (n - 1) Finish.ImagesSent

-- a packet's length field is exactly so much, else 11
abbrev pub exactly : ℕ → ℕ → Result Verdict Refusal → Result Verdict Refusal
exactly len n v = pick (eqb len n) v (Err Refusal.KindLength)

-- "either read gives image"; 12 and 13. The set is not judged here: 1 is of the refusals that leave the session untouched, and a step gives it before
-- its phase
abbrev pub image_for : Result (ℕ × ℕ) Refusal → Result Verdict Refusal
image_for (Ok (start, k)) = Ok (W.Image start k)
image_for (Err why) = Err why

-- "EndOfImage sends Done"; 14 end status not 0
abbrev pub end_for : ℕ → Result Verdict Refusal
end_for status = pick (eqb status 0) (Ok (W.Reply Q.Done)) (Err Refusal.ImageStatus)

-- "DoneResp finishes (1) if status is 1 or n = 1, else go"; n is the set's slot count
abbrev pub done_for : List ℕ → ℕ → Result Verdict Refusal
done_for set status = pick (eqb status 1) (Ok (W.Finish Finish.ImagesSent)) (pick (eqb (count_of set) 1) (Ok (W.Finish Finish.ImagesSent)) (Ok W.Pass))

-- "CommandReady sends Execute"; 15 no command
abbrev pub execute_for : Option SaharaCmdModeCmd → Result Verdict Refusal
execute_for (Some c) = Ok (W.Reply (Q.Execute c))
execute_for None = Err Refusal.NoCommand

-- "ExecuteResp sends ExecuteData with its command"; 16 response above the reply buffer
abbrev pub response_for : ℕ → SaharaCmdModeCmd → ℕ → Result Verdict Refusal
response_for rsize c k = pick (ltb rsize k) (Err Refusal.ResponseLength) (Ok (W.Respond c k))

-- the most that a table may have: 65,536 and its buffer
abbrev pub room : ℕ → ℕ
room tsize = min 65536 tsize

-- "MemDebug64 sends MemRead64 with its address and length", MemDebug MemRead; 17 table above 65,536 or its buffer
abbrev pub table_for : ℕ → Width → ℕ → ℕ → Result Verdict Refusal
table_for tsize v a k = pick (ltb (room tsize) k) (Err Refusal.TableLength) (Ok (W.Debug v a k))

-- by the kind (`kind_in` of packet/specs/Packet: HelloReq is Hello, ReadReq ReadData, ReadData64Req ReadData64, Eoi EndOfImage, DoneReq Done, ExecResp
-- ExecuteResp, ExecData ExecuteData, DebugReq MemDebug, ReadMemReq MemRead, Debug64Req MemDebug64, ReadMem64Req MemRead64); u is what the session was opened
-- with, len the length field, tsize and rsize the table and the reply buffer's sizes. DoneResp and ExecuteResp may have any good length from that of their least
-- packet on, 12 and 16 bytes
abbrev pub on_body : Opening → List ℕ → ℕ → ℕ → ℕ → SaharaPacketBody → Result Verdict Refusal
on_body u set tsize rsize len (B.HelloReq b) = exactly len 48 (Ok (W.Reply (Q.HelloResp u.mode)))
on_body u set tsize rsize len (B.HelloResp b) = Err Refusal.HostPacket
on_body u set tsize rsize len (B.ReadReq b) = exactly len 20 (image_for (range_unjudged set b.image b.offset b.len))
on_body u set tsize rsize len (B.Eoi b) = exactly len 16 (end_for b.status)
on_body u set tsize rsize len B.DoneReq = Err Refusal.HostPacket
on_body u set tsize rsize len (B.DoneResp b) = done_for set b.status
on_body u set tsize rsize len B.ResetResp = exactly len 8 (Ok (W.Finish Finish.Reset))
on_body u set tsize rsize len (B.DebugReq b) = exactly len 16 (table_for tsize WI.Bits32 b.addr b.len)
on_body u set tsize rsize len (B.ReadMemReq b) = Err Refusal.HostPacket
on_body u set tsize rsize len B.CommandReady = exactly len 8 (execute_for u.command)
on_body u set tsize rsize len (B.ExecResp b) = response_for rsize b.command b.len
on_body u set tsize rsize len (B.ExecData b) = Err Refusal.HostPacket
on_body u set tsize rsize len (B.Debug64Req b) = exactly len 24 (table_for tsize WI.Bits64 b.addr b.len)
on_body u set tsize rsize len (B.ReadMem64Req b) = Err Refusal.HostPacket
on_body u set tsize rsize len (B.ReadData64Req b) = exactly len 32 (image_for (range_unjudged set b.image b.offset b.len))

abbrev pub on_decoded : Opening → List ℕ → ℕ → ℕ → Result SaharaPacket Refusal → Result Verdict Refusal
on_decoded u set tsize rsize (Ok p) = on_body u set tsize rsize p.len p.body
on_decoded u set tsize rsize (Err why) = Err why

-- the verdict on the packet whose bytes are p
unfoldable pub verdict_of : Opening → List ℕ → ℕ → ℕ → List ℕ → Result Verdict Refusal
verdict_of u set tsize rsize p = on_decoded u set tsize rsize (decode_of p)

-- what a verdict tells, by 01's list of answers: send with the packet's command and values, and beside these what the packet brings with it (the
-- length of the response to come, "memory reads becoming 1"); image; go; finished with its number; refused
abbrev pub ask_told : Verdict → Told
ask_told (W.Reply q) = told 1 (request_number q ∷ request_values q)
ask_told (W.Image start k) = told_image start k
ask_told W.Pass = told_go
ask_told (W.Finish how) = told 7 (finish_number how ∷ [])
ask_told (W.Respond c k) = told 1 (request_number (Q.ExecuteData c) ∷ command_number c ∷ k ∷ [])
ask_told (W.Debug v a k) = told 1 (request_number (Q.MemRead v a k) ∷ a ∷ k ∷ 1 ∷ [])

abbrev pub verdict_told : Result Verdict Refusal → Told
verdict_told = result_told ask_told
