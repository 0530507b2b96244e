-- Numbers of modes, commands and packet kinds, and the class of a command number. Document 01, Records, "Packet", and "Decoding": every command
-- number falls into one of four classes: decoded, XML (0x6d783f3c), known but unimplemented (7, 9, 0x0a, 0x0c, 0x0d, 0x13, 0x14), unknown; of these 9 and 0x0a are
-- decoded since document 02, request 2: "Both leave class 8."
use Rattle.std.specs.Prelude.{ℕ, Bool, true, false, List, [], ◌∷◌, Result, Ok, Err, eqb}
use Rattle.base.specs.Choice.{pick}
use Rattle.command.specs.declared.SaharaMode.{SaharaMode}
use Rattle.command.specs.declared.SaharaMode.TheVariants as M
use Rattle.command.specs.declared.SaharaCmdModeCmd.{SaharaCmdModeCmd}
use Rattle.command.specs.declared.SaharaCmdModeCmd.TheVariants as E
use Rattle.command.specs.declared.SaharaCmd.{SaharaCmd}
use Rattle.command.specs.declared.SaharaCmd.TheVariants as K
use Rattle.refusal.specs.declared.Refusal.{Refusal}
use Rattle.refusal.specs.declared.Refusal.TheVariants as Refusal
use Rattle.command.specs.declared.Class.{Class}
use Rattle.command.specs.declared.Class.TheVariants as C

-- "Modes are 0, 2, 3", and "a fourth mode, 1, image transfer complete" (document 02, request 1)
abbrev pub mode_number : SaharaMode → ℕ
mode_number M.WaitingForImage = 0
mode_number M.ImageTransferComplete = 1
mode_number M.MemoryDebug = 2
mode_number M.Command = 3

-- "commands 0..3"
abbrev pub command_number : SaharaCmdModeCmd → ℕ
command_number E.Nop = 0
command_number E.ReadSerialNum = 1
command_number E.ReadHwId = 2
command_number E.ReadOemKeyHash = 3

-- "one of thirteen kinds", and "MemDebug (9) and .. MemRead (0x0a)" (document 02, request 2): the number of each
abbrev pub kind_number : SaharaCmd → ℕ
kind_number K.Hello = 1
kind_number K.HelloResp = 2
kind_number K.ReadData = 3
kind_number K.EndOfImage = 4
kind_number K.Done = 5
kind_number K.DoneResp = 6
kind_number K.ResetResp = 8
kind_number K.MemDebug = 9
kind_number K.MemRead = 0x0a
kind_number K.CommandReady = 0x0b
kind_number K.ExecuteResp = 0x0e
kind_number K.ExecuteData = 0x0f
kind_number K.MemDebug64 = 0x10
kind_number K.MemRead64 = 0x11
kind_number K.ReadData64 = 0x12

-- and its least body bytes; of MemDebug and MemRead "an address and a length of 4 bytes"
abbrev pub least_body : SaharaCmd → ℕ
least_body K.Hello = 40
least_body K.HelloResp = 40
least_body K.ReadData = 12
least_body K.EndOfImage = 8
least_body K.Done = 0
least_body K.DoneResp = 4
least_body K.ResetResp = 0
least_body K.MemDebug = 8
least_body K.MemRead = 8
least_body K.CommandReady = 0
least_body K.ExecuteResp = 8
least_body K.ExecuteData = 4
least_body K.MemDebug64 = 16
least_body K.MemRead64 = 16
least_body K.ReadData64 = 24

-- the mode, the command, of a number. A number of none makes a body malformed: 9
unfoldable pub mode_of : ℕ → Result SaharaMode Refusal
mode_of n =
    pick (eqb n (mode_number M.WaitingForImage)) (Ok M.WaitingForImage)
    (pick (eqb n (mode_number M.ImageTransferComplete)) (Ok M.ImageTransferComplete)
    (pick (eqb n (mode_number M.MemoryDebug)) (Ok M.MemoryDebug)
    (pick (eqb n (mode_number M.Command)) (Ok M.Command) (Err Refusal.Body))))

unfoldable pub command_of : ℕ → Result SaharaCmdModeCmd Refusal
command_of n =
    pick (eqb n (command_number E.Nop)) (Ok E.Nop)
    (pick (eqb n (command_number E.ReadSerialNum)) (Ok E.ReadSerialNum)
    (pick (eqb n (command_number E.ReadHwId)) (Ok E.ReadHwId)
    (pick (eqb n (command_number E.ReadOemKeyHash)) (Ok E.ReadOemKeyHash) (Err Refusal.Body))))

-- the fifteen kinds, the XML mark, and the known but unimplemented numbers
unfoldable pub kinds : List SaharaCmd
kinds =
    K.Hello
    ∷ K.HelloResp
    ∷ K.ReadData
    ∷ K.EndOfImage
    ∷ K.Done
    ∷ K.DoneResp
    ∷ K.ResetResp
    ∷ K.MemDebug
    ∷ K.MemRead
    ∷ K.CommandReady
    ∷ K.ExecuteResp
    ∷ K.ExecuteData
    ∷ K.MemDebug64
    ∷ K.MemRead64
    ∷ K.ReadData64
    ∷ []

abbrev pub xml : ℕ
xml = 0x6d783f3c

unfoldable pub unimplemented : List ℕ
unimplemented = 7 ∷ 0x0c ∷ 0x0d ∷ 0x13 ∷ 0x14 ∷ []

-- the kind of a list that a number is, else another class
abbrev pub kind_among : ℕ → List SaharaCmd → Class → Class
kind_among n [] other = other
kind_among n (k ∷ ks) other = pick (eqb n (kind_number k)) (C.Kind k) (kind_among n ks other)

abbrev pub among : ℕ → List ℕ → Bool
among n [] = false
among n (k ∷ ks) = pick (eqb n k) true (among n ks)

unfoldable pub class_of : ℕ → Class
class_of n = kind_among n kinds (pick (eqb n xml) C.Xml (pick (among n unimplemented) C.Unimplemented C.Unknown))
