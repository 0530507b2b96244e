-- Building of the packets that the host sends. Document 01, "Building": "HelloResp: length 48, version 2, compatible 1, status 0, the session's mode,
-- zeros. Done 8 bytes; Execute 0x0d, ExecuteData and SwitchMode 0x0c (mode 0) 12 each; Reset 8; MemRead64 24." Refusals, "Build": 3 out buffer below
-- 48 bytes. "Only named bytes of a lent buffer change." Document 02, request 2: "MemRead (0x0a) .. an address and a length of 4 bytes", 16 bytes.
use Rattle.std.specs.Prelude.{ℕ, ◌+◌, List, [], ◌∷◌, ◌++◌, ltb, length, drop, Result, Ok, Err}
use Rattle.base.specs.Choice.{pick}
use Rattle.base.specs.Told.{Told, told_send}
use Rattle.refusal.specs.Refusal.{result_told}
use Rattle.field.specs.Field.{fields, words, field_size}
use Rattle.field.specs.declared.Width.{Width}
use Rattle.field.specs.declared.Width.TheVariants as WI
use Rattle.command.specs.Command.{mode_number, command_number, kind_number}
use Rattle.command.specs.declared.SaharaMode.TheVariants as M
use Rattle.command.specs.declared.SaharaCmd.{SaharaCmd}
use Rattle.command.specs.declared.SaharaCmd.TheVariants as K
use Rattle.build.specs.declared.Request.{Request}
use Rattle.build.specs.declared.Request.TheVariants as Q
use Rattle.refusal.specs.declared.Refusal.{Refusal}

-- a packet: its command, its whole length, its body
abbrev pub packet_bytes : ℕ → List ℕ → List ℕ
packet_bytes cmd body = words (cmd ∷ (8 + length body) ∷ []) ++ body

-- a memory read of either width: MemRead for an old board, else MemRead64
abbrev pub read_kind : Width → SaharaCmd
read_kind WI.Bits32 = K.MemRead
read_kind WI.Bits64 = K.MemRead64

-- and its size: 24, and 16, an address and a length of 4 bytes behind the header's 8
abbrev pub read_size : Width → ℕ
read_size WI.Bits32 = 16
read_size WI.Bits64 = 24

-- the command of each packet; 7, 0x0c and 0x0d are numbers of no decoded kind: Reset, SwitchMode, Execute
abbrev pub request_number : Request → ℕ
request_number (Q.HelloResp m) = kind_number K.HelloResp
request_number Q.Done = kind_number K.Done
request_number (Q.Execute c) = 0x0d
request_number (Q.ExecuteData c) = kind_number K.ExecuteData
request_number Q.SwitchMode = 0x0c
request_number Q.Reset = 7
request_number (Q.MemRead v a k) = kind_number (read_kind v)

-- the values that a request chooses: a mode, a command, an address and a length
abbrev pub request_values : Request → List ℕ
request_values (Q.HelloResp m) = mode_number m ∷ []
request_values Q.Done = []
request_values (Q.Execute c) = command_number c ∷ []
request_values (Q.ExecuteData c) = command_number c ∷ []
request_values Q.SwitchMode = []
request_values Q.Reset = []
request_values (Q.MemRead v a k) = a ∷ k ∷ []

-- the body of each packet
abbrev pub body_bytes : Request → List ℕ
body_bytes (Q.HelloResp m) = words (2 ∷ 1 ∷ 0 ∷ mode_number m ∷ 0 ∷ 0 ∷ 0 ∷ 0 ∷ 0 ∷ 0 ∷ [])
body_bytes Q.Done = []
body_bytes (Q.Execute c) = words (command_number c ∷ [])
body_bytes (Q.ExecuteData c) = words (command_number c ∷ [])
body_bytes Q.SwitchMode = words (mode_number M.WaitingForImage ∷ [])
body_bytes Q.Reset = []
body_bytes (Q.MemRead v a k) = fields (field_size v) (a ∷ k ∷ [])

-- the bytes of each packet
unfoldable pub bytes_of : Request → List ℕ
bytes_of q = packet_bytes (request_number q) (body_bytes q)

-- the size of each: 01's figures
abbrev pub size_of : Request → ℕ
size_of (Q.HelloResp m) = 48
size_of Q.Done = 8
size_of (Q.Execute c) = 12
size_of (Q.ExecuteData c) = 12
size_of Q.SwitchMode = 12
size_of Q.Reset = 8
size_of (Q.MemRead v a k) = read_size v

-- a build's whole outcome: the answer, and the out buffer afterwards
pub record BuildOutcome : Type 0 where
  pub built : Result ℕ Refusal
  pub out : List ℕ

abbrev pub build_outcome : Result ℕ Refusal → List ℕ → BuildOutcome
build_outcome b o = record { built = b; out = o }

-- what a build tells
abbrev pub built_told : Result ℕ Refusal → Told
built_told = result_told told_send

abbrev pub build_told : BuildOutcome → Told
build_told x = built_told x.built

-- the out buffer with a packet as its first bytes
abbrev pub front : Request → List ℕ → List ℕ
front q o = bytes_of q ++ drop (size_of q) o

unfoldable pub build_of : Request → List ℕ → BuildOutcome
build_of q o = pick (ltb (length o) 48) (build_outcome (Err Refusal.OutBuffer) o) (build_outcome (Ok (size_of q)) (front q o))
