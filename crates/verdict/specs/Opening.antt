-- What a session's opening alone decides in a dump: how much one memory read asks for, and whether empty reads are due; and how many memory reads so many bytes
-- take. Document 01, "Session",
-- *Region*: "send MemRead64 for min(4096, rest)"; "On USB a chunk that is a multiple of 512 makes one empty read due".
use Rattle.std.specs.Prelude.{ℕ, ◌+◌, ◌-◌, ◌/◌, Bool, true, false}
use Rattle.verdict.specs.declared.QdlBackend.{QdlBackend}
use Rattle.verdict.specs.declared.QdlBackend.TheVariants as U
use Rattle.verdict.specs.declared.Opening.{Opening}

-- how many memory reads ask for l bytes, at most c at a time: l / c rounded up
abbrev pub chunks_in : ℕ → ℕ → ℕ
chunks_in c l = (l + (c - 1)) / c

-- the most that one memory read asks for: 4,096, whatever the opening. (It takes the opening so that a chunk given at opening would change this alone.)
unfoldable pub chunk_of : Opening → ℕ
chunk_of u = 4096

abbrev pub on_usb : Opening → Bool
on_usb u = go u.backend
  where
    go : QdlBackend → Bool
    go U.Serial = false
    go U.Usb = true
