-- The verdict on a packet: its image's bytes are just what the packet covers. So with two image sets of one shape that agree on that it is the same, but
-- for where an image starts, and the image's bytes are. By the packet's kind. Behind the check (1), the set enters a step here alone. Assumes nothing.
use mathlib.Core.Path.{◌≡◌, refl, sym, ap, ◌∙◌}
use mathlib.Core.List.{List, []}
use mathlib.Core.Option.{none, some}
use Prim.Native.Nat.{ℕ}
use lib.Dec.{ltb, eqb}
use lib.ListN.{take, drop}
use Rattle.base.specs.Choice.{pick}
use Rattle.base.proofs.Ranges.{by_test}
use Rattle.base.proofs.Tests.{split}
use Rattle.bundle.specs.Bundle.{count_of}
use Rattle.image.specs.Image.{slot_for, range_unjudged}
use Rattle.packet.specs.Packet.{decode_of}
use Rattle.packet.specs.declared.SaharaPacketBody.{SaharaPacketBody}
use Rattle.packet.specs.declared.SaharaPacketBody.TheVariants as B
use Rattle.verdict.specs.Verdict.{exactly, image_for, execute_for, room, on_body, on_decoded, verdict_of}
use Rattle.verdict.specs.declared.Opening.{Opening}
use Rattle.verdict.specs.declared.Verdict.{Verdict}
use Rattle.verdict.specs.declared.Verdict.TheVariants as W
use Rattle.two_runs.specs.Alike.{SameShape, image_read, read_by, read_in, covered, covered_of}
use Rattle.two_runs.proofs.Range.{range_aside, range_bytes, range_covered, ranges_aside}
use Rattle.std.specs.Prelude.{Option, Some, None, Result, Ok, Err}
use Rattle.refusal.specs.declared.Refusal.{Refusal}
use Rattle.packet.specs.declared.SaharaPacket.{SaharaPacket}
use Rattle.command.specs.declared.SaharaCmdModeCmd.{SaharaCmdModeCmd}

-- where an image starts aside
abbrev pub verdict_aside : Result Verdict Refusal → Result Verdict Refusal
verdict_aside (Ok (W.Reply q)) = Ok (W.Reply q)
verdict_aside (Ok (W.Image x k)) = Ok (W.Image 0 k)
verdict_aside (Ok W.Pass) = Ok W.Pass
verdict_aside (Ok (W.Finish how)) = Ok (W.Finish how)
verdict_aside (Ok (W.Respond c k)) = Ok (W.Respond c k)
verdict_aside (Ok (W.Debug v a k)) = Ok (W.Debug v a k)
verdict_aside (Err why) = Err why

-- the image's bytes
abbrev pub verdict_bytes : List ℕ → Result Verdict Refusal → List ℕ
verdict_bytes set (Ok (W.Reply q)) = []
verdict_bytes set (Ok (W.Image x k)) = take k (drop x set)
verdict_bytes set (Ok W.Pass) = []
verdict_bytes set (Ok (W.Finish how)) = []
verdict_bytes set (Ok (W.Respond c k)) = []
verdict_bytes set (Ok (W.Debug v a k)) = []
verdict_bytes set (Err why) = []

pub record VerdictsAlike (a b : List ℕ) (v v' : Result Verdict Refusal) : Type 0 where
  pub aside : verdict_aside v ≡ verdict_aside v'
  pub bytes : verdict_bytes a v ≡ verdict_bytes b v'

-- an image range's
image_aside : (r : Result (ℕ × ℕ) Refusal) → verdict_aside (image_for r) ≡ image_for (range_aside r)
image_aside (Ok (x, k)) = refl
image_aside (Err why) = refl

image_bytes : (set : List ℕ) (r : Result (ℕ × ℕ) Refusal) → verdict_bytes set (image_for r) ≡ range_bytes set r
image_bytes set (Ok (x, k)) = refl
image_bytes set (Err why) = refl

-- ---- the bytes of a packet's verdict are those that the packet covers: no more and no fewer, whatever the set

module _ (set : List ℕ) where
  read_covered : (size len id offset k : ℕ)
      → verdict_bytes set (exactly len size (image_for (range_unjudged set id offset k))) ≡ covered set (pick (eqb len size) (some (image_read id offset k)) none)
  read_covered size len id offset k =
      by_test
      (eqb len size)
      (λ t. rw t (image_bytes set (range_unjudged set id offset k) ∙ range_covered set (slot_for (count_of set) id) offset k))
      (λ t. rw t refl)

  module _ (u : Opening) (tsize rsize : ℕ) where
    -- no image's
    abbrev Bare : Result Verdict Refusal → Type 0
    Bare v = verdict_bytes set v ≡ []

    execute_bare : (c : Option SaharaCmdModeCmd) → Bare (execute_for c)
    execute_bare (Some c) = refl
    execute_bare None = refl

    body_covered : (len : ℕ) (x : SaharaPacketBody) → verdict_bytes set (on_body u set tsize rsize len x) ≡ covered set (read_by len x)
    body_covered len (B.HelloReq x) = split Bare (eqb len 48) (λ t. refl) (λ t. refl)
    body_covered len (B.HelloResp x) = refl
    body_covered len (B.ReadReq x) = read_covered 20 len x.image x.offset x.len
    body_covered len (B.Eoi x) = split Bare (eqb len 16) (λ t. split Bare (eqb x.status 0) (λ e. refl) (λ e. refl)) (λ t. refl)
    body_covered len B.DoneReq = refl
    body_covered len (B.DoneResp x) = split Bare (eqb x.status 1) (λ t. refl) (λ t. split Bare (eqb (count_of set) 1) (λ e. refl) (λ e. refl))
    body_covered len B.ResetResp = split Bare (eqb len 8) (λ t. refl) (λ t. refl)
    body_covered len (B.DebugReq x) =
        split Bare (eqb len 16) (λ t. split Bare (ltb (room tsize) x.len) (λ e. refl) (λ e. refl)) (λ t. refl)
    body_covered len (B.ReadMemReq x) = refl
    body_covered len B.CommandReady = split Bare (eqb len 8) (λ t. execute_bare u.command) (λ t. refl)
    body_covered len (B.ExecResp x) = split Bare (ltb rsize x.len) (λ t. refl) (λ t. refl)
    body_covered len (B.ExecData x) = refl
    body_covered len (B.Debug64Req x) =
        split Bare (eqb len 24) (λ t. split Bare (ltb (room tsize) x.len) (λ e. refl) (λ e. refl)) (λ t. refl)
    body_covered len (B.ReadMem64Req x) = refl
    body_covered len (B.ReadData64Req x) = read_covered 32 len x.image x.offset x.len

    decoded_covered : (x : Result SaharaPacket Refusal) → verdict_bytes set (on_decoded u set tsize rsize x) ≡ covered set (read_in x)
    decoded_covered (Ok p) = body_covered p.len p.body
    decoded_covered (Err why) = refl

    pub verdict_covered : (p : List ℕ) → verdict_bytes set (verdict_of u set tsize rsize p) ≡ covered_of set p
    unfolding verdict_of covered_of
    verdict_covered p = decoded_covered (decode_of p)

-- ---- of two sets of one shape the verdicts are the same, where an image starts aside

module _ (a b : List ℕ) (same : SameShape a b) (u : Opening) (tsize rsize : ℕ) where
  read_aside : (size len id offset k : ℕ)
      → verdict_aside (exactly len size (image_for (range_unjudged a id offset k))) ≡ verdict_aside (exactly len size (image_for (range_unjudged b id offset k)))
  read_aside size len id offset k =
      by_test
      (eqb len size)
      (λ t.
      rw
      t
      (image_aside (range_unjudged a id offset k)
      ∙ ap image_for (ranges_aside a b same id offset k)
      ∙ sym (image_aside (range_unjudged b id offset k))))
      (λ t. rw t refl)

  body_aside : (len : ℕ) (x : SaharaPacketBody) → verdict_aside (on_body u a tsize rsize len x) ≡ verdict_aside (on_body u b tsize rsize len x)
  body_aside len (B.HelloReq x) = refl
  body_aside len (B.HelloResp x) = refl
  body_aside len (B.ReadReq x) = read_aside 20 len x.image x.offset x.len
  body_aside len (B.Eoi x) = refl
  body_aside len B.DoneReq = refl
  body_aside len (B.DoneResp x) = rw same.counts refl
  body_aside len B.ResetResp = refl
  body_aside len (B.DebugReq x) = refl
  body_aside len (B.ReadMemReq x) = refl
  body_aside len B.CommandReady = refl
  body_aside len (B.ExecResp x) = refl
  body_aside len (B.ExecData x) = refl
  body_aside len (B.Debug64Req x) = refl
  body_aside len (B.ReadMem64Req x) = refl
  body_aside len (B.ReadData64Req x) = read_aside 32 len x.image x.offset x.len

  decoded_aside : (x : Result SaharaPacket Refusal) → verdict_aside (on_decoded u a tsize rsize x) ≡ verdict_aside (on_decoded u b tsize rsize x)
  decoded_aside (Ok p) = body_aside p.len p.body
  decoded_aside (Err why) = refl

  pub verdict_alike : (p : List ℕ) → covered_of a p ≡ covered_of b p
      → VerdictsAlike a b (verdict_of u a tsize rsize p) (verdict_of u b tsize rsize p)
  unfolding verdict_of
  verdict_alike p h =
      record {
        aside = decoded_aside (decode_of p);
        bytes = verdict_covered a u tsize rsize p ∙ h ∙ sym (verdict_covered b u tsize rsize p);
      }
