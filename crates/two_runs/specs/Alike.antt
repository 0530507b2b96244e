-- When two image sets are alike to a run: they agree in slot count, presence and lengths, and on what its accepted reads cover. That two runs are then
-- alike is a law (`runs_alike` of proofs/Theorem); a set and its tidy form agree on every byte. What a read covers is said of the decoded packet: image ID,
-- offset and length, as document 01, "Images", has them. It is just what the step gives: `judged` of proofs/Step, `verdict_covered` of proofs/Verdict. (The
-- words are those of document 02, request 12, of which nothing is claimed here.)
use Rattle.std.specs.Prelude.{ℕ, ◌+◌, ◌-◌, min, ◌≡◌, List, [], ltb, leb, eqb, length, take, drop, Result, Ok, Err}
use Rattle.std.proofs.Math.Option.{Option, none, some}
use Rattle.base.specs.Choice.{pick}
use Rattle.bundle.specs.Bundle.{count_of}
use Rattle.bundle.specs.Content.{Content, content_of}
use Rattle.image.specs.Image.{slot_for}
use Rattle.packet.specs.Packet.{decode_of, length_field, bad_length}
use Rattle.packet.specs.declared.SaharaPacketBody.{SaharaPacketBody}
use Rattle.packet.specs.declared.SaharaPacketBody.TheVariants as B
use Rattle.session.specs.declared.Phase.TheVariants as P
use Rattle.session.specs.declared.Session.{Session}
use Rattle.session.specs.PacketPhase.{keep}
use Rattle.waiting.specs.Waiting.{InOrder}
use Rattle.fetch.specs.Plain.{Setting}
use Rattle.fetch.specs.Device.{own, Lent, lent, delivered, World}
use Rattle.refusal.specs.declared.Refusal.{Refusal}
use Rattle.packet.specs.declared.SaharaPacket.{SaharaPacket}

-- ---- the shape of a set

-- a slot's length; nothing where it is absent
abbrev pub shape_in : Content → Option ℕ
shape_in none = none
shape_in (some s) = some (length s)

-- the same slot count, presence and lengths
pub record SameShape (a b : List ℕ) : Type 0 where
  pub counts : count_of a ≡ count_of b
  pub slots : (i : ℕ) → shape_in (content_of a i) ≡ shape_in (content_of b i)

-- ---- what a read covers

-- a read of an image
pub record ImageRead : Type 0 where
  pub id : ℕ
  pub offset : ℕ
  pub len : ℕ

abbrev pub image_read : ℕ → ℕ → ℕ → ImageRead
image_read i o k = record { id = i; offset = o; len = k }

-- the read that a packet with this length field and body is: a ReadData of 20 bytes, a ReadData64 of 32; any other is none
abbrev pub read_by : ℕ → SaharaPacketBody → Option ImageRead
read_by len (B.HelloReq b) = none
read_by len (B.HelloResp b) = none
read_by len (B.ReadReq b) = pick (eqb len 20) (some (image_read b.image b.offset b.len)) none
read_by len (B.Eoi b) = none
read_by len B.DoneReq = none
read_by len (B.DoneResp b) = none
read_by len B.ResetResp = none
read_by len (B.DebugReq b) = none
read_by len (B.ReadMemReq b) = none
read_by len B.CommandReady = none
read_by len (B.ExecResp b) = none
read_by len (B.ExecData b) = none
read_by len (B.Debug64Req b) = none
read_by len (B.ReadMem64Req b) = none
read_by len (B.ReadData64Req b) = pick (eqb len 32) (some (image_read b.image b.offset b.len)) none

abbrev pub read_in : Result SaharaPacket Refusal → Option ImageRead
read_in (Ok p) = read_by p.len p.body
read_in (Err why) = none

-- the bytes of an image from an offset on, so many, where they lie within it; else the read is refused (12, 13) and covers none
abbrev pub covered_in : Content → ℕ → ℕ → List ℕ
covered_in none offset len = []
covered_in (some s) offset len = pick (leb (offset + len) (length s)) (take len (drop offset s)) []

-- of the slot that an image ID means
abbrev pub covered : List ℕ → Option ImageRead → List ℕ
covered set none = []
covered set (some r) = covered_in (content_of set (slot_for (count_of set) r.id)) r.offset r.len

-- what the packet whose bytes are p covers of a set
unfoldable pub covered_of : List ℕ → List ℕ → List ℕ
covered_of set p = covered set (read_in (decode_of p))

-- ---- what a step covers

-- the packet that a delivery makes whole where h bytes are held, if it does: its bytes, or the first 48 of them (`packet_of` of session/specs/PacketPhase)
unfoldable pub made_whole : Session → ℕ → List ℕ → Option (List ℕ)
made_whole s h d =
    let size = length_field (keep s.window h d) in
    let n = min (size - h) (length d) in
    let w = keep s.window h (take n d) in
    pick (ltb (h + length d) 8) none (pick (bad_length size) none (pick (ltb (h + n) size) none (some (take (length_field w) w))))

-- a step that no refusal keeps from its phase comes to judge the packet p: it does what the verdict on p asks for (`judged` of proofs/Step)
pub record Judges (s : Session) (d set names t y o p : List ℕ) : Type 0 where
  pub order : InOrder s set names t y o
  pub held : ℕ
  pub phase : s.phase ≡ P.Packet held
  pub whole : made_whole s held d ≡ some p

-- two sets agree on what a step covers, which is lent the one or the other, and else this
abbrev pub AgreeIn : List ℕ → List ℕ → Session → List ℕ → List ℕ → List ℕ → List ℕ → List ℕ → Type 0
AgreeIn a b s d names t y o = (p : List ℕ) → Judges s d a names t y o p → covered_of a p ≡ covered_of b p

-- in a run, where it is lent the run's own
abbrev pub Agree : Setting → List ℕ → World Session → Lent → Type 0
Agree c b w l =
    l.set ≡ own
    → AgreeIn c.set b w.state (delivered l.delivery w.queue) (lent l.names c.names) (lent l.table w.table) (lent l.reply w.reply)
    (lent l.out w.out)
