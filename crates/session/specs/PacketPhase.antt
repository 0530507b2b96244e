-- *Packet*. Document 01, "Session": "take up to the packet's end, refusing at its eighth byte on a bad length; short of the end, go. Then: Hello sends
-- HelloResp; .. MemDebug64 sends MemRead64 with its address and length, memory reads becoming 1; ResetResp finishes (2)." Document 02, request 2: "After MemDebug the
-- host .. sends MemRead for the table", and the session is of that width from then on. What a packet asks for is its verdict (verdict/specs/Verdict).
use Rattle.std.specs.Prelude.{ℕ, ◌+◌, ◌-◌, min, List, ◌++◌, ltb, length, take, drop, Result, Ok, Err}
use Rattle.base.specs.Choice.{pick}
use Rattle.packet.specs.Packet.{length_field, bad_length}
use Rattle.build.specs.Build.{size_of, front}
use Rattle.build.specs.declared.Request.TheVariants as Q
use Rattle.verdict.specs.Verdict.{verdict_of}
use Rattle.verdict.specs.declared.Verdict.{Verdict}
use Rattle.verdict.specs.declared.Verdict.TheVariants as W
use Rattle.session.specs.declared.Phase.TheVariants as P
use Rattle.session.specs.declared.Session.{Session}
use Rattle.session.specs.declared.Answer.TheVariants as A
use Rattle.session.specs.Outcome.{reading, holding, of_width, ended, filling, Outcome, outcome, gives}
use Rattle.refusal.specs.declared.Refusal.{Refusal}

-- the window with bytes x behind the first h held ones; what passes 48 bytes is not kept, and what stood behind x stays: a session's every byte is told.
-- 48 is a hello, the longest of the kinds' least packets (`least_fits` of packet/proofs/Laws)
abbrev pub keep : List ℕ → ℕ → List ℕ → List ℕ
keep w h x = take 48 (take h w ++ x ++ drop (h + length x) w)

-- what a verdict does; w is the window with the packet's bytes, n the bytes taken. A session that ends keeps the window from
-- before the step (`ended`), without the bytes that this step took; where a memory debug came, holding sets the window, of_width the width, and reading then the
-- phase
abbrev pub acted : Session → ℕ → List ℕ → List ℕ → List ℕ → List ℕ → Result Verdict Refusal → Outcome
acted s n w t y o (Ok (W.Reply q)) = outcome (gives (holding s w (P.Packet 0)) n (A.Send (size_of q))) t y (front q o)
acted s n w t y o (Ok (W.Image x k)) = outcome (gives (holding s w (P.Packet 0)) n (A.Image x k)) t y o
acted s n w t y o (Ok W.Pass) = outcome (gives (holding s w (P.Packet 0)) n A.Go) t y o
acted s n w t y o (Ok (W.Finish how)) = outcome (gives (ended s) n (A.Finished how s.reads)) t y o
acted s n w t y o (Ok (W.Respond c k)) =
    outcome (gives (holding s w (P.Response (filling k 0))) n (A.Send (size_of (Q.ExecuteData c)))) t y (front (Q.ExecuteData c) o)
acted s n w t y o (Ok (W.Debug v a k)) =
    outcome (gives (reading (of_width (holding s w s.phase) v) 1 (P.Table (filling k 0))) n (A.Send (size_of (Q.MemRead v a k)))) t y
    (front (Q.MemRead v a k) o)
acted s n w t y o (Err why) = outcome (gives (ended s) n (A.Refused why)) t y o

-- the packet is whole: its bytes, or the first 48 of them, stand in the window w. No kind looks at more than its first 48 bytes, so the verdict is that
-- on the whole packet: `window` of packet/proofs/Laws, and for a run `judged_whole` of waiting/proofs/Window
unfoldable pub whole_of : Session → ℕ → List ℕ → List ℕ → List ℕ → List ℕ → List ℕ → Outcome
whole_of s n w set t y o = acted s n w t y o (verdict_of s.opening set (length t) (length y) (take (length_field w) w))

-- the header is whole: size is its length field. Where it is bad, 5, before its command is looked at: 8 - h bytes end the header (h is less than 8 there,
-- since a session that holds a bad header is above its limits, 18)
unfoldable pub sized_of : Session → ℕ → List ℕ → ℕ → List ℕ → List ℕ → List ℕ → List ℕ → Outcome
sized_of s h d size set t y o =
    pick (bad_length size)
    (outcome (gives (ended s) (8 - h) (A.Refused Refusal.PacketLength)) t y o)
    (let n = min (size - h) (length d) in
    pick (ltb (h + n) size)
    (outcome (gives (holding s (keep s.window h (take n d)) (P.Packet (h + n))) n A.Go) t y o)
    (whole_of s n (keep s.window h (take n d)) set t y o))

-- h bytes are held
unfoldable pub packet_of : Session → ℕ → List ℕ → List ℕ → List ℕ → List ℕ → List ℕ → Outcome
packet_of s h d set t y o =
    pick (ltb (h + length d) 8)
    (outcome (gives (holding s (keep s.window h d) (P.Packet (h + length d))) (length d) A.Go) t y o)
    (sized_of s h d (length_field (keep s.window h d)) set t y o)
