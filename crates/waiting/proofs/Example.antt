-- The laws are about something: of each a session that meets its premises, by computation.
-- Assumes nothing.
use mathlib.Core.Path.{◌≡◌, refl}
use mathlib.Core.Bool.{true, false}
use mathlib.Core.List.{List, [], ◌∷◌, ◌++◌}
use Prim.Native.Nat.{ℕ}
use lib.Dec.{ltb, lit≤}
use lib.ListN.{take, drop, replicate}
use Rattle.field.specs.Field.{le, le_bytes, fields, words}
use Rattle.bundle.specs.Bundle.{slots_good, well_formed}
use Rattle.command.specs.Command.{kinds, class_of}
use Rattle.command.specs.declared.SaharaMode.TheVariants as M
use Rattle.packet.specs.Packet.{kind_of, decode_of}
use Rattle.verdict.specs.Verdict.{verdict_of}
use Rattle.verdict.specs.declared.QdlBackend.TheVariants as U
use Rattle.verdict.specs.declared.Opening.{Opening}
use Rattle.session.specs.declared.Phase.{Phase}
use Rattle.session.specs.declared.Phase.TheVariants as P
use Rattle.session.specs.declared.Session.{Session}
use Rattle.session.specs.declared.Answer.TheVariants as A
use Rattle.session.specs.Outcome.{outcome, gives, in_phase, opened_with, filling, region}
use Rattle.session.specs.PacketPhase.{acted, sized_of, packet_of}
use Rattle.session.specs.Limits.{limit_of}
use Rattle.session.specs.Step.{step_of}
use Rattle.waiting.specs.Wanted.{needs_bytes, wanted_of}
use Rattle.waiting.specs.Waiting.{InOrder}
use Rattle.waiting.specs.Window.{packet_over, StepLent}
use Rattle.waiting.proofs.Waiting.{waits, waits_only, wanted_needs, takes_all}
use Rattle.waiting.proofs.Window.{completes_whole, after, holds_run, judged_whole}
use Rattle.std.specs.Prelude.{None}
use Rattle.verdict.specs.declared.Finish.TheVariants as Finish

abbrev debugging : Opening
debugging = record { mode = M.MemoryDebug; command = None; backend = U.Usb }

-- a session in the phase p, its window zeros
abbrev at : Phase → Session
at p = in_phase (opened_with debugging) p

-- no image, no name; a table and a reply buffer of 64 bytes
abbrev none : List ℕ
none = replicate 8 0

abbrev buffer : List ℕ
buffer = replicate 64 0

-- three bytes of a packet are held; 10 of a table of 64; a region of 5000 bytes with 904 outstanding
abbrev packet : Session
packet = at (P.Packet 3)

abbrev table : Session
table = at (P.Table (filling 64 10))

abbrev dumping : Session
dumping = at (P.Region 64 (region 0 1000 5000 4096 904 false))

in_order : (p : Phase) → limit_of (at p) buffer buffer ≡ false → InOrder (at p) none none buffer buffer buffer
unfolding well_formed slots_good le
in_order p l = record { images = refl; stems = refl; room = lit≤ tt; limits = l }

-- it waits, and so it needs bytes
table_waits : step_of table [] none none buffer buffer buffer ≡ outcome (gives table 0 A.Go) buffer buffer buffer
unfolding limit_of
table_waits = waits table none none buffer buffer buffer (in_order table.phase refl) refl refl

table_needs : needs_bytes table.phase ≡ true
table_needs = waits_only table none none buffer buffer buffer table_waits

-- bytes are wanted
dumping_wants : needs_bytes dumping.phase ≡ ltb 0 (wanted_of dumping)
unfolding limit_of
dumping_wants = wanted_needs dumping buffer buffer refl

-- the fifth byte more is the header's last: all are taken, though the length that they make, 0, is refused
packet_takes : (step_of packet (replicate 5 0) none none buffer buffer buffer).stepped.taken ≡ 5
unfolding limit_of
packet_takes = takes_all packet (replicate 5 0) none none buffer buffer buffer (in_order packet.phase refl) refl (lit≤ tt)

-- ---- a run

-- DoneResp of 60 bytes, its status 1: longer than the window
abbrev done : List ℕ
done = words (6 ∷ 60 ∷ 1 ∷ []) ++ replicate 48 7

-- lent a delivery and all that a step needs
abbrev lend : List ℕ → StepLent
lend d = record { delivery = d; set = none; names = none; table = buffer; reply = buffer; out = buffer }

-- 5 of its bytes; a step lent no out buffer, refused; 50 more
abbrev parts : List StepLent
parts =
    lend (take 5 done)
    ∷ record { delivery = done; set = none; names = none; table = buffer; reply = buffer; out = [] }
    ∷ lend (take 50 (drop 5 done))
    ∷ []

-- 55 are held; the next step is judged by all 60, and finishes
ran : after debugging parts ≡ record { session = (after debugging parts).session; held = take 55 done }
unfolding step_of limit_of packet_of sized_of well_formed slots_good fields le le_bytes
ran = refl

judged : step_of (after debugging parts).session (drop 55 done) none none buffer buffer buffer
    ≡ packet_over (after debugging parts).session (take 55 done) (drop 55 done) none buffer buffer buffer
unfolding step_of limit_of packet_of sized_of well_formed slots_good fields le le_bytes
judged = judged_whole debugging parts (drop 55 done) none none buffer buffer buffer 55 refl refl refl (lit≤ tt)

-- 5 more complete it
completed : step_of (after debugging parts).session (drop 55 done) none none buffer buffer buffer
    ≡ acted (after debugging parts).session 5 (take 48 done) buffer buffer buffer (verdict_of debugging none 64 64 done)
unfolding step_of limit_of packet_of sized_of well_formed slots_good fields le le_bytes
completed =
    completes_whole (after debugging parts).session (take 55 done) none none buffer buffer buffer 55 (holds_run debugging parts) refl refl refl (lit≤ tt)
    (drop 55 done) 5 refl refl (lit≤ tt)

ends : (packet_over (after debugging parts).session (take 55 done) (drop 55 done) none buffer buffer buffer).stepped.answer ≡ A.Finished Finish.ImagesSent 0
unfolding packet_over step_of limit_of packet_of sized_of well_formed slots_good verdict_of decode_of class_of kinds kind_of fields le le_bytes
ends = refl
