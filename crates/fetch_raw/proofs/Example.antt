-- The theorem is about something: the device `two` of fetch_shown/proofs/Refuted, of either width, calls by value and in place by turns, deliveries of any
-- size: the plain host's whole report. Assumes nothing.
use mathlib.Core.Path.{◌≡◌, refl, ◌∙◌}
use Prim.Native.Nat.{ℕ, zero, suc, ◌≤◌}
use native.Mathlib.Omega.{arith}
use Rattle.field.specs.Field.{le, le_bytes, fields}
use Rattle.field.specs.declared.Width.{Width}
use Rattle.field.specs.declared.Width.TheVariants as WI
use Rattle.selection.specs.Selection.{selected}
use Rattle.verdict.specs.Opening.{chunk_of}
use Rattle.fetch.specs.Plain.{bytes_at, chosen}
use Rattle.fetch.specs.Device.{start}
use Rattle.fetch.specs.Claim.{reports, region_bytes, region_reads, enough, dumps}
use Rattle.fetch.proofs.Played.{drive, drive_fair, drive_owns}
use Rattle.fetch_shown.proofs.Refuted.{entries_at, two, two_told, two_premises, two_planned}
use Rattle.fetch_raw.specs.Calls.{Call, by_value, in_place, calling}
use Rattle.fetch_raw.proofs.Theorem.{fetch_raw}

-- by value, in place, by value ..
pub by_turns : ℕ → Call
by_turns zero = by_value
by_turns (suc zero) = in_place
by_turns (suc (suc n)) = by_turns n

-- 24 opening bytes, 64 of the table, 2 of the region; one region; two memory reads. Of 32 bits 16 and 52
abbrev needed : Width → ℕ
needed WI.Bits32 = 76
needed WI.Bits64 = 96

steps : (v : Width) → enough (two v) (entries_at v 1) ≡ needed v
unfolding enough region_bytes region_reads chunk_of chosen selected bytes_at fields le le_bytes
steps WI.Bits32 = refl
steps WI.Bits64 = refl

pub mixed : (v : Width) (m : ℕ) → 1 ≤ m
    → reports (calling by_turns) (two v) (start (calling by_turns) (two v)) (drive m (needed v)) ≡ two_told v
mixed v m e =
    let w = start (calling by_turns) (two v) in
    (fetch_raw by_turns (two v) (dumps (entries_at v 1) (two_premises v)) (drive m (needed v)) (drive_fair (calling by_turns) (two v) m (needed v) w e)).whole
    (omega (arith, steps v, drive_owns (calling by_turns) (two v) m (needed v) w))
    ∙ two_planned v
