-- The law of two runs is about something: two sets of one shape that differ in one byte. Runs that do not read it are alike, those where a step that would is
-- refused, a read of it is, or its packet is cut short among them; one that reads it is not. Assumes nothing.
use mathlib.Core.Path.{◌≡◌, refl, sym, ap, ◌∙◌}
use mathlib.Core.Bool.{true}
use mathlib.Core.List.{List, [], ◌∷◌, ◌++◌}
use mathlib.Core.Option.{none, some, none-ne-some, some-injective}
use Prim.Native.Nat.{ℕ, zero, suc, ◌≤◌}
use native.Mathlib.Omega.{arith}
use lib.ListN.{take, replicate}
use Rattle.field.specs.Field.{le, le_bytes, fields, words}
use Rattle.bundle.specs.Bundle.{count_of, slots_good, well_formed, slot_of}
use Rattle.bundle.specs.Content.{content_of}
use Rattle.bundle.proofs.Laws.{content_past}
use Rattle.command.specs.Command.{kinds, class_of}
use Rattle.packet.specs.Packet.{kind_of, decode_of}
use Rattle.verdict.specs.Verdict.{verdict_of}
use Rattle.session.specs.Outcome.{opened_with}
use Rattle.session.specs.PacketPhase.{whole_of, sized_of, packet_of}
use Rattle.session.specs.Limits.{limit_of}
use Rattle.session.specs.Step.{step_of}
use Rattle.fetch.specs.Plain.{Report, image}
use Rattle.fetch.specs.Device.{definitions, own, other as another's, another, Lent, start}
use Rattle.two_runs.specs.Claim.{seen_in, with_set, RunsAlike}
use Rattle.two_runs.specs.Alike.{shape_in, covered_of, made_whole, Agree}
use Rattle.two_runs.proofs.Theorem.{runs_alike}
use Rattle.two_runs_raw.proofs.Example.{mark, set, setting, step, read, reported}

-- "ABCE" in the place of "ABCD"
abbrev other : List ℕ
other = words (2 ∷ 6 ∷ 2 ∷ mark ∷ 4 ∷ 0 ∷ []) ++ 0 ∷ 0 ∷ 65 ∷ 66 ∷ 67 ∷ 69 ∷ []

formed : (well_formed true set ≡ true) × (well_formed true other ≡ true)
unfolding well_formed slots_good le le_bytes fields
formed = (refl, refl)

counts : (count_of set ≡ 2) × (count_of other ≡ 2)
unfolding le le_bytes fields
counts = (refl, refl)

shapes : (i : ℕ) → shape_in (content_of set i) ≡ shape_in (content_of other i)
unfolding slot_of le le_bytes fields
shapes zero = refl
shapes (suc zero) = refl
shapes (suc (suc i)) =
    ap shape_in (content_past set (suc (suc i)) (omega (arith, counts)) ∙ sym (content_past other (suc (suc i)) (omega (arith, counts))))

-- of one step the law wants this
alone : (l : Lent) → Agree setting other (start definitions setting) l → RunsAlike definitions setting other (start definitions setting) (l ∷ [])
alone l a =
    runs_alike setting other formed.0 formed.1 (record { counts = counts.0 ∙ sym counts.1; slots = shapes }) (start definitions setting) (l ∷ [])
    (a, tt)

-- ---- a whole packet

-- the only one that a step judges which is delivered it
packet_agrees : (p : List ℕ) → made_whole (opened_with setting.opening) 0 p ≡ some p → covered_of set p ≡ covered_of other p
    → Agree setting other (start definitions setting) (step p)
packet_agrees p w c q r j =
    let h : 0 ≡ j.held = let x = j.phase in cc in
    let v : made_whole (opened_with setting.opening) 0 p ≡ some r = ap (λ (k : ℕ). made_whole (opened_with setting.opening) k p) h ∙ j.whole in
    let e : p ≡ r = some-injective p r (sym w ∙ v) in
    rw (← e) c

-- the first three bytes are read
three_whole : made_whole (opened_with setting.opening) 0 (read 0 0 3) ≡ some (read 0 0 3)
unfolding made_whole le le_bytes fields
three_whole = refl

three_covered : covered_of set (read 0 0 3) ≡ covered_of other (read 0 0 3)
unfolding covered_of decode_of class_of kinds kind_of slot_of le le_bytes fields
three_covered = refl

pub unread_alike : RunsAlike definitions setting other (start definitions setting) (step (read 0 0 3) ∷ [])
unread_alike = alone (step (read 0 0 3)) (packet_agrees (read 0 0 3) three_whole three_covered)

-- the fourth and one more, past the image's end: 13
past_whole : made_whole (opened_with setting.opening) 0 (read 0 3 2) ≡ some (read 0 3 2)
unfolding made_whole le le_bytes fields
past_whole = refl

past_covered : covered_of set (read 0 3 2) ≡ covered_of other (read 0 3 2)
unfolding covered_of decode_of class_of kinds kind_of slot_of le le_bytes fields
past_covered = refl

pub past_alike : RunsAlike definitions setting other (start definitions setting) (step (read 0 3 2) ∷ [])
past_alike = alone (step (read 0 3 2)) (packet_agrees (read 0 3 2) past_whole past_covered)

-- ---- none is judged

-- lent 47 bytes to send from: 3
abbrev short : Lent
short = record { delivery = another (read 0 0 4); set = own; names = own; table = own; reply = own; out = another's (replicate 47 0) }

pub short_alike : RunsAlike definitions setting other (start definitions setting) (short ∷ [])
short_alike = alone short (λ q p j. absurd (let z : 48 ≤ 47 = j.order.room in omega arith))

-- all but three bytes of a packet: they would be zeros, as they stand in the window
cut_none : made_whole (opened_with setting.opening) 0 (take 17 (read 0 0 4)) ≡ none
unfolding made_whole le le_bytes fields
cut_none = refl

pub cut_alike : RunsAlike definitions setting other (start definitions setting) (step (take 17 (read 0 0 4)) ∷ [])
cut_alike =
    alone (step (take 17 (read 0 0 4)))
    (λ q p j.
    let h : 0 ≡ j.held = let x = j.phase in cc in
    let w : none ≡ some p =
    sym cut_none ∙ ap (λ (k : ℕ). made_whole (opened_with setting.opening) k (take 17 (read 0 0 4))) h ∙ j.whole in
    absurd (none-ne-some p w))

-- ---- it is read

read_whole : reported (seen_in definitions setting (start definitions setting) (step (read 0 0 4) ∷ [])) ≡ (image (65 ∷ 66 ∷ 67 ∷ 68 ∷ []) ∷ []) ∷ []
unfolding step_of limit_of packet_of sized_of whole_of verdict_of decode_of class_of kinds kind_of well_formed slots_good slot_of le le_bytes fields
read_whole = refl

other_whole :
    reported (seen_in definitions (with_set setting other) (start definitions setting) (step (read 0 0 4) ∷ [])) ≡ (image (65 ∷ 66 ∷ 67 ∷ 69 ∷ []) ∷ []) ∷ []
unfolding step_of limit_of packet_of sized_of whole_of verdict_of decode_of class_of kinds kind_of well_formed slots_good slot_of le le_bytes fields
other_whole = refl

pub read_differs : RunsAlike definitions setting other (start definitions setting) (step (read 0 0 4) ∷ []) → ⊥
read_differs x =
    let e : ◌≡◌ {A = List (List Report)} ((image (65 ∷ 66 ∷ 67 ∷ 68 ∷ []) ∷ []) ∷ []) ((image (65 ∷ 66 ∷ 67 ∷ 69 ∷ []) ∷ []) ∷ []) =
    sym read_whole ∙ ap reported x.steps ∙ other_whole in
    let z : ◌≡◌ {A = ℕ} 68 69 = cc in
    omega arith
