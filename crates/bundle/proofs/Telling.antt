-- Number and values tell the answers of this crate apart: each is found again from them. Assumes nothing.
use mathlib.Core.Path.{◌≡◌, refl}
use lib.Dec.{eqb}
use lib.ListN.{get_or}
use Rattle.base.specs.Choice.{pick}
use Rattle.base.specs.Told.{Told}
use Rattle.base.proofs.Telling.{apart}
use Rattle.refusal.proofs.Laws.{accepted_apart}
use Rattle.bundle.specs.Bundle.{checked_told, slot_told}
use Rattle.bundle.specs.declared.Slot.{Slot}
use Rattle.bundle.specs.declared.Slot.TheVariants as S
use Rattle.std.specs.Prelude.{Result}
use Rattle.refusal.specs.declared.Refusal.{Refusal}

pub checked_apart : (x y : Result Unit Refusal) → checked_told x ≡ checked_told y → x ≡ y
checked_apart = accepted_apart

abbrev slot_from : Told → Slot
slot_from t =
    pick (eqb t.number 0) (S.At (get_or t.values 0 0) (get_or t.values 1 0)) (pick (eqb t.number 1) S.Absent S.Missing)

slot_back : (x : Slot) → slot_from (slot_told x) ≡ x
slot_back (S.At start k) = refl
slot_back S.Absent = refl
slot_back S.Missing = refl

pub slot_apart : (x y : Slot) → slot_told x ≡ slot_told y → x ≡ y
slot_apart = apart slot_told slot_from slot_back
