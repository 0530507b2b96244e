-- The rule of the constants by one computed test, with a test that two classes are the same. Assumes nothing.
use mathlib.Core.Path.{◌≡◌, refl, ap}
use mathlib.Core.Bool.{Bool, true, false}
use Prim.Native.Nat.{ℕ}
use native.Mathlib.Omega.{arith}
use mathlib.Core.List.{List}
use lib.Dec.{T, eqb, eqb→eq, leb, leb→le}
use lib.ListN.{get_or}
use Rattle.base.specs.Choice.{pick}
use Rattle.base.proofs.Ranges.{both_left, both_right, every, in_range}
use Rattle.utf8.specs.Classes.{follow, Class, no_lead, lead, lead_of, class_of, Rule}
use Rattle.utf8_sequence.specs.declared.Follow.{Follow}

-- two classes are the same
abbrev same : Class → Class → Bool
same no_lead no_lead = true
same no_lead (lead g) = false
same (lead f) no_lead = false
same (lead f) (lead g) = pick (eqb f.0 g.0) (pick (eqb f.1 g.1) (eqb f.2 g.2) false) false

-- classes that the test finds the same are equal
same_eq : (a b : Class) → T (same a b) → a ≡ b
same_eq no_lead no_lead t = refl
same_eq no_lead (lead g) t = absurd t
same_eq (lead f) no_lead t = absurd t
same_eq (lead f) (lead g) t =
    let u = both_right (eqb f.0 g.0) (pick (eqb f.1 g.1) (eqb f.2 g.2) false) t in
    let m : f.0 ≡ g.0 = eqb→eq _ _ (both_left (eqb f.0 g.0) (pick (eqb f.1 g.1) (eqb f.2 g.2) false) t) in
    let l : f.1 ≡ g.1 = eqb→eq _ _ (both_left (eqb f.1 g.1) (eqb f.2 g.2) u) in
    let h : f.2 ≡ g.2 = eqb→eq _ _ (both_right (eqb f.1 g.1) (eqb f.2 g.2) u) in
    let e : follow f.0 f.1 f.2 ≡ follow g.0 g.1 g.2 = rw (m, l, h) refl in
    ap lead e

-- a digit that stands for its byte's class
abbrev pub stands : List ℕ → List Follow → ℕ → Bool
stands digits rows b =
    pick (leb 0x30 (get_or digits b 0)) (pick (leb (get_or digits b 0) 0x39) (same (class_of rows (get_or digits b 0)) (lead_of b)) false) false

-- the rule of digits and rows, by one test at all 256 bytes
pub rule_of : (digits : List ℕ) (rows : List Follow) → T (every (stands digits rows) 0 256) → Rule digits rows
unfolding Rule
rule_of digits rows t b h =
    let d : ℕ = get_or digits b 0 in
    let at = in_range (stands digits rows) 0 256 b t (omega arith) (omega arith) in
    let rest = both_right (leb 0x30 d) (pick (leb d 0x39) (same (class_of rows d) (lead_of b)) false) at in (
      leb→le 0x30 d (both_left (leb 0x30 d) (pick (leb d 0x39) (same (class_of rows d) (lead_of b)) false) at),
      leb→le d 0x39 (both_left (leb d 0x39) (same (class_of rows d) (lead_of b)) rest),
      same_eq (class_of rows d) (lead_of b) (both_right (leb d 0x39) (same (class_of rows d) (lead_of b)) rest),
    )
