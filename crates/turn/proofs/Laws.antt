-- Laws of a phase's guard: what it makes of the phase, and what is known behind it; and of an entry of the table that a session holds.
-- Assumes nothing.
use mathlib.Core.Path.{◌≡◌, refl, sym, ap, ◌∙◌}
use mathlib.Core.Bool.{Bool, true, false, ◌||◌}
use mathlib.Core.List.{List}
use Prim.Native.Nat.{ℕ, ◌+◌, ◌*◌, ◌/◌, ◌<◌, ◌≤◌}
use native.Mathlib.Nat.{mul_comm, le-div_iff_mul-le}
use native.Mathlib.Omega.{arith}
use borrow.Author.Tests.{le-leb, ltb-false}
use lib.Dec.{ltb}
use lib.ListN.{length}
use Rattle.field.specs.Field.{field_size}
use Rattle.base.specs.Choice.{pick}
use Rattle.base.proofs.Tests.{neither}
use Rattle.entry.specs.Entry.{entry_size, there, entries_in}
use Rattle.session.specs.declared.Phase.{Phase}
use Rattle.session.specs.declared.Session.{Session}
use Rattle.session.specs.declared.Stepped.{Stepped}
use Rattle.session.specs.declared.Answer.TheVariants as A
use Rattle.session.specs.Outcome.{Outcome, outcome, gives, untouched}
use Rattle.session.specs.Limits.{reads_limit, phase_limit}
use Rattle.session.specs.Guard.{guarded}
use Rattle.turn.specs.Turn.{guard_of}
use Rattle.std.specs.Prelude.{Result, Ok, Err}
use Rattle.refusal.specs.Refusal.{accepted}
use Rattle.refusal.specs.declared.Refusal.{Refusal}

-- nothing is refused: neither test holds
none : (a b : Bool) → pick a (Err Refusal.OutBuffer) (pick b (Err Refusal.Limit) accepted) ≡ accepted → (a ≡ false) × (b ≡ false)
none true b e = let z : ◌≡◌ {A = ℕ} 0 1 = cc in absurd (omega arith)
none false true e = let z : ◌≡◌ {A = ℕ} 0 1 = cc in absurd (omega arith)
none false false e = (refl, refl)

-- behind the guard
pub record Passed (s : Session) (limited : Bool) (o : List ℕ) : Type 0 where
  pub room : 48 ≤ length o
  pub reads : reads_limit s ≡ false
  pub counts : limited ≡ false

-- g is what the guard gives, limited what the test of the phase's counts told
pub passed : (s : Session) (limited : Bool) (o : List ℕ) {g : Result Unit Refusal} → g ≡ guard_of s limited o → g ≡ accepted → Passed s limited o
unfolding guard_of
passed s limited o e z =
    let q = none (ltb (length o) 48) (reads_limit s || limited) (sym e ∙ z) in
    let l = neither (reads_limit s) limited q.1 in
    record { room = ltb-false (length o) 48 q.0; reads = l.0; counts = l.1 }

-- the phase p with its guard: x behind it
module _ (s : Session) (p : Phase) (t y o : List ℕ) (x : Outcome) where
  abbrev behind : Result Unit Refusal → Outcome
  behind (Ok _) = x
  behind (Err why) = untouched s why t y o

  by_tests : (a b : Bool) → behind (pick a (Err Refusal.OutBuffer) (pick b (Err Refusal.Limit) accepted))
      ≡ pick a (untouched s Refusal.OutBuffer t y o) (pick b (untouched s Refusal.Limit t y o) x)
  by_tests true b = refl
  by_tests false true = refl
  by_tests false false = refl

  module _ {g : Result Unit Refusal} {limited : Bool} (e : g ≡ guard_of s limited o) (l : limited ≡ phase_limit (field_size s.width) s.window p t y) where
    -- the guard is what it gives
    guard_is : behind g ≡ guarded s p t y o x
    unfolding guard_of
    guard_is = ap behind e ∙ by_tests (ltb (length o) 48) (reads_limit s || limited) ∙ rw l refl

    -- where it refuses, so does the phase
    pub guard_refused : {why : Refusal} {r : Stepped} → g ≡ Err why → r ≡ gives s 0 (A.Refused why) → outcome r t y o ≡ guarded s p t y o x
    guard_refused h q = ap (λ (r : Stepped). outcome r t y o) q ∙ sym (ap behind h) ∙ guard_is

    -- where it does not, it is the phase
    pub guard_passed : {z : Outcome} → g ≡ accepted → z ≡ x → z ≡ guarded s p t y o x
    guard_passed h q = q ∙ sym (ap behind h) ∙ guard_is

-- an entry of the first k bytes of a table is there
pub entry_within : (f k i : ℕ) (t : List ℕ) → i < entries_in f k → k ≤ length t → there f t i ≡ true
entry_within f k i t h l =
    let q : i + 1 ≤ k / entry_size f = omega arith in
    let w : (i + 1) * entry_size f ≤ k = (le-div_iff_mul-le {k = entry_size f} (omega arith)).0 q in
    le-leb (entry_size f * (i + 1)) (length t) (rw (mul_comm (entry_size f) (i + 1)) (omega arith))
