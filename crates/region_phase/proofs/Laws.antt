-- What is known of a region that is within its limits; and a session's step in a region is the step over its counts, put into the session
-- (`advance_is`), by the tests. Assumes nothing.
use mathlib.Core.Path.{◌≡◌, refl, sym, ap}
use mathlib.Core.Bool.{Bool, true, false, not, ◌&&◌, ◌||◌, true≢false}
use mathlib.Core.List.{List}
use Prim.Native.Nat.{ℕ, ◌+◌, ◌*◌, ◌^◌, ◌<◌, ◌≤◌}
use native.Mathlib.Nat.{le-div_iff_mul-le}
use native.Mathlib.Omega.{arith}
use mir.Val.{Fits}
use mir.Syntax.{w64}
use borrow.Author.Tests.{ltb-false, leb-false, ne_eqb}
use lib.Dec.{ltb, leb, eqb}
use lib.ListN.{length}
use Rattle.base.proofs.Ranges.{by_test, by_else}
use Rattle.field.specs.Field.{field_size}
use Rattle.field.specs.declared.Width.{Width}
use Rattle.field.proofs.Laws.{memory_least}
use Rattle.verdict.specs.Opening.{chunk_of}
use Rattle.verdict.specs.declared.Opening.{Opening}
use Rattle.session.specs.declared.Region.{Region}
use Rattle.session.specs.declared.Session.{Session}
use Rattle.session.specs.declared.Counted.{Counted}
use Rattle.session.specs.Outcome.{Outcome}
use Rattle.entry.specs.Entry.{entry_size, entries_in, there}
use Rattle.turn.proofs.Laws.{entry_within}
use Rattle.session.specs.RegionPhase.{asks_for, next_chunk, ask_of, hand_of, region_of}
use Rattle.session.specs.Limits.{region_limit}
use Rattle.session.specs.Guard.{region_step}
use Rattle.region_phase.specs.Advance.{Advanced, advanced, advance_within, advance_of, on_advance}
use Rattle.region_phase.specs.declared.Advance.{Advance}
use Rattle.region_phase.specs.declared.Advance.TheVariants as D
use Rattle.base.proofs.Tests.{neither}
use Rattle.std.specs.Prelude.{Result, Ok, Err}
use Rattle.refusal.specs.declared.Refusal.{Refusal}

pub record InLimits (f k : ℕ) (x : Region) (t : List ℕ) : Type 0 where
  pub table : k ≤ length t
  pub entry : x.entry < entries_in f k
  pub counts : x.done + x.outstanding ≤ x.len
  pub ends : (x.done + x.outstanding ≡ 0 → ⊥) → x.base + x.len ≤ 256 ^ f

-- the first test fails, so the second is what fails
and_left : (a b : Bool) → (not a && b) ≡ false → a ≡ false → b ≡ false
and_left true b e h = absurd (true≢false h)
and_left false b e h = e

-- a region that is not refused with 18 is within its limits
pub region_within : (f k : ℕ) (x : Region) (t : List ℕ) → region_limit f k x t ≡ false → InLimits f k x t
region_within f k x t e =
    let sum : ℕ = x.done + x.outstanding in
    let A : Bool = ltb (length t) k in
    let B : Bool = leb (entries_in f k) x.entry in
    let C : Bool = ltb x.len sum in
    let D : Bool = ltb (256 ^ f) (x.base + x.len) in
    let abcd = neither (A || B || C) (not (eqb sum 0) && D) e in
    let abc = neither (A || B) C abcd.0 in
    let ab = neither A B abc.0 in
    record {
      table = ltb-false (length t) k ab.0;
      entry = leb-false (entries_in f k) x.entry ab.1;
      counts = ltb-false x.len sum abc.1;
      ends = λ n. ltb-false (256 ^ f) (x.base + x.len) (and_left (eqb sum 0) D abcd.1 (ne_eqb sum 0 n));
    }

-- what `ask` is called with fits the fields of a memory read: its numbers are written as they are
pub asked_fits : (v : Width) (u : Opening) (x : Region) → x.done < x.len → x.base + x.len ≤ 256 ^ field_size v
    → (x.base + x.done < 256 ^ field_size v) × (asks_for u x < 256 ^ field_size v)
unfolding chunk_of
asked_fits v u x h l = (omega arith, omega (arith, memory_least v))

-- ---- a session's step is the step over its counts

module _ (s : Session) (k : ℕ) (x : Region) (d t y : List ℕ) where
  abbrev put : Advanced → Outcome
  put a = on_advance s k x t y a.out a.advance

  within_is : (o : List ℕ) → region_of s k x d t y o ≡ put (advance_within s.width s.opening s.reads x (length d) o)
  unfolding region_of ask_of next_chunk hand_of advance_within
  within_is o =
      by_test x.due (λ e. rw e refl)
      (λ e. by_test (eqb x.outstanding 0)
      (λ z. by_test (eqb x.done 0) (λ b. rw (e, z, b) refl)
      (λ b. by_test (leb x.len x.done) (λ w. rw (e, z, b, w) refl) (λ w. rw (e, z, b, w) refl)))
      (λ z. by_test (eqb (length d) 0) (λ b. rw (e, z, b) refl) (λ b. rw (e, z, b) refl)))

  pub advance_is : (o : List ℕ) → region_step s k x d t y o ≡ put (advance_of s.width s.opening s.reads k x (length d) t o)
  unfolding region_step advance_of
  advance_is o =
      by_test (ltb (length o) 48) (λ e. rw e refl)
      (λ e. by_test (ltb (2 ^ 63 + 1) s.reads || region_limit (field_size s.width) k x t) (λ l. rw (e, l) refl) (λ l. rw (e, l) (within_is o)))

-- ---- what is known by what it comes to

left : {a b : Result Advance Refusal} {o p : List ℕ} → advanced a o ≡ advanced b p → p ≡ o
left q = sym (ap (λ (z : Advanced). z.out) q)

to : {a b : Result Advance Refusal} {o p : List ℕ} → advanced a o ≡ advanced b p → a ≡ b
to q = ap (λ (z : Advanced). z.advance) q

-- the out buffer changes only where the counts do
module _ (v : Width) (u : Opening) (m : ℕ) (x : Region) (n : ℕ) (o : List ℕ) {a : Result Advance Refusal} {o' : List ℕ} (still : (c : Counted) → a ≡ Ok (D.To c) → ⊥) where
  within_still : advance_within v u m x n o ≡ advanced a o' → o' ≡ o
  unfolding advance_within
  within_still q =
      by_test x.due (λ e. left (rw e at q))
      (λ e. by_test (eqb x.outstanding 0)
      (λ z. by_test (eqb x.done 0) (λ b. left (rw (e, z, b) at q))
      (λ b. by_test (leb x.len x.done) (λ w. left (rw (e, z, b, w) at q)) (λ w. absurd (still _ (sym (to (rw (e, z, b, w) at q)))))))
      (λ z. by_test (eqb n 0) (λ b. left (rw (e, z, b) at q)) (λ b. left (rw (e, z, b) at q))))

  pub advance_still : (k : ℕ) (t : List ℕ) → advance_of v u m k x n t o ≡ advanced a o' → o' ≡ o
  unfolding advance_of
  advance_still k t q =
      by_test (ltb (length o) 48) (λ e. left (rw e at q))
      (λ e. by_test (ltb (2 ^ 63 + 1) m || region_limit (field_size v) k x t) (λ l. left (rw (e, l) at q)) (λ l. within_still (rw (e, l) at q)))

-- what a region's step comes to is told apart
refused≢begins : (why : Refusal) → ◌≡◌ {A = Result Advance Refusal} (Err why) (Ok D.Begins) → ⊥
refused≢begins why q = let z : ◌≡◌ {A = ℕ} 0 1 = cc in omega arith

refused≢closes : (why : Refusal) → ◌≡◌ {A = Result Advance Refusal} (Err why) (Ok D.Closes) → ⊥
refused≢closes why q = let z : ◌≡◌ {A = ℕ} 0 1 = cc in omega arith

begins≢to : (c : Counted) → ◌≡◌ {A = Result Advance Refusal} (Ok D.Begins) (Ok (D.To c)) → ⊥
begins≢to c q = let z : D.Begins ≡ D.To c = cc in let y : ◌≡◌ {A = ℕ} 0 1 = cc in omega arith

-- the entry behind one of the table's has a number
next_fits : (f k i : ℕ) → i < entries_in f k → Fits w64 k → i + 1 < 2 ^ 64
next_fits f k i h w =
    let n : ℕ = entry_size f in
    let q : (i + 1) * n ≤ k = (le-div_iff_mul-le {k = n} (omega arith)).0 (omega arith) in
    omega arith

-- what is not refused has room, and every count is within its limit
record Passed (v : Width) (m k : ℕ) (x : Region) (t o : List ℕ) : Type 0 where
  pub room : 48 ≤ length o
  pub reads : m ≤ 2 ^ 63 + 1
  pub within : InLimits (field_size v) k x t

advance_passed : (v : Width) (u : Opening) (m k : ℕ) (x : Region) (n : ℕ) (t o : List ℕ) {a : Advanced}
    → ((why : Refusal) → advanced (Err why) o ≡ a → ⊥) → advance_of v u m k x n t o ≡ a → Passed v m k x t o
unfolding advance_of
advance_passed v u m k x n t o never q =
    let r = by_else (ltb (length o) 48) _ _ (never Refusal.OutBuffer) q in
    let l = by_else (ltb (2 ^ 63 + 1) m || region_limit (field_size v) k x t) _ _ (never Refusal.Limit) r.1 in
    let b = neither (ltb (2 ^ 63 + 1) m) (region_limit (field_size v) k x t) l.0 in
    record { room = ltb-false (length o) 48 r.0; reads = ltb-false (2 ^ 63 + 1) m b.0; within = region_within (field_size v) k x t b.1 }

-- where a region begins the out buffer has room as before, and the entry is there; where it closes the next entry has a number
module _ (v : Width) (u : Opening) (m k : ℕ) (x : Region) (n : ℕ) (t o p : List ℕ) where
  pub begins : advance_of v u m k x n t o ≡ advanced (Ok D.Begins) p → (48 ≤ length p) × (there (field_size v) t x.entry ≡ true) × (m ≤ 2 ^ 63 + 1)
  begins q =
      let r = advance_passed v u m k x n t o (λ why e. refused≢begins why (to e)) q in
      let h : p ≡ o = advance_still v u m x n o begins≢to k t q in
      (rw h r.room, entry_within (field_size v) k x.entry t r.within.entry r.within.table, r.reads)

  pub closes : advance_of v u m k x n t o ≡ advanced (Ok D.Closes) p → Fits w64 k → x.entry + 1 < 2 ^ 64
  closes q w = next_fits (field_size v) k x.entry (advance_passed v u m k x n t o (λ why e. refused≢closes why (to e)) q).within.entry w
