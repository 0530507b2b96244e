-- What a step is lent, the run's own or not: by cases. Assumes nothing.
use mathlib.Core.Path.{◌≡◌, refl}
use mathlib.Core.Bool.{true, ◌&&◌}
use mathlib.Core.List.{List}
use Prim.Native.Nat.{ℕ}
use Rattle.base.proofs.Tests.{differ, and_true}
use Rattle.fetch.specs.Device.{Thing, own, other, Delivery, first, another, Lent, lent, is_own, all_own, kept, left}

-- what is lent and comes back as it was leaves the run's own as it was
pub kept_lent : (x : Thing) (b : List ℕ) → kept x b (lent x b) ≡ b
kept_lent own b = refl
kept_lent (other y) b = refl

-- nothing that is taken leaves the queue as it was
pub left_none : (d : Delivery) (q : List ℕ) → left d 0 q ≡ q
left_none (first k) q = refl
left_none (another d) q = refl

-- the run's own things are lent, and taken back
pub lent_own : (x : Thing) (b : List ℕ) → is_own x ≡ true → lent x b ≡ b
lent_own own b e = refl
lent_own (other y) b e = differ e

pub kept_own : (x : Thing) (b r : List ℕ) → is_own x ≡ true → kept x b r ≡ r
kept_own own b r e = refl
kept_own (other y) b r e = differ e

-- all that is lent is the run's own, but for the delivery
pub record Owned (l : Lent) : Type 0 where
  pub set : is_own l.set ≡ true
  pub names : is_own l.names ≡ true
  pub table : is_own l.table ≡ true
  pub reply : is_own l.reply ≡ true
  pub out : is_own l.out ≡ true

pub owned : (l : Lent) → all_own l ≡ true → Owned l
owned l e =
    let a = and_true (is_own l.set && is_own l.names && is_own l.table && is_own l.reply) (is_own l.out) e in
    let b = and_true (is_own l.set && is_own l.names && is_own l.table) (is_own l.reply) a.0 in
    let d = and_true (is_own l.set && is_own l.names) (is_own l.table) b.0 in
    let f = and_true (is_own l.set) (is_own l.names) d.0 in
    record { set = f.0; names = f.1; table = d.1; reply = b.1; out = a.1 }
