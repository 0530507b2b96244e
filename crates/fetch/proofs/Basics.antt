-- Laws that the phases share: an entry's end, and a step that counts. Assumes nothing.
use mathlib.Core.Bool.{Bool, true, false}
use Prim.Native.Nat.{ℕ, ◌+◌, ◌*◌, ◌/◌, ◌≤◌, ◌<◌}
use native.Mathlib.Omega.{arith}
use native.Mathlib.Nat.{mul_comm, le-div_iff_mul-le}
use Rattle.entry.specs.Entry.{entry_size}
use Rattle.steps.specs.Steps.{one}

-- the end of entry i of a table of n bytes; f is the width of an entry's numbers
pub entry_end : (f n i : ℕ) → i < n / entry_size f → entry_size f * (i + 1) ≤ n
entry_end f n i h =
    let m : i + 1 ≤ n / entry_size f = omega arith in
    rw (mul_comm (entry_size f) (i + 1)) ((le-div_iff_mul-le {k = entry_size f} (omega arith)).0 m)

pub one_le : (b : Bool) → one b ≤ 1
one_le true = omega arith
one_le false = omega arith
