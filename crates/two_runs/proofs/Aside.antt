-- What is aside of an answer is where an image starts and nothing else: with it the answer is found again. Assumes nothing.
use mathlib.Core.Path.{◌≡◌, refl}
use Prim.Native.Nat.{ℕ}
use Rattle.session.specs.declared.Answer.{Answer}
use Rattle.session.specs.declared.Answer.TheVariants as A
use Rattle.two_runs.specs.Claim.{start_aside}

abbrev start_in : Answer → ℕ
start_in A.Go = 0
start_in (A.Send k) = 0
start_in (A.Image x k) = x
start_in (A.Open i) = 0
start_in (A.Bytes k) = 0
start_in A.EmptyRead = 0
start_in (A.Close i) = 0
start_in (A.Finished how r) = 0
start_in (A.Refused why) = 0

abbrev starting_at : ℕ → Answer → Answer
starting_at x A.Go = A.Go
starting_at x (A.Send k) = A.Send k
starting_at x (A.Image z k) = A.Image x k
starting_at x (A.Open i) = A.Open i
starting_at x (A.Bytes k) = A.Bytes k
starting_at x A.EmptyRead = A.EmptyRead
starting_at x (A.Close i) = A.Close i
starting_at x (A.Finished how r) = A.Finished how r
starting_at x (A.Refused why) = A.Refused why

pub only_start : (a : Answer) → starting_at (start_in a) (start_aside a) ≡ a
only_start A.Go = refl
only_start (A.Send k) = refl
only_start (A.Image x k) = refl
only_start (A.Open i) = refl
only_start (A.Bytes k) = refl
only_start A.EmptyRead = refl
only_start (A.Close i) = refl
only_start (A.Finished how r) = refl
only_start (A.Refused why) = refl
