-- A step that no refusal keeps from its phase. Document 01, Refusals, "Step, session and buffers untouched": 1, 2, 3 and 18 (4 is of ended sessions).
use Rattle.std.specs.Prelude.{ℕ, ◌≤◌, ◌≡◌, true, false, List, length}
use Rattle.bundle.specs.Bundle.{well_formed}
use Rattle.session.specs.declared.Session.{Session}
use Rattle.session.specs.Limits.{limit_of}

-- a session and what it is lent, image set, names, table, reply and out buffers: the set (images) and the name list (stems) are well formed, the out buffer
-- has room, the session is within its limits. (A session's window is an array of 48 bytes; definitions see a list, so the laws say its length beside this.)
pub record InOrder (s : Session) (set names t y o : List ℕ) : Type 0 where
  pub images : well_formed true set ≡ true
  pub stems : well_formed false names ≡ true
  pub room : 48 ≤ length o
  pub limits : limit_of s t y ≡ false
