-- What a phase's guard refuses, as in `guarded` of the session: 3 for an out buffer below 48 bytes, 18 for a count above its limit.
use Rattle.std.specs.Prelude.{Bool, ◌||◌, List, ℕ, Result, Err, ltb, length}
use Rattle.base.specs.Choice.{pick}
use Rattle.refusal.specs.Refusal.{accepted}
use Rattle.refusal.specs.declared.Refusal.{Refusal}
use Rattle.session.specs.declared.Session.{Session}
use Rattle.session.specs.Limits.{reads_limit}

-- limited: a count of the phase is above its limit
unfoldable pub guard_of : Session → Bool → List ℕ → Result Unit Refusal
guard_of s limited o = pick (ltb (length o) 48) (Err Refusal.OutBuffer) (pick (reads_limit s || limited) (Err Refusal.Limit) accepted)
