-- When two image sets agree on what a step covers (two_runs/specs/Alike), the session being numbers as they cross to C: of the session that these numbers
-- are read as. Numbers that are no session's cover nothing.
use Rattle.std.specs.Prelude.{◌≡◌, true, List, ℕ}
use Rattle.session.specs.declared.Session.{Session}
use Rattle.raw.specs.Raw.{session_of, is_session}
use Rattle.fetch.specs.Plain.{Setting}
use Rattle.fetch.specs.Device.{Lent, World}
use Rattle.fetch_raw.specs.Calls.{Called}
use Rattle.two_runs.specs.Alike.{Agree}

-- the same world with the session in the place of its numbers
abbrev pub as_session : World Called → World Session
as_session w = record { state = session_of w.state.numbers; table = w.table; reply = w.reply; out = w.out; queue = w.queue }

abbrev pub AgreeRaw : Setting → List ℕ → World Called → Lent → Type 0
AgreeRaw c b w l = is_session w.state.numbers ≡ true → Agree c b (as_session w) l
