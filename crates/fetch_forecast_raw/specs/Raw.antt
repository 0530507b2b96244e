-- The list that a session's table decodes to, the session being numbers as they cross to C: that of the session that these numbers are read as.
use Rattle.std.specs.Prelude.{List, ℕ}
use Rattle.entry.specs.declared.RamdumpTable64.{RamdumpTable64}
use Rattle.raw.specs.Raw.{session_of}
use Rattle.fetch_raw.specs.Calls.{Called}
use Rattle.fetch_forecast.specs.Claim.{Decodes}

abbrev pub DecodesRaw : Called → List ℕ → List RamdumpTable64 → Type 0
DecodesRaw k b es = Decodes (session_of k.numbers) b es
