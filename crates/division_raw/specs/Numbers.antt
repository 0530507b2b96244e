-- The session that the numbers tell which a call was lent or gave. `division_raw` of proofs/Raw is the claim of division/specs/Claim with it; and in every
-- run the
-- numbers are those of that session and tell nothing else (`numbers_only` there), so that what the same sessions have is the same numbers.
use Rattle.session.specs.declared.Session.{Session}
use Rattle.raw.specs.Raw.{session_of}
use Rattle.fetch_raw.specs.Calls.{Called}

abbrev pub session_in : Called → Session
session_in k = session_of k.numbers
