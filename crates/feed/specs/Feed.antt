-- Deliveries one after another: when the next is due, and when the channel is closed. Document 01, desk: deliveries, "each used up before the next is
-- read"; "when the input has ended and the next step needs bytes, "0 refused 23"".
use Rattle.std.specs.Prelude.{Bool, not, ◌&&◌, ltb}
use Rattle.session.specs.declared.Session.{Session}
use Rattle.waiting.specs.Wanted.{needs_bytes}
use Rattle.feed.specs.declared.Feed.{Feed}

-- it is used up, and there may be more
abbrev pub due_at : Feed → Bool
due_at f = not (ltb f.from f.to) && not f.over

-- the bytes are over, and a step would wait
abbrev pub closes_at : Feed → Session → Bool
closes_at f s = f.over && needs_bytes s.phase
