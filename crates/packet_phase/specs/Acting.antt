-- What a step of the packet phase comes to before anything is built: the next session, the bytes taken, and what is to be done. Put into an outcome it is what
-- the definitions of session/specs/PacketPhase say.
use Rattle.std.specs.Prelude.{ℕ, List}
use Rattle.build.specs.Build.{size_of, front}
use Rattle.session.specs.declared.Answer.TheVariants as A
use Rattle.session.specs.Outcome.{Outcome, outcome, gives}
use Rattle.packet_phase.specs.declared.Doing.{Doing}
use Rattle.packet_phase.specs.declared.Doing.TheVariants as D
use Rattle.packet_phase.specs.declared.Acting.{Acting}

-- table, reply and out buffers; a packet that is sent is the out buffer's front
abbrev pub put : Acting → List ℕ → List ℕ → List ℕ → Outcome
put a t y o = go a.doing
  where
    go : Doing → Outcome
    go (D.Send q) = outcome (gives a.session a.taken (A.Send (size_of q))) t y (front q o)
    go (D.Tell x) = outcome (gives a.session a.taken x) t y o
