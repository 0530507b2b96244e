-- A session in place: its numbers, behind three references. In a region the nine large ones tell the region, and what a step of it counts is put into them.
use Rattle.std.specs.Prelude.{ℕ, Bool, false, List, [], ◌∷◌, ltb, eqb, get_or}
use Rattle.base.specs.Choice.{pick}
use Rattle.session.specs.declared.Region.{Region}
use Rattle.session.specs.declared.Counted.{Counted}
use Rattle.session.specs.Outcome.{region}
use Rattle.raw.specs.declared.RawSession.{RawSession}
use Rattle.raw.specs.Raw.{is_opening, is_width}

-- a session in place: mode, command, backend and phase; the nine large numbers; the window
abbrev pub raw_at : List ℕ → List ℕ → List ℕ → RawSession
raw_at h n w =
    record {
      mode = get_or h 0 0;
      command = get_or h 1 0;
      backend = get_or h 2 0;
      phase = get_or h 3 0;
      reads = get_or n 0 0;
      count = get_or n 1 0;
      at = get_or n 2 0;
      base = get_or n 3 0;
      len = get_or n 4 0;
      done = get_or n 5 0;
      outstanding = get_or n 6 0;
      due = get_or n 7 0;
      width = get_or n 8 0;
      window = w;
    }

-- of the large numbers, the bytes that are outstanding (number 6) and wait for no empty read (number 7): of a session in a region (phase 5) what it wants, of
-- any other session 0 (`waits_wanted` of raw_place/proofs/Repeats). Of numbers that are no session's it is the same two, whatever they are
abbrev pub waits_at : List ℕ → ℕ
waits_at n = pick (eqb (get_or n 7 0) 1) 0 (get_or n 6 0)

-- the small numbers and the large ones are those of a session in a region
abbrev pub in_region : List ℕ → List ℕ → Bool
in_region h n =
    pick (eqb (get_or h 3 0) 5)
    (pick (ltb (get_or n 7 0) 2) (pick (is_width (get_or n 8 0)) (is_opening (get_or h 0 0) (get_or h 1 0) (get_or h 2 0)) false) false)
    false

-- the region that the large numbers tell
abbrev pub region_at : List ℕ → Region
region_at n = region (get_or n 2 0) (get_or n 3 0) (get_or n 4 0) (get_or n 5 0) (get_or n 6 0) (eqb (get_or n 7 0) 1)

-- the large numbers with what a step counts; the table's length, the region's entry, base and length, and the width stay
abbrev pub counted_at : List ℕ → Counted → List ℕ
counted_at n c =
    let x = c.region in
    c.reads ∷ get_or n 1 0 ∷ get_or n 2 0 ∷ get_or n 3 0 ∷ get_or n 4 0 ∷ x.done ∷ x.outstanding ∷ pick x.due 1 0 ∷ get_or n 8 0 ∷ []
