-- A region's step over its counts alone: 3, 18, then *Region* of document 01, "Session", as far as no session and no name are needed. `advance_is` of
-- proofs/Laws: what a session does in a region is this, put into the session.
use Rattle.std.specs.Prelude.{ℕ, ◌+◌, ◌^◌, ◌||◌, List, ltb, leb, eqb, length, Result, Ok, Err}
use Rattle.base.specs.Choice.{pick}
use Rattle.field.specs.Field.{field_size}
use Rattle.field.specs.declared.Width.{Width}
use Rattle.filename.specs.Filename.{after_open_check}
use Rattle.verdict.specs.declared.Opening.{Opening}
use Rattle.session.specs.declared.Region.{Region}
use Rattle.session.specs.declared.Session.{Session}
use Rattle.session.specs.declared.Answer.TheVariants as A
use Rattle.session.specs.Outcome.{Outcome, outcome, gives, untouched}
use Rattle.session.specs.RegionPhase.{emptied_of, asked_of, asked_out, handed_of, counted_in, closes, begun_of, name_in}
use Rattle.session.specs.Limits.{region_limit}
use Rattle.region_phase.specs.declared.Advance.{Advance}
use Rattle.region_phase.specs.declared.Advance.TheVariants as D
use Rattle.refusal.specs.declared.Refusal.{Refusal}

-- what is to be done, and the out buffer afterwards
pub record Advanced : Type 0 where
  pub advance : Result Advance Refusal
  pub out : List ℕ

abbrev pub advanced : Result Advance Refusal → List ℕ → Advanced
advanced a o = record { advance = a; out = o }

-- every count within its limit: width, opening, memory reads, region, how many bytes came, out buffer
unfoldable pub advance_within : Width → Opening → ℕ → Region → ℕ → List ℕ → Advanced
advance_within v u m x n o =
    pick x.due
    (advanced (Ok (D.To (emptied_of m x))) o)
    (pick (eqb x.outstanding 0)
    (pick (eqb x.done 0)
    (advanced (Ok D.Begins) o)
    (pick (leb x.len x.done) (advanced (Ok D.Closes) o) (advanced (Ok (D.To (asked_of v u m x))) (asked_out v u x o))))
    (pick (eqb n 0) (advanced (Ok D.Waits) o) (advanced (Ok (D.To (handed_of u m x n))) o)))

-- width, opening, memory reads, the table's length, region, how many bytes came, table and out buffers
unfoldable pub advance_of : Width → Opening → ℕ → ℕ → Region → ℕ → List ℕ → List ℕ → Advanced
advance_of v u m k x n t o =
    pick (ltb (length o) 48)
    (advanced (Err Refusal.OutBuffer) o)
    (pick (ltb (2 ^ 63 + 1) m || region_limit (field_size v) k x t) (advanced (Err Refusal.Limit) o) (advance_within v u m x n o))

-- put into a session: the table's length, region, table and reply buffers, and the out buffer afterwards
module _ (s : Session) (k : ℕ) (x : Region) (t y o : List ℕ) where
  abbrev pub on_advance : Result Advance Refusal → Outcome
  on_advance (Err why) = untouched s why t y o
  on_advance (Ok D.Waits) = outcome (gives s 0 A.Go) t y o
  on_advance (Ok (D.To c)) = outcome (counted_in s k c) t y o
  on_advance (Ok D.Begins) = begun_of s k x t y o (after_open_check (name_in s.width t x))
  on_advance (Ok D.Closes) = outcome (closes s k x) t y o
