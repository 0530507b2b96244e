-- *Between regions*. Document 01, "Session": "take nothing; open the next selected entry, i its place in the table from 0, its base and length kept in
-- the session from then on, or finish (3)". f is the width of an entry's numbers, which in the step is that of the
-- session s.
use Rattle.std.specs.Prelude.{ℕ, ◌-◌, false, List, ltb, Result, Ok, Err}
use Rattle.base.specs.Choice.{pick}
use Rattle.entry.specs.Entry.{entry_of, base_of, length_of, filename_of, entries_in}
use Rattle.filename.specs.Filename.{open_check}
use Rattle.selection.specs.Selection.{next_of}
use Rattle.session.specs.declared.Phase.TheVariants as P
use Rattle.session.specs.declared.Session.{Session}
use Rattle.session.specs.declared.Answer.TheVariants as A
use Rattle.session.specs.declared.Stepped.{Stepped}
use Rattle.session.specs.Outcome.{in_phase, ended, region, gives}
use Rattle.refusal.specs.declared.Refusal.{Refusal}
use Rattle.verdict.specs.declared.Finish.TheVariants as Finish

-- entry i, whose bytes are e, opened or refused by its name: 19, 20
abbrev pub open_of : ℕ → Session → ℕ → ℕ → List ℕ → Result Unit Refusal → Stepped
open_of f s k i e (Ok tt) = gives (in_phase s (P.Region k (region i (base_of f e) (length_of f e) 0 0 false))) 0 (A.Open i)
open_of f s k i e (Err why) = gives (ended s) 0 (A.Refused why)

-- k is the table's length in bytes, from the entry to go on from. The name that is judged is that of the next selected entry, and of no other
unfoldable pub between_of : ℕ → Session → ℕ → ℕ → List ℕ → List ℕ → Stepped
between_of f s k from names t =
    let i = next_of f names t (entries_in f k - from) from in
    pick (ltb i (entries_in f k))
    (open_of f s k i (entry_of f t i) (open_check (filename_of f (entry_of f t i))))
    (gives (ended s) 0 (A.Finished Finish.Dumped s.reads))
