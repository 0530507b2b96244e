-- The forecast held against what a session comes to, of any host. Document 02, request 5: "Where nothing is refused here and a fresh session finishes (3), its
-- table decoded to this list and each unrefused step lent these names and the same table buffer, which nobody else writes, these equal the regions it opened,
-- the bytes it handed out and the memory reads it reported." The device may be any, true or not: in the world of fetch/specs/Device a step is delivered the
-- queue's first bytes or any others, and what it is lent besides (image set, reply and out buffer) may be another's in each step. The theorem, `Foretells
-- definitions Decodes`, is `foretold` of proofs/Theorem; through the C interface and from the exported function it stands in fetch_forecast_raw.
use Rattle.std.specs.Prelude.{ℕ, ◌⊎◌, ◌≡◌, Bool, true, false, List, ◌∷◌, ◌++◌, Ok, T, take}
use Rattle.field.specs.Field.{field_size}
use Rattle.entry.specs.Entry.{entries_of}
use Rattle.entry.specs.declared.RamdumpTable64.{RamdumpTable64}
use Rattle.verdict.specs.Opening.{chunk_of}
use Rattle.verdict.specs.declared.Finish.TheVariants as Finish
use Rattle.forecast_sums.specs.Forecast.{needs, forecast_of}
use Rattle.session.specs.declared.Phase.{Phase}
use Rattle.session.specs.declared.Phase.TheVariants as P
use Rattle.session.specs.declared.Session.{Session}
use Rattle.session.specs.declared.Answer.{Answer}
use Rattle.session.specs.declared.Answer.TheVariants as A
use Rattle.steps.specs.Steps.{final, Throughout}
use Rattle.fetch.specs.Plain.{Report, sent, image, opened, byte, empty_read, closed, finished, Setting}
use Rattle.fetch.specs.Device.{Host, Lent, is_own, World, start, made, next}
use Rattle.fetch.specs.Claim.{reports}
use Rattle.fetch.specs.Meaning.{how_many}

-- ---- what is counted: "the regions it opened, the bytes it handed out"

abbrev pub is_opened : Report → Bool
is_opened (sent p) = false
is_opened (image p) = false
is_opened (opened i) = true
is_opened (byte b) = false
is_opened empty_read = false
is_opened (closed i) = false
is_opened (finished how r) = false

abbrev pub is_byte : Report → Bool
is_byte (sent p) = false
is_byte (image p) = false
is_byte (opened i) = false
is_byte (byte b) = true
is_byte empty_read = false
is_byte (closed i) = false
is_byte (finished how r) = false

-- ---- "its table decoded to this list"

-- a session has its table from its last byte until the session ends: the first k bytes of the table buffer b, as many as the memory debug told. f is the width
-- of an entry's numbers. (One that has ended tells no length of its table any more. Its buffer is as it was, whatever steps came: `buffer_stays` of
-- proofs/Buffer)
abbrev pub DecodesIn : ℕ → Phase → List ℕ → List RamdumpTable64 → Type 0
DecodesIn f (P.Packet h) b es = ⊥
DecodesIn f (P.Response x) b es = ⊥
DecodesIn f (P.Switched k) b es = ⊥
DecodesIn f (P.Table x) b es = ⊥
DecodesIn f (P.Between k i) b es = entries_of f (take k b) ≡ es
DecodesIn f (P.Region k x) b es = entries_of f (take k b) ≡ es
DecodesIn f (P.Ended k) b es = ⊥

abbrev pub Decodes : Session → List ℕ → List RamdumpTable64 → Type 0
Decodes s b es = DecodesIn (field_size s.width) s.phase b es

-- ---- "each unrefused step lent these names and the same table buffer, which nobody else writes"

abbrev pub is_refused : Answer → Bool
is_refused A.Go = false
is_refused (A.Send k) = false
is_refused (A.Image x k) = false
is_refused (A.Open i) = false
is_refused (A.Bytes k) = false
is_refused A.EmptyRead = false
is_refused (A.Close i) = false
is_refused (A.Finished how r) = false
is_refused (A.Refused why) = true

-- refused; or lent the run's own names and its own table buffer, which only steps that are lent it change (`next`)
abbrev pub Lends : (h : Host) → Setting → World h.State → Lent → Type 0
Lends h c w l = T (is_refused (made h c w l).answer) ⊎ (T (is_own l.names) × T (is_own l.table))

-- ---- the claim

-- what a report l with an end of k memory reads comes to
pub record Comes (regions bytes reads k : ℕ) (l : List Report) : Type 0 where
  pub regions_are : how_many is_opened l ≡ regions
  pub bytes_are : how_many is_byte l ≡ bytes
  pub reads_are : k ≡ reads

-- of every run, every list of steps, and every place in it (behind the steps `before`) where the host's state and the table buffer decode to a list. The
-- forecast counts with the session's own chunk
abbrev pub Foretells : (h : Host) → (h.State → List ℕ → List RamdumpTable64 → Type 0) → Type 0
Foretells h decodes =
    (c : Setting) (before after : List Lent)
    → Throughout (next h c) (Lends h c) (start h c) (before ++ after)
    → (es : List RamdumpTable64)
    → decodes (final (next h c) (start h c) before).state (final (next h c) (start h c) before).table es
    → (regions bytes reads : ℕ)
    → forecast_of (chunk_of c.opening) es c.names ≡ Ok (needs regions bytes reads)
    → (l m : List Report) (k : ℕ)
    → reports h c (start h c) (before ++ after) ≡ l ++ (finished Finish.Dumped k ∷ m)
    → Comes regions bytes reads k (reports h c (start h c) (before ++ after))
