-- What a whole report means, in the words of the mission: each selected region in table order, byte for byte as the memory holds it, and the end with
-- the memory reads. Document 01, "Plain host": "for each selected entry in table order, it reports open i; .. the memory's bytes there one by one ..; then
-- close i. Last comes finished (3) with the count: one for the table, one a chunk." That the plain host's report means this: `means` of proofs/Theorem.
use Rattle.std.specs.Prelude.{ℕ, ◌+◌, ◌≡◌, Bool, false, List, [], ◌∷◌, ◌++◌, map}
use Rattle.entry.specs.Entry.{entry_of, base_of, length_of}
use Rattle.steps.specs.Steps.{one}
use Rattle.verdict.specs.declared.Finish.TheVariants as Finish
use Rattle.fetch.specs.Plain.{
  Report,
  sent,
  image,
  opened,
  byte,
  empty_read,
  closed,
  finished,
  is_read,
  bytes_at,
  Debug,
  field_in,
  table_in,
  selected_in,
  Setting,
}
use Rattle.fetch.specs.Claim.{region_reads}

-- a report of a memory read, of either width: "each counted as a memory read"
abbrev pub read_in : Report → Bool
read_in (sent p) = is_read p
read_in (image p) = false
read_in (opened i) = false
read_in (byte b) = false
read_in empty_read = false
read_in (closed i) = false
read_in (finished how r) = false

-- how many of the reports a test holds of
unfoldable pub how_many : (Report → Bool) → List Report → ℕ
how_many p [] = 0
how_many p (r ∷ l) = one (p r) + how_many p l

-- the memory reads that were sent
abbrev pub reads_in : List Report → ℕ
reads_in l = how_many read_in l

-- a report without packets, image bytes and empty reads
unfoldable pub shown : List Report → List Report
shown [] = []
shown (sent p ∷ l) = shown l
shown (image p ∷ l) = shown l
shown (opened i ∷ l) = opened i ∷ shown l
shown (byte b ∷ l) = byte b ∷ shown l
shown (empty_read ∷ l) = shown l
shown (closed i ∷ l) = closed i ∷ shown l
shown (finished how r ∷ l) = finished how r ∷ shown l

-- the regions of some entries as the memory holds them; f is the width of an entry's numbers
unfoldable pub regions_in : ℕ → (ℕ → ℕ) → List ℕ → List ℕ → List Report
regions_in f mem t [] = []
regions_in f mem t (i ∷ is) =
    let e = entry_of f t i in
    opened i ∷ (map byte (bytes_at mem (base_of f e) (length_of f e)) ++ (closed i ∷ regions_in f mem t is))

-- one memory read for the table and one a chunk of the selected regions
abbrev pub reads_of : Setting → Debug → ℕ
reads_of c dbg = 1 + region_reads (field_in dbg) c.opening (table_in c.mem dbg) (selected_in c.mem c.names dbg)

-- a report of a device whose table a memory debug told
pub record Meant (c : Setting) (dbg : Debug) (l : List Report) : Type 0 where
  -- besides packets, image bytes and empty reads, it is the selected regions in table order, byte for byte, and the end: finished (3), with the memory
  -- reads
  pub shows :
      shown l
      ≡ regions_in (field_in dbg) c.mem (table_in c.mem dbg) (selected_in c.mem c.names dbg) ++ (finished Finish.Dumped (reads_of c dbg) ∷ [])
  -- and so many were sent
  pub reads : reads_in l ≡ reads_of c dbg
