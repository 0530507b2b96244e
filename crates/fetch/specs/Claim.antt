-- Demand 3, of any host: what is claimed of every list of steps, and under which premises. Document 01, "Demand 3's list": "After the list the reports are
-- a beginning of the plain host's. They are the whole of it once the steps lent the run's own image set, names and buffers number at least the bytes
-- (opening, table, selected regions) + 2 times the selected regions + 2 times the plain host's memory reads. This is a single claim about the list".
-- Document 02, request 2: "a full fetch from such a board, its table and regions ending at or below 2^32, is covered like the others": premises and count go by
-- the memory debug's width. The theorem, `Demand definitions`, is `fetch` of proofs/Theorem.antt; hosts of which it is false are in specs/Wrong.
use Rattle.std.specs.Prelude.{ℕ, ◌+◌, ◌*◌, ◌/◌, ◌^◌, ◌≤◌, ◌<◌, ◌≡◌, true, List, [], ◌∷◌, ◌++◌, length}
use Rattle.entry.specs.Entry.{entries_in, entry_of, base_of, length_of, filename_of}
use Rattle.filename.specs.Filename.{sound}
use Rattle.selection.specs.Selection.{selected}
use Rattle.verdict.specs.declared.Opening.{Opening}
use Rattle.steps.specs.Steps.{Throughout, outs, counted}
use Rattle.fetch.specs.Plain.{Report, Debug, Stopped, Debugged, field_in, chunk_count, table_in, selected_in, Setting, heard_of, plain}
use Rattle.fetch.specs.Device.{Host, Lent, World, all_own, start, next, reported, Fair}

module _ (h : Host) (c : Setting) where
  -- every step of the list is fair
  abbrev pub Run : World h.State → List Lent → Type 0
  Run w ls = Throughout (next h c) (Fair h c) w ls

  -- what the list reports
  abbrev pub reports : World h.State → List Lent → List Report
  reports w ls = outs (next h c) (reported h c) w ls

  -- how many of its steps were lent the run's own image set, names and buffers. Nothing else is looked at: such a step counts whatever its answer, a refused
  -- one too
  abbrev pub owns : World h.State → List Lent → ℕ
  owns w ls = counted (next h c) (λ v l. all_own l) w ls

-- the bytes of some entries' regions, and their memory reads; f is the width of an entry's numbers
unfoldable pub region_bytes : ℕ → List ℕ → List ℕ → ℕ
region_bytes f t [] = 0
region_bytes f t (i ∷ is) = length_of f (entry_of f t i) + region_bytes f t is

unfoldable pub region_reads : ℕ → Opening → List ℕ → List ℕ → ℕ
region_reads f u t [] = 0
region_reads f u t (i ∷ is) = chunk_count u (length_of f (entry_of f t i)) + region_reads f u t is

-- the steps, counted by `owns`, that are enough: the bytes, 2 for each selected region, 2 for each memory read, the table's and the chunks'. (That the plain
-- host's own report has so many memory reads: `enough_counts` of proofs/Theorem. That one step fewer is not enough: `tight`, `one_fewer` of
-- fetch_shown/proofs/Refuted.)
unfoldable pub enough : Setting → Debug → ℕ
enough c dbg =
    let f = field_in dbg in
    let t = table_in c.mem dbg in
    let is = selected_in c.mem c.names dbg in
    length c.bytes + dbg.size + region_bytes f t is + 2 * length is + 2 * (1 + region_reads f c.opening t is)

-- a region that can be dumped: it ends at or below 256 ^ f, which is 2^64 or 2^32, and its name is sound
pub record Dumpable (f : ℕ) (e : List ℕ) : Type 0 where
  pub top : base_of f e + length_of f e ≤ 256 ^ f
  pub named : sound (filename_of f e) ≡ true

-- the plain host comes to the memory debug with no opening byte after it; the table ends at or below 2^64 or, of 32 bits, 2^32; the selected regions can be
-- dumped. The first holds more: the image set and the names are well formed and the out buffer has 48 bytes (`hosted` of specs/Plain: else the plain host stops
-- before), and the table fits its buffer and 65,536 (the memory debug's verdict). A setting c and a memory debug dbg are records of specs/Plain
pub record Premises (c : Setting) (dbg : Debug) : Type 0 where
  pub opens : (heard_of c).ending ≡ Debugged dbg []
  pub top : dbg.address + dbg.size ≤ 256 ^ field_in dbg
  pub regions : (i : ℕ) → i < entries_in (field_in dbg) dbg.size
      → selected (field_in dbg) c.names (entry_of (field_in dbg) (table_in c.mem dbg) i) ≡ true
      → Dumpable (field_in dbg) (entry_of (field_in dbg) (table_in c.mem dbg) i)

-- which openings are covered. The plain host comes to a memory debug, with these premises; or it stops: at a packet that finishes, is refused or is cut
-- short, or before the first, where 1, 2 or 3 refuses every step. (Not where it stops at an ExecuteResp: there the host goes on with the response, and the
-- plain host does not)
pub data Covered (c : Setting) : Type 0 where
  dumps : (dbg : Debug) → Premises c dbg → Covered c
  stops : (heard_of c).ending ≡ Stopped → Covered c

-- the steps that are enough, of either: without a memory debug there is no table, no region and no memory read to count
abbrev pub enough_for : (c : Setting) → Covered c → ℕ
enough_for c (dumps dbg p) = enough c dbg
enough_for c (stops e) = length c.bytes

-- the claim: a beginning, and the whole once there are n own steps. (l : A) × P says that there is an l of which P holds
pub record Fetched (h : Host) (c : Setting) (n : ℕ) (ls : List Lent) : Type 0 where
  pub begins : (l : List Report) × (plain c ≡ reports h c (start h c) ls ++ l)
  pub whole : n ≤ owns h c (start h c) ls → reports h c (start h c) ls ≡ plain c

-- of every run and every list
abbrev pub Demand : Host → Type 0
Demand h = (c : Setting) (x : Covered c) (ls : List Lent) → Run h c (start h c) ls → Fetched h c (enough_for c x) ls
