-- The invariant, by cases of the phase with its counts: what is well kept (GoodAt), what the plain host would still report (due_at), and a number that
-- bounds the own steps left (bound_at). One step keeps it: Kept. en is how the plain host's opening ends, and dbg, where that is so, the memory debug that it
-- comes to. From the memory debug on the session's width is the debug's (`width`), and all else goes by the session's. Assumes nothing.
use mathlib.Core.Path.{◌≡◌}
use mathlib.Core.Bool.{Bool, true, false, not, ◌&&◌}
use mathlib.Core.List.{List, [], ◌∷◌, ◌++◌, map}
use Prim.Native.Nat.{ℕ, suc, ◌+◌, ◌-◌, ◌*◌, ◌/◌, ◌%◌, ◌^◌, ◌≤◌, ◌<◌}
use lib.Dec.{eqb}
use lib.ListN.{length, take, drop}
use Rattle.field.specs.Field.{field_size}
use Rattle.field.specs.declared.Width.{Width}
use Rattle.entry.specs.Entry.{entry_size}
use Rattle.filename.specs.Filename.{after_open_check}
use Rattle.packet.specs.Packet.{length_field, bad_length}
use Rattle.verdict.specs.Opening.{on_usb}
use Rattle.verdict.specs.Verdict.{room}
use Rattle.verdict.specs.declared.Opening.{Opening}
use Rattle.session.specs.declared.Filling.{Filling}
use Rattle.session.specs.declared.Region.{Region}
use Rattle.session.specs.declared.Phase.{Phase}
use Rattle.session.specs.declared.Phase.TheVariants as P
use Rattle.session.specs.Outcome.{Outcome}
use Rattle.session.specs.RegionPhase.{name_in}
use Rattle.steps.specs.Steps.{one}
use Rattle.fetch.specs.Plain.{
  Report,
  byte,
  closed,
  bytes_at,
  Debug,
  Ending,
  Stopped,
  Responded,
  Debugged,
  hear,
  empty_if,
  chunks,
  chunk_count,
  chosen,
  regions,
  table_in,
  reports_of,
  Setting,
}
use Rattle.fetch.specs.Claim.{region_bytes, region_reads}
use Rattle.fetch.proofs.Chunk.{most_reads, CutAt}
use Rattle.fetch.proofs.Ghost.{Ghost, told_by, after_step}
use Rattle.refusal.specs.Refusal.{accepted}

-- ---- inside a region

-- the part of the step bound that the regions of some entries take
unfoldable pub cost : Width → Opening → List ℕ → List ℕ → ℕ
cost v u t is = region_bytes (field_size v) t is + 2 * length is + 2 * region_reads (field_size v) u t is

-- what is not yet asked for in a region
abbrev pub unasked : Region → ℕ
unasked x = x.len - (x.done + x.outstanding)

-- an empty read follows a chunk that ends at e
abbrev pub seam : Opening → ℕ → Bool
seam u e = on_usb u && eqb (e % 512) 0

-- what is due inside a region, before what comes after its bytes: an empty read that is due, the bytes that were asked for, the empty read after
-- them, and the chunks not yet asked for
unfoldable pub in_region : Width → Opening → (ℕ → ℕ) → Region → List Report → List Report
in_region v u mem x tail =
    empty_if x.due
    ++ (map byte (bytes_at mem (x.base + x.done) x.outstanding)
    ++ (empty_if (not (eqb x.outstanding 0) && seam u (x.done + x.outstanding))
    ++ (chunks v u mem (unasked x) (x.base + (x.done + x.outstanding)) (unasked x) ++ tail)))

-- the steps that are left inside a region
abbrev pub bound_in : Opening → Region → ℕ
bound_in u x = one x.due + (x.len - x.done) + one (not (eqb x.outstanding 0)) + 2 * chunk_count u (unasked x)

-- ---- by phase

module _ (c : Setting) (dbg : Debug) where
  -- the table
  abbrev pub table_at : List ℕ
  table_at = table_in c.mem dbg

  -- the entries from i on that are selected
  abbrev pub to_come : Width → ℕ → List ℕ
  to_come v i = chosen (field_size v) c.names table_at (dbg.size / entry_size (field_size v) - i) i

  -- packet, h bytes held: the bytes held and the queue are what is left of the opening, which ends in en
  pub record GoodPacket (en : Ending) (h : ℕ) (w : Ghost) : Type 0 where
    pub out : 48 ≤ length w.out
    pub reads : w.session.reads ≡ 0
    pub size : length w.session.window ≡ 48
    pub count : length w.back ≡ h
    pub same : take h w.session.window ≡ take 48 w.back
    pub part : 8 ≤ h → h < length_field w.back
    pub sound : 8 ≤ h → bad_length (length_field w.back) ≡ false
    pub ends :
        (hear w.session.opening c.set (length w.table) (length w.reply) (length (w.back ++ w.queue)) (w.back ++ w.queue)).ending
        ≡ en

  abbrev pub due_packet : Ghost → List Report
  due_packet w =
      reports_of w.session.opening c.mem c.names
      (hear w.session.opening c.set (length w.table) (length w.reply) (length (w.back ++ w.queue)) (w.back ++ w.queue))

  -- the steps behind the opening
  abbrev pub behind : Opening → Ending → ℕ
  behind u Stopped = 0
  behind u Responded = 0
  behind u (Debugged b r) = dbg.size + 2 + cost dbg.width u table_at (to_come dbg.width 0)

  abbrev pub bound_packet : Ending → Ghost → ℕ
  bound_packet en w = length w.queue + behind w.session.opening en

  -- table: the first bytes of the table buffer are the memory's, the queue holds the others
  pub record GoodTable (x : Filling) (w : Ghost) : Type 0 where
    pub out : 48 ≤ length w.out
    pub declared : x.declared ≡ dbg.size
    pub fits : dbg.size ≤ room (length w.table)
    pub filled : x.filled ≤ dbg.size
    pub table : take x.filled w.table ≡ take x.filled table_at
    pub queue : w.queue ≡ drop x.filled table_at
    pub width : w.session.width ≡ dbg.width
    pub reads : w.session.reads ≡ 1

  abbrev pub due_table : Ghost → List Report
  due_table w = regions w.session.width w.session.opening c.mem table_at (to_come w.session.width 0) 1

  abbrev pub bound_table : Filling → Ghost → ℕ
  bound_table x w = dbg.size - x.filled + 2 + cost w.session.width w.session.opening table_at (to_come w.session.width 0)

  -- between regions, from entry i on, k the declared length: the table is read, nothing is queued
  pub record GoodBetween (k i : ℕ) (w : Ghost) : Type 0 where
    pub out : 48 ≤ length w.out
    pub declared : k ≡ dbg.size
    pub fits : dbg.size ≤ room (length w.table)
    pub table : take dbg.size w.table ≡ table_at
    pub queue : w.queue ≡ []
    pub width : w.session.width ≡ dbg.width
    pub entry : i ≤ dbg.size / entry_size (field_size w.session.width)
    pub reads : w.session.reads ≤ 1 + i * most_reads w.session.width

  abbrev pub due_between : ℕ → Ghost → List Report
  due_between i w = regions w.session.width w.session.opening c.mem table_at (to_come w.session.width i) w.session.reads

  abbrev pub bound_between : ℕ → Ghost → ℕ
  bound_between i w = 1 + cost w.session.width w.session.opening table_at (to_come w.session.width i)

  -- region x, k the table's declared length: the queue holds the bytes that were asked for and not yet handed out
  pub record GoodRegion (k : ℕ) (x : Region) (w : Ghost) : Type 0 where
    pub out : 48 ≤ length w.out
    pub declared : k ≡ dbg.size
    pub fits : dbg.size ≤ room (length w.table)
    pub table : take dbg.size w.table ≡ table_at
    pub queue : w.queue ≡ bytes_at c.mem (x.base + x.done) x.outstanding
    pub width : w.session.width ≡ dbg.width
    pub entry : x.entry < dbg.size / entry_size (field_size w.session.width)
    pub reads : w.session.reads + chunk_count w.session.opening (unasked x) ≤ 1 + suc x.entry * most_reads w.session.width
    pub named : after_open_check (name_in w.session.width w.table x) ≡ accepted
    pub within : x.done + x.outstanding ≤ x.len
    pub top : x.base + x.len ≤ 256 ^ field_size w.session.width
    pub cut : CutAt x
    pub idle : x.due ≡ true → x.outstanding ≡ 0

  abbrev pub due_region : Region → Ghost → List Report
  due_region x w =
      in_region w.session.width w.session.opening c.mem x
      (closed x.entry
      ∷ regions w.session.width w.session.opening c.mem table_at (to_come w.session.width (suc x.entry))
      (w.session.reads + chunk_count w.session.opening (unasked x)))

  abbrev pub bound_region : Region → Ghost → ℕ
  bound_region x w =
      bound_in w.session.opening x + 2 + cost w.session.width w.session.opening table_at (to_come w.session.width (suc x.entry))

  -- ---- all phases: such a run is never in a response
  module _ (en : Ending) where
    abbrev pub GoodAt : Phase → Ghost → Type 0
    GoodAt (P.Packet h) w = GoodPacket en h w
    GoodAt (P.Response x) w = ⊥
    GoodAt (P.Switched k) w = ⊥
    GoodAt (P.Table x) w = GoodTable x w
    GoodAt (P.Between k i) w = GoodBetween k i w
    GoodAt (P.Region k x) w = GoodRegion k x w
    GoodAt (P.Ended k) w = 48 ≤ length w.out

    abbrev pub due_at : Phase → Ghost → List Report
    due_at (P.Packet h) w = due_packet w
    due_at (P.Response x) w = []
    due_at (P.Switched k) w = []
    due_at (P.Table x) w = due_table w
    due_at (P.Between k i) w = due_between i w
    due_at (P.Region k x) w = due_region x w
    due_at (P.Ended k) w = []

    abbrev pub bound_at : Phase → Ghost → ℕ
    bound_at (P.Packet h) w = bound_packet en w
    bound_at (P.Response x) w = 0
    bound_at (P.Switched k) w = 0
    bound_at (P.Table x) w = bound_table x w
    bound_at (P.Between k i) w = bound_between i w
    bound_at (P.Region k x) w = bound_region x w
    bound_at (P.Ended k) w = 0

    abbrev pub Good : Ghost → Type 0
    Good w = GoodAt w.session.phase w

    abbrev pub due_of : Ghost → List Report
    due_of w = due_at w.session.phase w

    abbrev pub bound_of : Ghost → ℕ
    bound_of w = bound_at w.session.phase w

    -- an own step with delivery d and outcome r keeps what was due, and takes at least one from the bound
    pub record Kept (due : List Report) (bound : ℕ) (w : Ghost) (d : List ℕ) (r : Outcome) : Type 0 where
      pub good : Good (after_step c.mem w d r)
      pub told : due ≡ told_by r d c.set ++ due_of (after_step c.mem w d r)
      pub fell : bound_of (after_step c.mem w d r) ≤ bound - 1

    -- Kept goes over to an equal outcome: which branch a step takes is shown apart from what the branch keeps
    pub via : {due : List Report} {bound : ℕ} {w : Ghost} {d : List ℕ} {r r' : Outcome} → r ≡ r' → Kept due bound w d r' → Kept due bound w d r
    via e k = rw e k
