-- Demand 3 is false of the wrong hosts of fetch/specs/Wrong, on a board of either width v: by computation, each runs a fair list on a device that meets the
-- premises, and its report is no beginning of the plain host's, or not the whole of it after enough steps. And the count of steps is tight: one own step
-- fewer is not enough. Assumes nothing.
use mathlib.Core.Path.{◌≡◌, refl, sym, ap, ◌∙◌}
use mathlib.Core.List.{List, [], ◌∷◌, ◌++◌}
use Prim.Native.Nat.{ℕ, ◌-◌, ◌*◌, ◌%◌, ◌<◌}
use native.Mathlib.Omega.{arith}
use lib.Dec.{ltb, lit≤, T}
use lib.ListN.{length, get_or, replicate, get_or-append}
use Rattle.base.specs.Choice.{pick}
use Rattle.field.specs.Field.{le, le_bytes, field_size, fields}
use Rattle.field.specs.declared.Width.{Width}
use Rattle.field.specs.declared.Width.TheVariants as WI
use Rattle.utf8.specs.Utf8.{table, leads, after_first, goes_on}
use Rattle.bundle.specs.Bundle.{slots_good, well_formed}
use Rattle.entry.specs.Entry.{entry_size}
use Rattle.filename.specs.Filename.{before, has, open_check, after_open_check, sound}
use Rattle.selection.specs.Selection.{same, selected, next_of}
use Rattle.command.specs.Command.{kinds, class_of}
use Rattle.packet.specs.Packet.{kind_of, decode_of}
use Rattle.build.specs.Build.{bytes_of}
use Rattle.build.specs.declared.Request.{Request}
use Rattle.verdict.specs.Opening.{chunk_of}
use Rattle.verdict.specs.Verdict.{verdict_of}
use Rattle.verdict.specs.declared.Finish.TheVariants as Finish
use Rattle.verdict.specs.declared.QdlBackend.{QdlBackend}
use Rattle.verdict.specs.declared.QdlBackend.TheVariants as U
use Rattle.session.specs.declared.Session.{Session}
use Rattle.session.specs.PacketPhase.{whole_of, sized_of, packet_of}
use Rattle.session.specs.FillingPhase.{table_of}
use Rattle.session.specs.BetweenPhase.{between_of}
use Rattle.session.specs.RegionPhase.{next_chunk, ask_of, hand_of, region_of}
use Rattle.session.specs.Limits.{limit_of}
use Rattle.session.specs.Step.{step_of}
use Rattle.fetch.specs.Plain.{
  Report,
  sent,
  opened,
  byte,
  empty_read,
  closed,
  finished,
  bytes_at,
  Debug,
  debug,
  hear,
  hosted,
  chosen,
  chunks,
  regions,
  dump,
  reports_of,
  Setting,
  plain,
}
use Rattle.fetch.specs.Device.{Host, definitions, first, Lent, served, World, start, next}
use Rattle.fetch.specs.Claim.{reports, region_bytes, region_reads, enough, Premises, dumps, Demand}
use Rattle.fetch.specs.Wrong.{FailsOn, named_before, hasty, thrifty, merging, early, inventing, wholesale, padding, greedy, idle}
use Rattle.fetch.proofs.Played.{lending, drive, drive_fair, drive_owns, all_fair, played_fair, tested}
use Rattle.fetch_shown.proofs.Example.{debug_bytes, read_bytes, on, entry_bytes}

-- a host that fails on a board does not meet the demand
pub refuted : (h : Host) (v : Width) → FailsOn h v → Demand h → ⊥
refuted h v x d = x.unlike (d x.c (dumps x.dbg x.premises) x.ls x.fair)

-- ---- small devices: a table at 0 and computed bytes behind it, nothing but a memory debug before it, no images and no names

abbrev pub small : Width → QdlBackend → List ℕ → Setting
small v b t =
    record {
      opening = on b;
      set = replicate 8 0;
      names = replicate 8 0;
      table = replicate (length t) 0;
      reply = [];
      out = replicate 48 0;
      bytes = debug_bytes v 0 (length t);
      mem = λ a. pick (ltb a (length t)) (get_or t a 0) (a % 251);
    }

-- the memory debug of a table of n entries
abbrev pub entries_at : Width → ℕ → Debug
entries_at v n = debug v 0 (entry_size (field_size v) * n)

-- the name "A"
abbrev name : List ℕ
name = 0x41 ∷ []

-- ---- what differs: a report

-- a fair list, which reports x at place n
record Plays (h : Host) (c : Setting) (ls : List Lent) (n : ℕ) (x : Report) : Type 0 where
  pub fair : T (all_fair h c ls (start h c))
  pub far : n < length (reports h c (start h c) ls)
  pub played : get_or (reports h c (start h c) ls) n empty_read ≡ x

-- on a device that meets the premises, where the plain host's report there is y
record Apart (h : Host) (c : Setting) (dbg : Debug) (ls : List Lent) (n : ℕ) (x y : Report) : Type 0 where
  pub premises : Premises c dbg
  pub plays : Plays h c ls n x
  pub planned : get_or (plain c) n empty_read ≡ y

-- then what the list reports is no beginning of what the plain host does
fails : (h : Host) (c : Setting) (dbg : Debug) (ls : List Lent) (n : ℕ) (x y : Report) → Apart h c dbg ls n x y → (x ≡ y → ⊥) → FailsOn h dbg.width
fails h c dbg ls n x y a z =
    let r : List Report = reports h c (start h c) ls in
    record {
      c = c;
      dbg = dbg;
      width = refl;
      premises = a.premises;
      ls = ls;
      fair = played_fair h c ls (start h c) a.plays.fair;
      unlike =
          λ f.
          z
          (sym a.plays.played
          ∙ sym (get_or-append r f.begins.0 empty_read n a.plays.far)
          ∙ ap (λ (l : List Report). get_or l n empty_read) (sym f.begins.1)
          ∙ a.planned);
    }

-- ---- a region of 2 bytes, which come one by one

abbrev pub two : Width → Setting
two v = small v U.Serial (entry_bytes v 1 1000 2 name)

-- what the plain host does
abbrev pub two_told : Width → List Report
two_told v =
    sent (read_bytes v 0 (entry_size (field_size v)))
    ∷ opened 0
    ∷ sent (read_bytes v 1000 2)
    ∷ byte 247
    ∷ byte 248
    ∷ closed 0
    ∷ finished Finish.Dumped 2
    ∷ []

abbrev by_one : List Lent
by_one = lending (first 24) ∷ lending (first 64) ∷ drive 1 6

-- the first byte of the memory debug, which its command begins with, in two steps
abbrev at_once : List Lent
at_once = drive 1 2

abbrev command : Width → ℕ
command WI.Bits32 = 9
command WI.Bits64 = 0x10

record OnTwo (v : Width) : Type 0 where
  pub premises : Premises (two v) (entries_at v 1)
  pub planned : plain (two v) ≡ two_told v
  -- the second byte is requested again
  pub hasty_plays : Plays hasty (two v) by_one 4 (sent (read_bytes v 1001 1))
  -- the first byte is handed out a second time
  pub padding_plays : Plays padding (two v) by_one 4 (byte 247)
  -- an opening byte is handed out, whatever was sent
  pub greedy_plays : (q : Request) → Plays (greedy q) (two v) at_once 1 (byte (command v))
  -- the end is told in the place of open, with any memory reads
  pub early_plays : (count : List ℕ → List ℕ → Session → ℕ) → (r : ℕ) × Plays (early count) (two v) by_one 1 (finished Finish.Dumped r)
  -- the end is told with other memory reads than were made
  pub inventing_plays : (count : ℕ → ℕ) → Plays (inventing count) (two v) by_one 6 (finished Finish.Dumped (count 2))

on_two : (v : Width) → OnTwo v
unfolding drive all_fair plain hosted hear reports_of dump regions chunks chosen step_of limit_of packet_of sized_of whole_of table_of between_of next_chunk
    ask_of hand_of
    region_of chunk_of open_check after_open_check next_of served well_formed slots_good verdict_of decode_of class_of kinds kind_of bytes_of selected before sound has
    goes_on leads after_first table bytes_at fields le le_bytes
on_two WI.Bits32 =
    record {
      premises = tested (two WI.Bits32) (entries_at WI.Bits32 1) refl (lit≤ tt) tt;
      planned = refl;
      hasty_plays = record { fair = tt; far = lit≤ tt; played = refl };
      padding_plays = record { fair = tt; far = lit≤ tt; played = refl };
      greedy_plays = λ q. record { fair = tt; far = lit≤ tt; played = refl };
      early_plays = λ count. (_, record { fair = tt; far = lit≤ tt; played = refl });
      inventing_plays = λ count. record { fair = tt; far = lit≤ tt; played = refl };
    }
on_two WI.Bits64 =
    record {
      premises = tested (two WI.Bits64) (entries_at WI.Bits64 1) refl (lit≤ tt) tt;
      planned = refl;
      hasty_plays = record { fair = tt; far = lit≤ tt; played = refl };
      padding_plays = record { fair = tt; far = lit≤ tt; played = refl };
      greedy_plays = λ q. record { fair = tt; far = lit≤ tt; played = refl };
      early_plays = λ count. (_, record { fair = tt; far = lit≤ tt; played = refl });
      inventing_plays = λ count. record { fair = tt; far = lit≤ tt; played = refl };
    }

pub two_premises : (v : Width) → Premises (two v) (entries_at v 1)
two_premises v = (on_two v).premises

pub two_planned : (v : Width) → plain (two v) ≡ two_told v
two_planned v = (on_two v).planned

two_fails : (h : Host) (v : Width) (ls : List Lent) (n : ℕ) (x : Report) → Plays h (two v) ls n x → (x ≡ get_or (two_told v) n empty_read → ⊥)
    → FailsOn h v
two_fails h v ls n x p z =
    fails h (two v) (entries_at v 1) ls n x (get_or (two_told v) n empty_read)
    (record { premises = two_premises v; plays = p; planned = ap (λ (l : List Report). get_or l n empty_read) (two_planned v) }) z

-- the plain host goes on with the second byte, 248
pub hasty_refuted : (v : Width) → FailsOn hasty v
hasty_refuted v = two_fails hasty v by_one 4 (sent (read_bytes v 1001 1)) (on_two v).hasty_plays (λ e. let z : ◌≡◌ {A = ℕ} 0 1 = cc in omega arith)

pub padding_refuted : (v : Width) → FailsOn padding v
padding_refuted v = two_fails padding v by_one 4 (byte 247) (on_two v).padding_plays (λ e. let z : ◌≡◌ {A = ℕ} 247 248 = cc in omega arith)

-- it opens the region
pub greedy_refuted : (q : Request) (v : Width) → FailsOn (greedy q) v
greedy_refuted q v =
    two_fails (greedy q) v at_once 1 (byte (command v)) ((on_two v).greedy_plays q) (λ e. let z : ◌≡◌ {A = ℕ} 0 1 = cc in omega arith)

pub early_refuted : (count : List ℕ → List ℕ → Session → ℕ) (v : Width) → FailsOn (early count) v
early_refuted count v =
    let x = (on_two v).early_plays count in
    two_fails (early count) v by_one 1 (finished Finish.Dumped x.0) x.1 (λ e. let z : ◌≡◌ {A = ℕ} 0 1 = cc in omega arith)

-- it finishes with 2 memory reads: one for the table and one for the region
pub inventing_refuted : (count : ℕ → ℕ) → (count 2 ≡ 2 → ⊥) → (v : Width) → FailsOn (inventing count) v
inventing_refuted count z v = two_fails (inventing count) v by_one 6 (finished Finish.Dumped (count 2)) ((on_two v).inventing_plays count) (λ e. z cc)

-- ---- three devices more, each for one host

-- two regions of one filename, both empty
abbrev twins : Width → Setting
twins v = small v U.Serial (entry_bytes v 1 1000 0 name ++ entry_bytes v 1 2000 0 name)

abbrev through : List Lent
through = lending (first 24) ∷ lending (first 128) ∷ drive 1 4

-- a region of 512 bytes on USB
abbrev block : Width → Setting
block v = small v U.Usb (entry_bytes v 1 1000 512 name)

abbrev whole : List Lent
whole = lending (first 24) ∷ lending (first 64) ∷ drive 1 2 ++ (lending (first 512) ∷ drive 1 1)

-- a region of a byte more than a chunk
abbrev long : Width → Setting
long v = small v U.Serial (entry_bytes v 1 1000 4097 name)

abbrev asked : List Lent
asked = lending (first 24) ∷ lending (first 64) ∷ drive 1 2

record OnOthers (v : Width) : Type 0 where
  -- the plain host opens the second region, this host closes it
  pub merging_apart : Apart merging (twins v) (entries_at v 2) through 3 (closed 1) (opened 1)
  -- behind the bytes it makes an empty read, this host closes the region
  pub thrifty_apart : Apart thrifty (block v) (entries_at v 1) whole 515 (closed 0) empty_read
  -- it requests 4,096 bytes, this host all
  pub wholesale_apart : Apart wholesale (long v) (entries_at v 1) asked 2 (sent (read_bytes v 1000 4097)) (sent (read_bytes v 1000 4096))

on_others : (v : Width) → OnOthers v
unfolding drive same named_before all_fair plain hosted hear reports_of dump regions chunks chosen step_of limit_of packet_of sized_of whole_of table_of
    between_of next_chunk ask_of hand_of region_of chunk_of open_check after_open_check next_of served well_formed slots_good verdict_of decode_of class_of kinds
    kind_of bytes_of selected before sound has goes_on leads after_first table bytes_at fields le le_bytes
on_others WI.Bits32 =
    record {
      merging_apart =
          record {
            premises = tested (twins WI.Bits32) (entries_at WI.Bits32 2) refl (lit≤ tt) tt;
            plays = record { fair = tt; far = lit≤ tt; played = refl };
            planned = refl;
          };
      thrifty_apart =
          record {
            premises = tested (block WI.Bits32) (entries_at WI.Bits32 1) refl (lit≤ tt) tt;
            plays = record { fair = tt; far = lit≤ tt; played = refl };
            planned = refl;
          };
      wholesale_apart =
          record {
            premises = tested (long WI.Bits32) (entries_at WI.Bits32 1) refl (lit≤ tt) tt;
            plays = record { fair = tt; far = lit≤ tt; played = refl };
            planned = refl;
          };
    }
on_others WI.Bits64 =
    record {
      merging_apart =
          record {
            premises = tested (twins WI.Bits64) (entries_at WI.Bits64 2) refl (lit≤ tt) tt;
            plays = record { fair = tt; far = lit≤ tt; played = refl };
            planned = refl;
          };
      thrifty_apart =
          record {
            premises = tested (block WI.Bits64) (entries_at WI.Bits64 1) refl (lit≤ tt) tt;
            plays = record { fair = tt; far = lit≤ tt; played = refl };
            planned = refl;
          };
      wholesale_apart =
          record {
            premises = tested (long WI.Bits64) (entries_at WI.Bits64 1) refl (lit≤ tt) tt;
            plays = record { fair = tt; far = lit≤ tt; played = refl };
            planned = refl;
          };
    }

pub merging_refuted : (v : Width) → FailsOn merging v
merging_refuted v =
    fails merging (twins v) (entries_at v 2) through 3 (closed 1) (opened 1) (on_others v).merging_apart (λ e. let z : ◌≡◌ {A = ℕ} 0 1 = cc in omega arith)

pub thrifty_refuted : (v : Width) → FailsOn thrifty v
thrifty_refuted v =
    fails thrifty (block v) (entries_at v 1) whole 515 (closed 0) empty_read (on_others v).thrifty_apart (λ e. let z : ◌≡◌ {A = ℕ} 0 1 = cc in omega arith)

reads_differ : (v : Width) → sent (read_bytes v 1000 4097) ≡ sent (read_bytes v 1000 4096) → ⊥
unfolding fields le_bytes
reads_differ WI.Bits32 e = let z : ◌≡◌ {A = ℕ} 1 0 = cc in omega arith
reads_differ WI.Bits64 e = let z : ◌≡◌ {A = ℕ} 1 0 = cc in omega arith

pub wholesale_refuted : (v : Width) → FailsOn wholesale v
wholesale_refuted v =
    fails wholesale (long v) (entries_at v 1) asked 2 (sent (read_bytes v 1000 4097)) (sent (read_bytes v 1000 4096)) (on_others v).wholesale_apart
    (reads_differ v)

-- ---- an empty table, one byte a delivery: 16 or 24 steps for the memory debug, one for the table without a byte, one for the end. (`drive 1 k` of
-- fetch/proofs/Played: k own steps, each lent one byte of the queue at most)

abbrev pub empty_table : Width → Setting
empty_table v = small v U.Serial []

abbrev pub least : Width → ℕ
least WI.Bits32 = 18
least WI.Bits64 = 26

pub record Tight (v : Width) (k : ℕ) : Type 0 where
  pub premises : Premises (empty_table v) (entries_at v 0)
  pub enough : enough (empty_table v) (entries_at v 0) ≡ k
  -- the plain host sends the memory read and finishes
  pub planned : plain (empty_table v) ≡ sent (read_bytes v 0 0) ∷ finished Finish.Dumped 1 ∷ []
  -- the host of the definitions: the whole after so many steps, and not before
  pub before : reports definitions (empty_table v) (start definitions (empty_table v)) (drive 1 (k - 1)) ≡ sent (read_bytes v 0 0) ∷ []
  pub all : reports definitions (empty_table v) (start definitions (empty_table v)) (drive 1 k) ≡ plain (empty_table v)

-- the count of 01 cannot be less
pub tight : (v : Width) → Tight v (least v)
unfolding enough region_bytes region_reads drive plain hosted hear reports_of dump regions chosen step_of limit_of packet_of sized_of whole_of table_of between_of
    chunk_of next_of served well_formed slots_good verdict_of decode_of class_of kinds kind_of bytes_of bytes_at fields le le_bytes
tight WI.Bits32 =
    record {
      premises = tested (empty_table WI.Bits32) (entries_at WI.Bits32 0) refl (lit≤ tt) tt;
      enough = refl;
      planned = refl;
      before = refl;
      all = refl;
    }
tight WI.Bits64 =
    record {
      premises = tested (empty_table WI.Bits64) (entries_at WI.Bits64 0) refl (lit≤ tt) tt;
      enough = refl;
      planned = refl;
      before = refl;
      all = refl;
    }

pub one_fewer : (v : Width) → reports definitions (empty_table v) (start definitions (empty_table v)) (drive 1 (least v - 1)) ≡ plain (empty_table v) → ⊥
one_fewer v e =
    let z : ◌≡◌ {A = ℕ} 1 2 = ap length (sym (tight v).before ∙ e ∙ (tight v).planned) in
    omega arith

-- ---- only says go: its report is empty after any list, and the plain host's is not

idle_silent : (v : Width) (ls : List Lent) (w : World Session) → reports idle (empty_table v) w ls ≡ []
idle_silent v [] w = refl
idle_silent v (l ∷ ls) w = idle_silent v ls (next idle (empty_table v) w l)

pub idle_refuted : (v : Width) → FailsOn idle v
idle_refuted v =
    let c : Setting = empty_table v in
    let w : World Session = start idle c in
    let k : ℕ = least v in
    record {
      c = c;
      dbg = entries_at v 0;
      width = refl;
      premises = (tight v).premises;
      ls = drive 1 k;
      fair = drive_fair idle c 1 k w (lit≤ tt);
      unlike =
          λ f.
          let e = f.whole (omega (arith, (tight v).enough, drive_owns idle c 1 k w)) in
          let z : ◌≡◌ {A = ℕ} 0 2 = ap length (sym (idle_silent v (drive 1 k) w) ∙ e ∙ (tight v).planned) in
          omega arith;
    }
