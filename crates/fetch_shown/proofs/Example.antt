-- The claim is about something. Deliveries of every size lead to the whole (`driven`). By computation: devices are covered, one that comes to a memory
-- debug of either width on both backends and three that do not, and a list of odd deliveries and of steps refused, lent some of the run's own things and
-- some others, runs on it, with its whole report. Assumes nothing.
use mathlib.Core.Path.{◌≡◌, refl, ◌∙◌}
use mathlib.Core.List.{List, [], ◌∷◌, ◌++◌, map}
use Prim.Native.Nat.{ℕ, ◌+◌, ◌-◌, ◌*◌, ◌%◌, ◌^◌, ◌≤◌}
use native.Mathlib.Omega.{arith}
use lib.Dec.{ltb, lit≤, T}
use lib.ListN.{take, get_or, replicate}
use Rattle.base.specs.Choice.{pick}
use Rattle.field.specs.Field.{le, le_bytes, field_size, fields, words}
use Rattle.field.specs.declared.Width.{Width}
use Rattle.field.specs.declared.Width.TheVariants as WI
use Rattle.utf8.specs.Utf8.{table, leads, after_first, goes_on}
use Rattle.bundle.specs.Bundle.{slots_good, well_formed, slot_of}
use Rattle.filename.specs.Filename.{before, has, stem_of, open_check, after_open_check, sound}
use Rattle.selection.specs.Selection.{low, names_from, same, member, selected, next_of}
use Rattle.command.specs.Command.{mode_of, kinds, unimplemented, class_of}
use Rattle.command.specs.declared.SaharaMode.TheVariants as M
use Rattle.packet.specs.Packet.{kind_of, decode_of}
use Rattle.build.specs.Build.{bytes_of}
use Rattle.build.specs.declared.Request.TheVariants as Q
use Rattle.verdict.specs.Opening.{chunk_of, on_usb}
use Rattle.verdict.specs.Verdict.{verdict_of}
use Rattle.verdict.specs.declared.QdlBackend.{QdlBackend}
use Rattle.verdict.specs.declared.QdlBackend.TheVariants as U
use Rattle.verdict.specs.declared.Opening.{Opening}
use Rattle.verdict.specs.declared.Finish.TheVariants as Finish
use Rattle.session.specs.PacketPhase.{whole_of, sized_of, packet_of}
use Rattle.session.specs.FillingPhase.{table_of}
use Rattle.session.specs.BetweenPhase.{between_of}
use Rattle.session.specs.RegionPhase.{next_chunk, ask_of, hand_of, region_of}
use Rattle.session.specs.Limits.{limit_of}
use Rattle.session.specs.Step.{step_of}
use Rattle.fetch.specs.Plain.{
  Report,
  sent,
  image,
  opened,
  byte,
  closed,
  finished,
  bytes_at,
  Debug,
  debug,
  Stopped,
  hear,
  hosted,
  chosen,
  empty_if,
  chunks,
  regions,
  dump,
  reports_of,
  Setting,
  heard_of,
  plain,
}
use Rattle.fetch.specs.Device.{definitions, own, other, first, another, Lent, served, start}
use Rattle.fetch.specs.Claim.{Run, reports, region_bytes, region_reads, enough, Premises, Covered, dumps, stops, enough_for}
use Rattle.fetch.proofs.Played.{lending, drive, drive_fair, drive_owns, all_fair, played_fair, tested}
use Rattle.fetch.proofs.Theorem.{fetch}
use Rattle.std.specs.Prelude.{None}

-- ---- deliveries of every size lead to the plain host's whole report

pub driven : (c : Setting) (x : Covered c) (m : ℕ) → 1 ≤ m
    → reports definitions c (start definitions c) (drive m (enough_for c x)) ≡ plain c
driven c x m e =
    let k : ℕ = enough_for c x in
    (fetch c x (drive m k) (drive_fair definitions c m k (start definitions c) e)).whole
    (omega (arith, drive_owns definitions c m k (start definitions c)))

-- ---- a device of either width

-- a memory debug and a memory read as the documents write them: MemDebug (9) and MemRead (0x0a), MemDebug64 (0x10) and MemRead64 (0x11)
abbrev pub debug_bytes : Width → ℕ → ℕ → List ℕ
debug_bytes WI.Bits32 a k = words (9 ∷ 16 ∷ a ∷ k ∷ [])
debug_bytes WI.Bits64 a k = words (0x10 ∷ 24 ∷ []) ++ fields 8 (a ∷ k ∷ [])

abbrev pub read_bytes : Width → ℕ → ℕ → List ℕ
read_bytes WI.Bits32 a k = words (0x0a ∷ 16 ∷ a ∷ k ∷ [])
read_bytes WI.Bits64 a k = words (0x11 ∷ 24 ∷ []) ++ fields 8 (a ∷ k ∷ [])

-- an entry, its name filled up with zeros
abbrev pub entry_bytes : Width → ℕ → ℕ → ℕ → List ℕ → List ℕ
entry_bytes v pref base len name = fields (field_size v) (pref ∷ base ∷ len ∷ []) ++ (replicate 20 0 ++ take 20 (name ++ replicate 20 0))

-- "OCIMEM", "DDRCS0" and ".BIN"; the same lowered
abbrev pub ocimem : List ℕ
ocimem = 0x4F ∷ 0x43 ∷ 0x49 ∷ 0x4D ∷ 0x45 ∷ 0x4D ∷ []

abbrev ddrcs0 : List ℕ
ddrcs0 = 0x44 ∷ 0x44 ∷ 0x52 ∷ 0x43 ∷ 0x53 ∷ 0x30 ∷ []

abbrev pub bin : List ℕ
bin = 0x2E ∷ 0x42 ∷ 0x49 ∷ 0x4E ∷ []

-- 3 bytes below the end of the memory, 2^32 or 2^64
abbrev high : Width → ℕ
high v = 256 ^ field_size v - 3

-- four entries at 0: a region longer than a chunk; one that no name selects (zeros belong to its stem) and that ends behind the memory; one of length 0;
-- and one that ends with the memory. Behind them 5 bytes that are no entry
abbrev entries : Width → List ℕ
entries v =
    entry_bytes v 0 1000 5000 (ocimem ++ bin)
    ++ (entry_bytes v 1 (high v) 7 ddrcs0 ++ (entry_bytes v 0 70000 0 (ddrcs0 ++ bin) ++ (entry_bytes v 0 (high v) 3 (ocimem ++ bin) ++ replicate 5 1)))

-- their bytes: 4 * 52 + 5, 4 * 64 + 5
abbrev table_size : Width → ℕ
table_size WI.Bits32 = 213
table_size WI.Bits64 = 261

-- Hello, ReadData of 2 bytes from 1 on of image 7, EndOfImage, a memory debug of the table at 0
abbrev opening_bytes : Width → List ℕ
opening_bytes v =
    words (1 ∷ 48 ∷ 2 ∷ 1 ∷ 0 ∷ 2 ∷ 0 ∷ 0 ∷ 0 ∷ 0 ∷ 0 ∷ 0 ∷ [])
    ++ (words (3 ∷ 20 ∷ 7 ∷ 1 ∷ 2 ∷ []) ++ (words (4 ∷ 16 ∷ 7 ∷ 0 ∷ []) ++ debug_bytes v 0 (table_size v)))

abbrev pub on : QdlBackend → Opening
on b = record { mode = M.MemoryDebug; command = None; backend = b }

-- the table, and computed bytes behind it; one image of 3 bytes; the names "ocimem" and "ddrcs0"; a table buffer of its size, no reply buffer, 48 bytes out
abbrev device : Width → QdlBackend → Setting
device v b =
    record {
      opening = on b;
      set = words (1 ∷ 3 ∷ 0 ∷ 3 ∷ []) ++ (10 ∷ 11 ∷ 12 ∷ []);
      names = words (2 ∷ 12 ∷ 0 ∷ 6 ∷ 6 ∷ 6 ∷ []) ++ (map low ocimem ++ map low ddrcs0);
      table = replicate (table_size v) 0;
      reply = [];
      out = replicate 48 0;
      bytes = opening_bytes v;
      mem = λ a. pick (ltb a (table_size v)) (get_or (entries v) a 0) (a % 251);
    }

abbrev dbg : Width → Debug
dbg v = debug v 0 (table_size v)

-- ---- it meets the premises

premises : (v : Width) (b : QdlBackend) → Premises (device v b) (dbg v)
unfolding hosted hear well_formed slots_good slot_of verdict_of decode_of class_of kinds kind_of mode_of selected stem_of before low names_from same member sound has goes_on
    leads after_first table bytes_at fields le le_bytes
premises WI.Bits32 b = tested (device WI.Bits32 b) (dbg WI.Bits32) refl (lit≤ tt) tt
premises WI.Bits64 b = tested (device WI.Bits64 b) (dbg WI.Bits64) refl (lit≤ tt) tt

-- opening bytes, the table's, 5,003 of regions; three regions; four memory reads
abbrev count : Width → ℕ
count WI.Bits32 = 100 + 213 + 5003 + 2 * 3 + 2 * 4
count WI.Bits64 = 108 + 261 + 5003 + 2 * 3 + 2 * 4

steps : (v : Width) (b : QdlBackend) → enough (device v b) (dbg v) ≡ count v
unfolding enough region_bytes region_reads chunk_of chosen selected stem_of before low names_from slot_of same member has goes_on leads after_first table
    bytes_at fields le le_bytes
steps WI.Bits32 b = refl
steps WI.Bits64 b = refl

-- ---- a list of steps

-- own steps, and between them steps refused: 1 and all lent is another's; 2 and the names alone are; 18 for a table buffer, 3 for an out buffer that is
-- another's and too short, with the queue's own bytes delivered; 18 again; once ended 4, lent the run's own things and bytes that nobody queued
abbrev moves : List Lent
moves =
    lending (first 5)
    ∷ record { delivery = another (1 ∷ 2 ∷ 3 ∷ []); set = other []; names = other []; table = other []; reply = other []; out = other [] }
    ∷ lending (first 2)
    ∷ lending (first 1)
    ∷ lending (first 100)
    ∷ lending (first 19)
    ∷ record { delivery = first 7; set = own; names = other (9 ∷ []); table = own; reply = own; out = own }
    ∷ lending (first 1)
    ∷ lending (first 100)
    ∷ lending (first 100)
    ∷ lending (first 191)
    ∷ record { delivery = first 1; set = own; names = own; table = other (replicate 191 0); reply = own; out = own }
    ∷ lending (first 5000)
    ∷ lending (first 1)
    ∷ lending (first 1)
    ∷ lending (first 1000)
    ∷ record { delivery = first 4; set = own; names = own; table = own; reply = other (1 ∷ []); out = other (replicate 47 0) }
    ∷ lending (first 3)
    ∷ lending (first 5000)
    ∷ record { delivery = another []; set = own; names = own; table = other []; reply = own; out = own }
    ∷ lending (first 1)
    ∷ lending (first 1)
    ∷ lending (first 904)
    ∷ lending (first 1)
    ∷ lending (first 1)
    ∷ lending (first 1)
    ∷ lending (first 1)
    ∷ lending (first 1)
    ∷ lending (first 2)
    ∷ lending (first 2)
    ∷ lending (first 1)
    ∷ lending (first 1)
    ∷ lending (another (1 ∷ 2 ∷ []))
    ∷ []

each : (v : Width) (b : QdlBackend) → T (all_fair definitions (device v b) moves (start definitions (device v b)))
unfolding all_fair step_of limit_of packet_of sized_of whole_of table_of between_of next_chunk ask_of hand_of region_of chunk_of open_check after_open_check
    next_of served well_formed slots_good slot_of verdict_of decode_of class_of kinds kind_of mode_of bytes_of selected stem_of before low names_from
    same member has goes_on leads after_first table bytes_at fields le le_bytes
each WI.Bits32 U.Serial = tt
each WI.Bits32 U.Usb = tt
each WI.Bits64 U.Serial = tt
each WI.Bits64 U.Usb = tt

-- the list is fair, of both widths on both backends
fair : (v : Width) (b : QdlBackend) → Run definitions (device v b) (start definitions (device v b)) moves
fair v b = played_fair definitions (device v b) moves (start definitions (device v b)) (each v b)

-- ---- what is reported

-- on USB an empty read comes after the first chunk: 4,096 is a multiple of 512, and 904 is not
abbrev told : Width → QdlBackend → List Report
told v b =
    sent (bytes_of (Q.HelloResp M.MemoryDebug))
    ∷ image (11 ∷ 12 ∷ [])
    ∷ sent (bytes_of Q.Done)
    ∷ sent (read_bytes v 0 (table_size v))
    ∷ opened 0
    ∷ sent (read_bytes v 1000 4096)
    ∷ (map byte (bytes_at (device v b).mem 1000 4096)
    ++ (empty_if (on_usb (on b))
    ++ (sent (read_bytes v 5096 904)
    ∷ (map byte (bytes_at (device v b).mem 5096 904)
    ++ (closed 0
    ∷ opened 2
    ∷ closed 2
    ∷ opened 3
    ∷ sent (read_bytes v (high v) 3)
    ∷ (map byte (bytes_at (device v b).mem (high v) 3) ++ (closed 3 ∷ finished Finish.Dumped 4 ∷ [])))))))

-- by the list of steps
played : (v : Width) (b : QdlBackend) → reports definitions (device v b) (start definitions (device v b)) moves ≡ told v b
unfolding step_of limit_of packet_of sized_of whole_of table_of between_of next_chunk ask_of hand_of region_of chunk_of open_check after_open_check
    next_of served well_formed slots_good slot_of verdict_of decode_of class_of kinds kind_of mode_of bytes_of selected stem_of before low names_from
    same member has goes_on leads after_first table bytes_at fields le le_bytes
played WI.Bits32 U.Serial = refl
played WI.Bits32 U.Usb = refl
played WI.Bits64 U.Serial = refl
played WI.Bits64 U.Usb = refl

-- by the plain host
planned : (v : Width) (b : QdlBackend) → plain (device v b) ≡ told v b
unfolding plain hosted hear reports_of dump regions chunks chosen chunk_of well_formed slots_good slot_of verdict_of decode_of class_of kinds kind_of
    mode_of bytes_of selected stem_of before low names_from same member goes_on leads after_first table bytes_at fields le le_bytes
planned WI.Bits32 U.Serial = refl
planned WI.Bits32 U.Usb = refl
planned WI.Bits64 U.Serial = refl
planned WI.Bits64 U.Usb = refl

-- and so by deliveries of every size
any_size : (v : Width) (b : QdlBackend) (m : ℕ) → 1 ≤ m
    → reports definitions (device v b) (start definitions (device v b)) (drive m (enough (device v b) (dbg v))) ≡ told v b
any_size v b m e = driven (device v b) (dumps (dbg v) (premises v b)) m e ∙ planned v b

-- ---- devices that come to no memory debug: one that is done, with two bytes behind it that are no Sahara any more; one whose packet is refused (an unknown
-- command); one that is cut short

abbrev loader : List ℕ → Setting
loader rest =
    record {
      opening = on U.Usb;
      set = words (1 ∷ 3 ∷ 0 ∷ 3 ∷ []) ++ (10 ∷ 11 ∷ 12 ∷ []);
      names = replicate 8 0;
      table = [];
      reply = [];
      out = replicate 48 0;
      bytes = words (3 ∷ 20 ∷ 7 ∷ 1 ∷ 2 ∷ []) ++ rest;
      mem = λ a. 0;
    }

abbrev done : List ℕ
done = words (6 ∷ 12 ∷ 1 ∷ []) ++ (1 ∷ 2 ∷ [])

abbrev unknown : List ℕ
unknown = words (99 ∷ 8 ∷ [])

abbrev cut : List ℕ
cut = 6 ∷ 0 ∷ 0 ∷ []

record Loads (rest : List ℕ) (n : ℕ) (l : List Report) : Type 0 where
  pub covered : (heard_of (loader rest)).ending ≡ Stopped
  pub steps : enough_for (loader rest) (stops covered) ≡ n
  pub planned : plain (loader rest) ≡ l

done_loads : Loads done 34 (image (11 ∷ 12 ∷ []) ∷ finished Finish.ImagesSent 0 ∷ [])
unfolding plain hosted hear reports_of dump well_formed slots_good slot_of verdict_of decode_of class_of kinds kind_of fields le le_bytes
done_loads = record { covered = refl; steps = refl; planned = refl }

unknown_loads : Loads unknown 28 (image (11 ∷ 12 ∷ []) ∷ [])
unfolding plain hosted hear reports_of dump well_formed slots_good slot_of verdict_of decode_of class_of kinds kind_of unimplemented fields le le_bytes
unknown_loads = record { covered = refl; steps = refl; planned = refl }

cut_loads : Loads cut 23 (image (11 ∷ 12 ∷ []) ∷ [])
unfolding plain hosted hear reports_of dump well_formed slots_good slot_of verdict_of decode_of class_of kinds kind_of fields le le_bytes
cut_loads = record { covered = refl; steps = refl; planned = refl }

any_load : (rest : List ℕ) (n : ℕ) (l : List Report) → Loads rest n l → (m : ℕ) → 1 ≤ m
    → reports definitions (loader rest) (start definitions (loader rest)) (drive m n) ≡ l
any_load rest n l x m e = rw (← x.steps) (driven (loader rest) (stops x.covered) m e) ∙ x.planned
