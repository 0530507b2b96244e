-- The theorem is about something: a device of either width that is not true, no delivery being of its queue; divided deliveries; steps lent another's image
-- set, reply and out buffer, and steps refused that are lent other names and another table. The forecast, computed; the premises, met, where the table is
-- decoded between regions and in one; what the list reports, computed; and so the claim. Assumes nothing.
use mathlib.Core.Path.{◌≡◌, refl}
use mathlib.Core.Logic.{inl, inr}
use mathlib.Core.List.{List, [], ◌∷◌, ◌++◌, map}
use Prim.Native.Nat.{ℕ}
use Rattle.std.specs.Prelude.{Ok}
use lib.ListN.{take, drop, replicate}
use Rattle.field.specs.Field.{le, le_bytes, field_size, fields, words}
use Rattle.field.specs.declared.Width.{Width}
use Rattle.field.specs.declared.Width.TheVariants as WI
use Rattle.bundle.specs.Bundle.{slots_good, well_formed, slot_of}
use Rattle.entry.specs.Entry.{entry_in, entries_from}
use Rattle.entry.specs.declared.RamdumpTable64.{RamdumpTable64}
use Rattle.filename.specs.Filename.{before, has, stem_of, open_check, after_open_check}
use Rattle.utf8.specs.Utf8.{table, leads, after_first, goes_on}
use Rattle.selection.specs.Selection.{low, names_from, same, member, selected, next_of}
use Rattle.command.specs.Command.{kinds, class_of}
use Rattle.packet.specs.Packet.{kind_of, decode_of}
use Rattle.build.specs.Build.{bytes_of}
use Rattle.verdict.specs.Opening.{chunk_of}
use Rattle.verdict.specs.Verdict.{verdict_of}
use Rattle.verdict.specs.declared.QdlBackend.TheVariants as U
use Rattle.verdict.specs.declared.Finish.TheVariants as Finish
use Rattle.forecast_sums.specs.Forecast.{is_selected, selected_of, summed, needs, forecast_of}
use Rattle.session.specs.PacketPhase.{whole_of, sized_of, packet_of}
use Rattle.session.specs.FillingPhase.{table_of}
use Rattle.session.specs.BetweenPhase.{between_of}
use Rattle.session.specs.RegionPhase.{next_chunk, ask_of, hand_of, region_of}
use Rattle.session.specs.Limits.{limit_of}
use Rattle.session.specs.Step.{step_of}
use Rattle.steps.specs.Steps.{final, Throughout}
use Rattle.fetch.specs.Plain.{Report, sent, opened, byte, closed, finished, Setting}
use Rattle.fetch.specs.Device.{definitions, own, other, another, Lent, served, start, next}
use Rattle.fetch.specs.Claim.{reports}
use Rattle.fetch.specs.Meaning.{how_many}
use Rattle.fetch_shown.proofs.Example.{debug_bytes, read_bytes, entry_bytes, ocimem, bin, on}
use Rattle.fetch_forecast.specs.Claim.{Decodes, Lends, Comes}
use Rattle.fetch_forecast.proofs.Theorem.{foretold}

-- a region of 5 bytes; one that is preferred, and that the name does not select; one of no byte. Behind them 3 bytes that are no entry
abbrev pub table_bytes : Width → List ℕ
table_bytes v = entry_bytes v 0 1000 5 (ocimem ++ bin) ++ (entry_bytes v 1 2000 7 bin ++ (entry_bytes v 0 3000 0 (ocimem ++ bin) ++ (1 ∷ 2 ∷ 3 ∷ [])))

-- 3 * 52 + 3, 3 * 64 + 3
abbrev pub table_size : Width → ℕ
table_size WI.Bits32 = 159
table_size WI.Bits64 = 195

-- no image; the name "ocimem"; a table buffer longer than the table by more than an entry; nothing is queued at first
abbrev pub board : Setting
board =
    record {
      opening = on U.Usb;
      set = replicate 8 0;
      names = words (1 ∷ 6 ∷ 0 ∷ 6 ∷ []) ++ map low ocimem;
      table = replicate 300 0;
      reply = [];
      out = replicate 48 0;
      bytes = [];
      mem = λ a. 0;
    }

-- lent the run's own things, and these bytes
abbrev given : List ℕ → Lent
given d = record { delivery = another d; set = own; names = own; table = own; reply = own; out = own }

-- lent an image set, a reply and an out buffer of another's
abbrev among : List ℕ → Lent
among d = record { delivery = another d; set = other (replicate 8 0); names = own; table = own; reply = other []; out = other (replicate 48 1) }

-- the memory debug in two parts, the table in three
abbrev pub first_steps : Width → List Lent
first_steps v =
    given (take 5 (debug_bytes v 0 (table_size v)))
    ∷ among (drop 5 (debug_bytes v 0 (table_size v)))
    ∷ given (take 50 (table_bytes v))
    ∷ record { delivery = another (1 ∷ []); set = own; names = other (9 ∷ []); table = own; reply = own; out = own }
    ∷ among (take 100 (drop 50 (table_bytes v)))
    ∷ given (drop 150 (table_bytes v))
    ∷ []

-- open; its read; 3 bytes; 2 of 4; close; another table buffer, too short, is refused (18); open, close; finished (3); a step behind the end is refused (4)
abbrev pub last_steps : List Lent
last_steps =
    given []
    ∷ among []
    ∷ among (7 ∷ 8 ∷ 9 ∷ [])
    ∷ given (7 ∷ 8 ∷ 9 ∷ 10 ∷ [])
    ∷ given []
    ∷ record { delivery = another []; set = own; names = other (replicate 8 0); table = other []; reply = own; out = own }
    ∷ given []
    ∷ given []
    ∷ given []
    ∷ record { delivery = another []; set = own; names = other (replicate 8 0); table = other []; reply = own; out = own }
    ∷ []

abbrev pub told : Width → List Report
told v =
    sent (read_bytes v 0 (table_size v))
    ∷ opened 0
    ∷ sent (read_bytes v 1000 5)
    ∷ byte 7
    ∷ byte 8
    ∷ byte 9
    ∷ byte 7
    ∷ byte 8
    ∷ closed 0
    ∷ opened 2
    ∷ closed 2
    ∷ []

-- ---- each premise, computed

abbrev pub entries : Width → List RamdumpTable64
entries v = entry_in (field_size v) (table_bytes v) 0 ∷ entry_in (field_size v) (table_bytes v) 1 ∷ entry_in (field_size v) (table_bytes v) 2 ∷ []

-- not refused and the run's own names and table; or refused
abbrev pub Fits : Width → Type 0
Fits v = Throughout (next definitions board) (Lends definitions board) (start definitions board) (first_steps v ++ last_steps)

pub fit : (v : Width) → Fits v
unfolding step_of limit_of packet_of sized_of whole_of table_of between_of next_chunk ask_of hand_of region_of chunk_of open_check after_open_check
    next_of served well_formed slots_good slot_of verdict_of decode_of class_of kinds kind_of bytes_of selected stem_of before low names_from
    same member has goes_on leads after_first table fields le le_bytes
fit WI.Bits32 = (
  inr (tt, tt),
  (
    inr (tt, tt),
    (
      inr (tt, tt),
      (
        inl tt,
        (
          inr (tt, tt),
          (
            inr (tt, tt),
            (
              inr (tt, tt),
              (
                inr (tt, tt),
                (
                  inr (tt, tt),
                  (
                    inr (tt, tt),
                    (inr (tt, tt), (inl tt, (inr (tt, tt), (inr (tt, tt), (inr (tt, tt), (inl tt, tt)))))),
                  ),
                ),
              ),
            ),
          ),
        ),
      ),
    ),
  ),
)
fit WI.Bits64 = (
  inr (tt, tt),
  (
    inr (tt, tt),
    (
      inr (tt, tt),
      (
        inl tt,
        (
          inr (tt, tt),
          (
            inr (tt, tt),
            (
              inr (tt, tt),
              (
                inr (tt, tt),
                (
                  inr (tt, tt),
                  (
                    inr (tt, tt),
                    (inr (tt, tt), (inl tt, (inr (tt, tt), (inr (tt, tt), (inr (tt, tt), (inl tt, tt)))))),
                  ),
                ),
              ),
            ),
          ),
        ),
      ),
    ),
  ),
)

-- behind some of the steps
abbrev pub DecodedBehind : Width → List Lent → Type 0
DecodedBehind v ls =
    let w = final (next definitions board) (start definitions board) ls in
    Decodes w.state w.table (entries v)

pub decoded : (v : Width) → DecodedBehind v (first_steps v)
unfolding step_of limit_of packet_of sized_of whole_of table_of between_of next_chunk ask_of hand_of region_of chunk_of open_check after_open_check
    next_of served well_formed slots_good slot_of verdict_of decode_of class_of kinds kind_of bytes_of selected stem_of before low names_from
    same member has goes_on leads after_first table fields le le_bytes entries_from
decoded WI.Bits32 = refl
decoded WI.Bits64 = refl

-- in the first region, when some of its bytes came
pub decoded_inside : (v : Width) → DecodedBehind v (first_steps v ++ take 3 last_steps)
unfolding step_of limit_of packet_of sized_of whole_of table_of between_of next_chunk ask_of hand_of region_of chunk_of open_check after_open_check
    next_of served well_formed slots_good slot_of verdict_of decode_of class_of kinds kind_of bytes_of selected stem_of before low names_from
    same member has goes_on leads after_first table fields le le_bytes entries_from
decoded_inside WI.Bits32 = refl
decoded_inside WI.Bits64 = refl

-- two regions, 5 bytes, two memory reads
pub forecast : (v : Width) → forecast_of (chunk_of board.opening) (entries v) board.names ≡ Ok (needs 2 5 2)
unfolding forecast_of is_selected selected_of summed chunk_of well_formed slots_good slot_of stem_of before low names_from same member has goes_on leads after_first table
    fields le le_bytes
forecast WI.Bits32 = refl
forecast WI.Bits64 = refl

pub reported : (v : Width) → reports definitions board (start definitions board) (first_steps v ++ last_steps) ≡ told v ++ (finished Finish.Dumped 2 ∷ [])
unfolding step_of limit_of packet_of sized_of whole_of table_of between_of next_chunk ask_of hand_of region_of chunk_of open_check after_open_check
    next_of served well_formed slots_good slot_of verdict_of decode_of class_of kinds kind_of bytes_of selected stem_of before low names_from
    same member has goes_on leads after_first table fields le le_bytes
reported WI.Bits32 = refl
reported WI.Bits64 = refl

-- ---- so the claim

claimed : (v : Width) → Comes 2 5 2 2 (reports definitions board (start definitions board) (first_steps v ++ last_steps))
claimed v = foretold board (first_steps v) last_steps (fit v) (entries v) (decoded v) 2 5 2 (forecast v) (told v) [] 2 (reported v)

claimed_inside : (v : Width) → Comes 2 5 2 2 (reports definitions board (start definitions board) (first_steps v ++ last_steps))
claimed_inside v =
    foretold board (first_steps v ++ take 3 last_steps) (drop 3 last_steps) (fit v) (entries v) (decoded_inside v) 2 5 2 (forecast v) (told v) [] 2 (reported v)

-- as the report itself says
counted : (v : Width) → Comes 2 5 2 2 (told v ++ (finished Finish.Dumped 2 ∷ []))
unfolding how_many
counted v = record { regions_are = refl; bytes_are = refl; reads_are = refl }
