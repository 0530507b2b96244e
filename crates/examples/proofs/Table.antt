-- Every example of the table holds: by computation, the definitions opened. Assumes nothing.
use mathlib.Core.List.{◌++◌}
use lib.Dec.{T}
use Rattle.field.specs.Field.{le, le_bytes, fields}
use Rattle.command.specs.Command.{mode_of, kinds, unimplemented, class_of}
use Rattle.packet.specs.Packet.{kind_of, decode_of}
use Rattle.build.specs.Build.{bytes_of}
use Rattle.bundle.specs.Bundle.{slots_good, well_formed, slot_of}
use Rattle.writer.specs.Writer.{data_of, starts_from, bundle_bytes}
use Rattle.tidied.specs.Tidy.{first_contents, tidy_len_of, tidy_of}
use Rattle.image.specs.Image.{range_of}
use Rattle.utf8.specs.Utf8.{table as rows3-7, leads, after_first, goes_on}
use Rattle.filename.specs.Filename.{before, has, stem_of, open_check, after_open_check}
use Rattle.selection.specs.Selection.{low, names_from, same, member, selected, next_of}
use Rattle.verdict.specs.Opening.{chunk_of}
use Rattle.verdict.specs.Verdict.{verdict_of}
use Rattle.session.specs.FillingPhase.{response_of}
use Rattle.session.specs.BetweenPhase.{between_of}
use Rattle.session.specs.RegionPhase.{next_chunk, ask_of, hand_of, region_of}
use Rattle.session.specs.Limits.{limit_of}
use Rattle.session.specs.Step.{step_of}
use Rattle.examples.specs.Rows.{rows, mode_one, old_boards, trailing, all}

pub table : T (all (rows ++ (mode_one ++ (old_boards ++ trailing))))
unfolding rows mode_one old_boards trailing le le_bytes mode_of kinds unimplemented class_of kind_of decode_of fields bytes_of slots_good well_formed slot_of
    data_of starts_from bundle_bytes first_contents tidy_len_of tidy_of range_of rows3-7 leads after_first goes_on before stem_of low names_from same member
    selected verdict_of response_of has open_check after_open_check next_of chunk_of between_of next_chunk ask_of hand_of region_of limit_of step_of
table = tt
