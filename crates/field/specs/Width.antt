-- The widths of a memory debug by their bits (document 02, request 2), by which they cross to C.
use Rattle.std.specs.Prelude.{ℕ, Result, Ok, Err, eqb}
use Rattle.base.specs.Choice.{pick}
use Rattle.field.specs.declared.NoWidth.{NoWidth}
use Rattle.field.specs.declared.Width.{Width}
use Rattle.field.specs.declared.Width.TheVariants as WI

abbrev pub width_number : Width → ℕ
width_number WI.Bits32 = 32
width_number WI.Bits64 = 64

abbrev pub no_width : NoWidth
no_width = record {}

-- the width of a number of bits; any other number names none
abbrev pub width_named : ℕ → Result Width NoWidth
width_named n = pick (eqb n (width_number WI.Bits32)) (Ok WI.Bits32) (pick (eqb n (width_number WI.Bits64)) (Ok WI.Bits64) (Err no_width))
