-- The backends by their numbers, by which they cross to C.
use Rattle.std.specs.Prelude.{ℕ, Result, Ok, Err, eqb}
use Rattle.base.specs.Choice.{pick}
use Rattle.verdict.specs.declared.NoBackend.{NoBackend}
use Rattle.verdict.specs.declared.QdlBackend.{QdlBackend}
use Rattle.verdict.specs.declared.QdlBackend.TheVariants as U

abbrev pub backend_number : QdlBackend → ℕ
backend_number U.Serial = 0
backend_number U.Usb = 1

abbrev pub no_backend : NoBackend
no_backend = record {}

-- the backend of a number; any other number names none
abbrev pub backend_named : ℕ → Result QdlBackend NoBackend
backend_named n = pick (eqb n (backend_number U.Serial)) (Ok U.Serial) (pick (eqb n (backend_number U.Usb)) (Ok U.Usb) (Err no_backend))
