-- What a session is opened with. Document 01, "Session": "Opened with mode, command or none, backend".
use Rattle.command.specs.declared.SaharaMode.{SaharaMode}
use Rattle.verdict.specs.declared.QdlBackend.{QdlBackend}
use Rattle.verdict.specs.declared.Opening.{Opening}
use Rattle.std.specs.Prelude.{Option}
use Rattle.command.specs.declared.SaharaCmdModeCmd.{SaharaCmdModeCmd}

abbrev pub opening : SaharaMode → Option SaharaCmdModeCmd → QdlBackend → Opening
opening m c b = record { mode = m; command = c; backend = b }
