-- `utf8::valid` meets its contract. The constants' rule is computed at all 256 bytes, where they are lent. Assumes nothing.
use Rattle.utf8.specs.Utf8.{table, leads, after_first}
use Rattle.utf8.specs.Classes.{lead_of, class_of}
use Rattle.utf8.proofs.Computed.{rule_of}
use Rattle.utf8.proofs.valid.Goals as goal

pub sequences-requires : goal.sequences-requires
unfolding class_of lead_of table leads after_first
sequences-requires c = rule_of _ _ tt
