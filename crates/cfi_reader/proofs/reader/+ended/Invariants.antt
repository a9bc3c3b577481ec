use Rattle.std.proofs.Common.{◌-◌}
use Rattle.cfi_reader.proofs.reader.+ended.Given as goal

abbrev pub decreases-ended : goal.decreases-ended
decreases-ended l = 129 - l.node
