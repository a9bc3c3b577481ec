use Rattle.std.proofs.Common.{◌∙◌}
use Rattle.cfi_starts.proofs.Targets.{search_finds}
use Rattle.cfi_starts.proofs.lines.is_among.Goals as goal

pub returns : goal.returns
returns c =
    c.is_ok.ensures.value ∙ search_finds c.args.targets.now c.args.address c.binary_search.result c.requires c.binary_search.ensures.position
