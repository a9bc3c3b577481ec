use Rattle.obj_join.proofs.Finding as finding
use Rattle.obj_join.proofs.laws.names_find_symbols.Goals as goal

pub returns : goal.returns
returns c = finding.names_find_symbols
