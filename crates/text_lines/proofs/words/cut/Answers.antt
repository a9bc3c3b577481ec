use Rattle.std.proofs.Common.{sym}
use Rattle.std.proofs.lemmas.List.{take_rest}
use Rattle.text_lines.proofs.Cuts.{cut_at, cut_none}
use Rattle.text_lines.proofs.words.cut.Goals as goal

pub returns-in-Some-clause-parts : goal.returns-in-Some-clause-parts
returns-in-Some-clause-parts c = rw take_rest (cut_at _ _ _ (sym c.in-Some.ensures.at))

pub returns-in-None-clause-parts : goal.returns-in-None-clause-parts
returns-in-None-clause-parts c = cut_none _ _ (sym c.in-None.ensures.at)
