use Rattle.text_lines.proofs.Whole.{goes_on, stops}
use Rattle.cfi_graph.proofs.read.with_code.Goals as goal

pub returns-in-Err : goal.returns-in-Err
returns-in-Err c = stops _ c.in-Err.end _ c.in-Err.ensures.told

pub returns : goal.returns
returns c = goes_on _ _ _ c.with_lines.result c.in-Ok.ensures.told c.with_lines.ensures
