use Rattle.std.proofs.Common.{sym, ◌∙◌}
use Rattle.std.proofs.lemmas.Bool.{not-true}
use Rattle.cfi_graph.proofs.Third.{begins_otherwise}
use Rattle.cfi_graph.proofs.read.begins_calls.Goals as goal

pub returns : goal.returns
returns c e = begins_otherwise c.args.text.now (sym c.starts_with.ensures.value ∙ not-true c.starts_with.result e)
