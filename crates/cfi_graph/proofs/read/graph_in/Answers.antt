use Rattle.std.proofs.lemmas.Result.{err_from_is_err_and}
use Rattle.cfi_graph.specs.Reading.{graph_of}
use Rattle.text_lines.proofs.Whole.{goes_on, stops}
use Rattle.cfi_graph.proofs.read.graph_in.Goals as goal

pub returns-in_err-which : goal.returns-in_err-which
unfolding graph_of
returns-in_err-which c =
    let p = err_from_is_err_and c.from_residual.result c.from_residual.ensures.1 in
    rw (p.1, p.2) (stops _ c.in_err-which.field-0.0 _ c.in_err-which.ensures)

pub returns : goal.returns
unfolding graph_of
returns c =
    goes_on _ _ _ c.after_first.result c.in_ok-which.ensures (rw c.version_at.ensures at c.after_first.ensures)
