use Rattle.std.proofs.Common.{arith}
use Rattle.std.proofs.lemmas.Result.{err_from_is_err_and}
use Rattle.text_lines.proofs.Whole.{goes_on, stops}
use Rattle.text_lines.specs.Lines.{lines_of}
use Rattle.cfi_script.proofs.ScriptTurns.{lone, several}
use Rattle.cfi_script.specs.ScriptText.{script_of}
use Rattle.cfi_script.proofs.script.Script.read.Goals as goal

-- another first line
pub returns-in_err-which-clause-exact : goal.returns-in_err-which-clause-exact
unfolding script_of
returns-in_err-which-clause-exact c =
    let p = err_from_is_err_and c.from_residual.result c.from_residual.ensures.1 in
    rw (p.1, p.2) (stops _ c.in_err-which.field-0.0 _ c.in_err-which.ensures)

-- a script for one hart
pub returns-then-which-eq0-clause-exact : goal.returns-then-which-eq0-clause-exact
unfolding script_of
returns-then-which-eq0-clause-exact c =
    let right = rw c.new.ensures.items at c.with_changes.ensures.exact in
    goes_on _ _ _ c.with_changes.result c.in_ok-which.ensures (lone c.in_ok-which.which (lines_of c.in_ok-which.rest.now) c.with_changes.result c.if-which-eq0.true right)

-- a script for several harts
pub returns-else-which-eq0-clause-exact : goal.returns-else-which-eq0-clause-exact
unfolding script_of
returns-else-which-eq0-clause-exact c =
    goes_on _ _ _ c.for_several.result c.in_ok-which.ensures
    (several c.in_ok-which.which (lines_of c.in_ok-which.rest.now) c.for_several.result (λ e. omega (arith, c.if-which-eq0.false, e)) c.for_several.ensures.exact)
