use Rattle.std.proofs.Common.{arith}
use Rattle.std.proofs.lemmas.Result.{IfOk-from_err, err_from_is_err_and}
use Rattle.cfi_layout.proofs.placement.place.Goals as goal

pub returns-then-bytes-from-clause-refused : goal.returns-then-bytes-from-clause-refused
returns-then-bytes-from-clause-refused c = λ fits. absurd (omega (arith, fits, c.if-bytes-from.true, c.from.ensures, c.code_size-bytes.ensures))

pub returns-in_err-starts-clause-starts : goal.returns-in_err-starts-clause-starts
returns-in_err-starts-clause-starts c = IfOk-from_err c.from_residual.result _ c.from_residual.ensures.0

pub returns-in_err-starts-clause-long : goal.returns-in_err-starts-clause-long
returns-in_err-starts-clause-long c = IfOk-from_err c.from_residual.result _ c.from_residual.ensures.0

pub returns-in_err-starts-clause-fits : goal.returns-in_err-starts-clause-fits
returns-in_err-starts-clause-fits c = IfOk-from_err c.from_residual.result _ c.from_residual.ensures.0

pub returns-in_err-starts-clause-too_large : goal.returns-in_err-starts-clause-too_large
returns-in_err-starts-clause-too_large c = λ over. absurd (omega (arith, over, c.if-bytes-from.false, c.from.ensures, c.code_size-bytes.ensures))

pub returns-in_err-starts-clause-refused : goal.returns-in_err-starts-clause-refused
returns-in_err-starts-clause-refused c = let p = err_from_is_err_and c.from_residual.result c.from_residual.ensures.1 in rw p.1 (λ fits. p.2)

pub returns-clause-fits : goal.returns-clause-fits
returns-clause-fits c = omega (arith, c.if-bytes-from.false, c.from.ensures, c.code_size-bytes.ensures)

pub returns-clause-too_large : goal.returns-clause-too_large
returns-clause-too_large c = λ over. absurd (omega (arith, over, c.if-bytes-from.false, c.from.ensures, c.code_size-bytes.ensures))
