use Rattle.std.proofs.Common.{arith}
use Rattle.cfi_leads.proofs.Tables.{head_before}
use Rattle.cfi_leads.proofs.pieces.Pieces.head.Goals as goal

pub returns-clause-inside : goal.returns-clause-inside
returns-clause-inside c = let before = head_before c.args.self.now c.args.k in omega (arith, c.head_in_table.ensures)
