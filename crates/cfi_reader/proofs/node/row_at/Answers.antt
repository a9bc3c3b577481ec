use Rattle.std.proofs.Common.{◌≡◌, true, sym, subst}
use Rattle.cfi_unit.specs.declared.pattern.Pattern.{Pattern}
use Rattle.cfi_reader.specs.Nodes.{is_row_of, row_in}
use Rattle.cfi_reader.specs.declared.node.Else.{Else}
use Rattle.cfi_reader.specs.declared.node.Next.{Next}
use Rattle.cfi_reader.proofs.Rows.{row_is}
use Rattle.cfi_reader.proofs.node.row_at.Goals as goal

pub returns : goal.returns
returns c =
    subst (λ (r : Pattern × Next × Else). is_row_of c.args.node (row_in r) ≡ true) (sym c.row_among.ensures) (row_is c.args.node c.requires)
