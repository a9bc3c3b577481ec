use Rattle.std.proofs.Common.{◌∙◌, sym}
use Rattle.cfi_leads.proofs.Tables.{enters_at, enters_not}
use Rattle.cfi_leads.proofs.pieces.Pieces.enters.Goals as goal

pub returns-then-is_entry : goal.returns-then-is_entry
returns-then-is_entry c = enters_at c.args.self.now c.args.k _ (sym c.is_entry.ensures ∙ c.if-is_entry.true) (c.requires.inside.each c.args.k c.requires.place)

pub returns-else-is_entry : goal.returns-else-is_entry
returns-else-is_entry c = enters_not c.args.self.now c.args.k (sym c.is_entry.ensures ∙ c.if-is_entry.false)
