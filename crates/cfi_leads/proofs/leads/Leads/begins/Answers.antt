use Rattle.std.proofs.Common.{◌==◌, ℕ, ap, ◌∙◌}
use Rattle.cfi_leads.proofs.Ends.{begins_where}
use Rattle.cfi_leads.proofs.leads.Leads.begins.Goals as goal

pub returns : goal.returns
returns c = ap (λ (h : ℕ). h == c.args.k) c.head.ensures ∙ begins_where c.args.self.now c.args.k c.requires.behind
