use Rattle.std.proofs.Common.{◌≡◌, ◌==◌, false, ap, sym, ◌∙◌}
use Rattle.std.proofs.lemmas.Bool.{ne_eqb}
use Rattle.cfi_leads.specs.Leaves.{head}
use Rattle.cfi_leads.proofs.Ends.{leaf_apart}
use Rattle.cfi_leads.proofs.leads.Leads.is_leaf.Goals as goal

pub returns-else-head-k : goal.returns-else-head-k
returns-else-head-k c =
    let of = c.args.self.now in
    ne_eqb c.head.result c.args.k c.if-head-k.false
    ∙ sym (leaf_apart of c.args.k (ne_eqb (head of c.args.k) c.args.k (λ same. c.if-head-k.false (c.head.ensures ∙ same))))
