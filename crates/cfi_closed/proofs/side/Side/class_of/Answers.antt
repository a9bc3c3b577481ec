use Rattle.std.proofs.Common.{◌==◌, ◌∙◌, sym, ap}
use Rattle.cfi_closed.specs.declared.side.Site.{Site}
use Rattle.cfi_closed.specs.Closed.{class_if}
use Rattle.cfi_class.proofs.Finding.{find_none, find_some}
use Rattle.cfi_closed.proofs.side.Side.class_of.Goals as goal

pub returns-in-Some-clause-value : goal.returns-in-Some-clause-value
returns-in-Some-clause-value c =
    sym (ap class_if (find_some (λ (s : Site). s.place == c.args.place) c.args.self.now.sites c.in-Some.k (sym c.in-Some.ensures.value) ∙ c.site.ensures.value))

pub returns-in-None-clause-value : goal.returns-in-None-clause-value
returns-in-None-clause-value c =
    sym (ap class_if (find_none (λ (s : Site). s.place == c.args.place) c.args.self.now.sites (sym c.in-None.ensures.value)))
