use Rattle.std.proofs.Common.{sym, subst, ◌∙◌}
use Rattle.elf_names.specs.Texts.{AreTexts}
use Rattle.elf_names.proofs.Grown.{missing}
use Rattle.elf_names.proofs.texts.Texts.number.Goals as goal

pub push-requires-clause-missing : goal.push-requires-clause-missing
push-requires-clause-missing c =
    missing c.args.self.now c.self.inside.index c.args.tail c.args.block.now (subst (λ ts. AreTexts ts c.self.inside.index) c.self.view_is c.self.invariant) c.requires
    (sym c.look_up.ensures ∙ c.in-None.is)
