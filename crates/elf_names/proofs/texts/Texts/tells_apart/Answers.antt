use Rattle.std.proofs.Common.{subst}
use Rattle.elf_names.specs.Texts.{AreTexts}
use Rattle.elf_names.proofs.Apart.{apart}
use Rattle.elf_names.proofs.texts.Texts.tells_apart.Goals as goal

pub returns : goal.returns
returns c = λ names are.
    apart c.args.self.now (subst (λ ts. AreTexts ts c.self.inside.index) c.self.view_is c.self.invariant).apart c.args.numbers.now names are
