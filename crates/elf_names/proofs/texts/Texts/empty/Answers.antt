use Rattle.std.proofs.Common.{[], subst}
use Rattle.elf_names.specs.Texts.{Has}
use Rattle.elf_names.proofs.texts.Texts.empty.Goals as goal

pub returns : goal.returns
returns c = subst (λ ts. Has ts 0 []) c.self.view_is c.self.invariant.empty
