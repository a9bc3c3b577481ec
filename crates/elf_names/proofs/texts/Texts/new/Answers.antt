use Rattle.std.proofs.Common.{ap}
use Rattle.elf_names.specs.Texts.{texts_of}
use Rattle.elf_names.proofs.Grown.{begun}
use Rattle.elf_names.proofs.texts.Texts.new.Goals as goal

pub invariant_of-result : goal.invariant_of-result
unfolding texts_of
invariant_of-result c = begun _ _ (ap texts_of c.new.ensures.items) c.new-2.ensures.empty

pub returns : goal.returns
unfolding texts_of
returns c = ap texts_of c.new.ensures.items
