use Rattle.std.proofs.Common.{◌∙◌, ap}
use Rattle.cfi_map.specs.GraphAtMap.{words_at}
use Rattle.cfi_map.proofs.mapped.Mapped.words.Goals as goal

pub returns : goal.returns
returns c = c.as_slice.ensures.value ∙ c.self.invariant.words_are ∙ ap words_at c.self.view_is
