use Rattle.std.proofs.Common.{None, subst}
use Rattle.cfi_pair.specs.Opening.{IsPairEnd}
use Rattle.rv_word.specs.declared.end.End.{End}
use Rattle.cfi_pair.specs.declared.opening.PairFault.{PairFault}
use Rattle.tool_images.proofs.verify.unread.Goals as goal

pub returns-in-Fault : goal.returns-in-Fault
returns-in-Fault c image graph has =
    c.pair_refusal.ensures image graph None (subst (λ (e : End PairFault). IsPairEnd image graph e) c.in-Fault.is has)
