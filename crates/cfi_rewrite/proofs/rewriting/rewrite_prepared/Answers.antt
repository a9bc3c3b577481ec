use Rattle.cfi_meaning.specs.Hardened.{KeepsMeaningOf, NeverDiffersOf}
use Rattle.cfi_rewrite.proofs.OfHardened.{holds_of}
use Rattle.cfi_rewrite.proofs.rewriting.rewrite_prepared.Goals as goal

pub returns-clause-placed : goal.returns-clause-placed
returns-clause-placed c = c.harden_prepared.ensures.placed

pub returns-clause-hardens : goal.returns-clause-hardens
returns-clause-hardens c = c.harden_prepared.ensures.hardens

pub returns-clause-meaning_kept : goal.returns-clause-meaning_kept
returns-clause-meaning_kept c =
    holds_of KeepsMeaningOf c.args.prepared.now c.harden_prepared.result c.hardened_keeps_meaning.ensures c.requires c.harden_prepared.ensures.placed

pub returns-clause-never_differs : goal.returns-clause-never_differs
returns-clause-never_differs c =
    holds_of NeverDiffersOf c.args.prepared.now c.harden_prepared.result c.hardened_never_differs.ensures c.requires c.harden_prepared.ensures.placed
