use Rattle.cfi_harden.proofs.Ready.{hardens, ready}
use Rattle.cfi_harden.proofs.hardening.harden_prepared.Goals as goal

pub placed_and_written-requires : goal.placed_and_written-requires
placed_and_written-requires c =
    ready c.requires.0 c.args.prepared.now c.requires.1 c.words_fit_in.ensures.sound c.words_fit_in.ensures.fits_maps c.words_fit_in.ensures.words

pub returns-clause-hardens : goal.returns-clause-hardens
returns-clause-hardens c = λ request prepared.
    hardens request c.args.prepared.now c.placed_and_written.result prepared c.placed_and_written.ensures
