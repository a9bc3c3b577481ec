use Rattle.std.proofs.Common.{◌≡◌, rules}
use Rattle.cfi_unit.specs.UnitWords.{words_of}
use Rattle.cfi_unit.proofs.Found.{found}
use Rattle.cfi_emit.proofs.emission.emit.Goals as goal

pub returns-clause-found : goal.returns-clause-found
returns-clause-found c = λ rest ahead.
    let words : c.in_ok-to_vec.field-0.items ≡ words_of c.args.unit.now c.args.at = search rules in
    rw words (found c.args.unit.now c.args.at rest c.requires.fits ahead)
