use Rattle.rv_word.proofs.Masks.{positive, negative}
use Rattle.rv_word.proofs.bits.sext.Goals as goal

pub returns-then-low-bits-eq0 : goal.returns-then-low-bits-eq0
returns-then-low-bits-eq0 c =
    positive c.args.value c.args.bits c.requires.high c.if-low-bits-eq0.true

pub returns-else-low-bits-eq0 : goal.returns-else-low-bits-eq0
returns-else-low-bits-eq0 c =
    negative c.args.value c.args.bits c.requires.high c.if-low-bits-eq0.false
