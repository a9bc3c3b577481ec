use Rattle.std.proofs.Common.{arith}
use Rattle.std.proofs.lemmas.Bool.{ne_eqb}
use Rattle.elf_names.proofs.Marked.{marked_empty, marked_longer, marked_whole}
use Rattle.elf_names.proofs.marks.step.Goals as goal

pub returns-then-bytes-eq0-clause-mark : goal.returns-then-bytes-eq0-clause-mark
returns-then-bytes-eq0-clause-mark c = marked_empty c.args.texts.now c.args.bytes.now c.requires.some _ c.empty.ensures c.if-bytes-eq0.true

pub returns-then-front-lt-BLOCK-clause-mark : goal.returns-then-front-lt-BLOCK-clause-mark
returns-then-front-lt-BLOCK-clause-mark c = marked_longer c.args.texts.now c.args.bytes.now c.requires.some c.args.after c.requires.after (ne_eqb _ _ c.if-bytes-eq0.false) c.if-front-lt-BLOCK.true

pub returns-clause-mark : goal.returns-clause-mark
returns-clause-mark c =
    marked_whole c.args.texts.now c.args.bytes.now c.requires.some c.args.after c.requires.after (ne_eqb _ _ c.if-bytes-eq0.false) c.number.new.self _ (omega (arith, c.if-front-lt-BLOCK.false))
    (c.in_ok-tail.ensures.put c.requires.after.text c.requires.after.there)
