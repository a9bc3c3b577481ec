use Rattle.std.proofs.Common.{sym}
use Rattle.obj_program.proofs.Kept.{kept}
use Rattle.obj_program.proofs.items.Items.instr_at.Goals as goal

pub returns-clause-kind : goal.returns-clause-kind
returns-clause-kind c =
    (kept c.args.self.now c.args.gates.now c.args.words.now c.args.k c.in_ok-instr.instr c.count-count.ensures.sound c.requires.place c.requires.instruction
    (sym c.in_ok-instr.ensures)).0

pub returns-clause-reserved : goal.returns-clause-reserved
returns-clause-reserved c =
    (kept c.args.self.now c.args.gates.now c.args.words.now c.args.k c.in_ok-instr.instr c.count-count.ensures.sound c.requires.place c.requires.instruction
    (sym c.in_ok-instr.ensures)).1
