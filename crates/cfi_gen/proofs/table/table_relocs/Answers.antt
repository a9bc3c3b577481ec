use Rattle.std.proofs.Common.{sym, ◌∙◌, rules}
use Rattle.cfi_gen.proofs.Writing.{pointer_next, pointers_end}
use Rattle.cfi_gen.proofs.table.table_relocs.Goals as goal

pub loop-i-preserved : goal.loop-i-preserved
loop-i-preserved c =
    rw c.in_ok-push.ensures.items (pointer_next c.loop-i.relocs.items c.args.count c.loop-i.i _ c.loop-i-test.true (search rules))
    ∙ c.loop-i.invariant

pub returns : goal.returns
returns c = sym (pointers_end c.loop-i.relocs.items c.args.count c.loop-i.i c.loop-i-test.false) ∙ c.loop-i.invariant
