use Rattle.std.proofs.Common.{◌≡◌, ◌+◌, ◌-◌, length, arith}
use Rattle.rv_mem.proofs.OverBytes.{over}
use Rattle.rv_mem.proofs.page.Page.put.Goals as goal

pub returns-clause-bytes : goal.returns-clause-bytes
returns-clause-bytes c =
    let all = c.self.inside.bytes.items in
    let some : c.args.at + length c.args.bytes.now - c.args.at ≡ length c.args.bytes.now = omega arith in
    rw (c.copy_from_slice.ensures.after, c.deref_mut.ensures.value, ← c.self.view_is) (over all c.args.bytes.now _ c.args.at c.self.inside.bytes.len _ (omega arith) (omega (arith, c.requires, c.self.invariant)) some)
