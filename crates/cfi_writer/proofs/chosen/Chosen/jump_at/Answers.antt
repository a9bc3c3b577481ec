use Rattle.std.proofs.Common.{◌<◌, ◌^◌, arith, subst}
use Rattle.cfi_writer.proofs.Prelude.{gate, Choice}
use Rattle.cfi_writer.proofs.chosen.Chosen.jump_at.Goals as goal

pub overflow_add-result : goal.overflow_add-result
overflow_add-result c =
    let near = subst (λ (m : Choice). gate m.layout c.args.k < 2 ^ 32) c.self.view_is (c.count-count.ensures.near c.args.k) in
    omega (arith, near, c.gate-gate.ensures)
