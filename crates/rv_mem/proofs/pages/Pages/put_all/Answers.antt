use Rattle.std.proofs.Common.{◌≡◌, ◌+◌, ◌-◌, ◌≤◌, ◌∙◌, ap, arith, length, take, drop}
use Rattle.rv_word.specs.Memory.{Memory, placed}
use Rattle.rv_mem.specs.Pages.{byte_of}
use Rattle.rv_mem.proofs.Placed.{placed-none, placed-on}
use Rattle.rv_mem.proofs.pages.Pages.put_all.Goals as goal

pub loop-done-init : goal.loop-done-init
loop-done-init c = record { bytes = placed-none _ _; kept = λ p before. before; made = c.requires.made; low = omega arith }

pub loop-done-preserved : goal.loop-done-preserved
loop-done-preserved c =
    let fits : c.loop-done.done + c.min-n.result ≤ length c.args.bytes.now = omega (arith, c.min-n.ensures) in
    let more : c.loop-done.done + c.min-n.result - c.loop-done.done ≡ c.min-n.result = omega arith in
    let part = rw more at c.put.ensures.bytes in
    record {
      bytes = part ∙ ap (λ (m : Memory). placed m (c.args.at + c.loop-done.done) (take c.min-n.result (drop c.loop-done.done c.args.bytes.now))) c.loop-done.invariant.bytes
          ∙ placed-on (byte_of c.args.self.now) c.args.at c.loop-done.done c.min-n.result c.args.bytes.now fits;
      kept = λ p before. c.put.ensures.kept p (c.loop-done.invariant.kept p before);
      made = λ k from to. c.put.ensures.kept _ (c.loop-done.invariant.made k from to);
      low = fits;
    }
