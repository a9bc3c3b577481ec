use Rattle.std.proofs.Common.{◌≡◌, ◌≤◌, ◌-◌, ℕ, ap, subst, sym, arith, ◌∙◌}
use Rattle.cfi_writer.proofs.GroupLoops.{all_left, one_more}
use Rattle.cfi_writer.proofs.chosen.Chosen.behind.Goals as goal

pub loop-j-preserved : goal.loop-j-preserved
loop-j-preserved c =
    let past = c.loop-j.invariant.0 in
    (omega arith, one_more c.args.self.now c.args.k c.loop-j.j past c.loop-j.invariant.1 (sym c.is_later.ensures ∙ c.if-not-is_later.false))

pub returns : goal.returns
returns c =
    let last = c.loop-j-test.false in
    let below = c.requires in
    let count = c.count-count.ensures.value in
    let most = c.loop-j.auto.j-end (omega arith) in
    let end : c.count-count.result ≡ c.loop-j.j = omega arith in
    ap (λ (n : ℕ). n - c.args.k - 1) end
    ∙ all_left c.args.self.now c.args.k c.loop-j.j c.loop-j.invariant.0 (subst (λ (n : ℕ). n ≤ c.loop-j.j) c.count-count.ensures.value last) c.loop-j.invariant.1
