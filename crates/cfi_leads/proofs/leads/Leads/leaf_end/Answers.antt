use Rattle.std.proofs.Common.{◌≡◌, ◌+◌, ◌-◌, ◌<◌, ℕ, suc, ap, arith, subst, sym, ◌∙◌}
use Rattle.obj_program.specs.Program.{count}
use Rattle.cfi_leads.specs.Leaves.{leaf_end, next_piece}
use Rattle.cfi_leads.proofs.Ends.{leaf_end_before, next_here, next_last, next_on}
use Rattle.cfi_leads.proofs.leads.Leads.leaf_end.Goals as goal

pub returns-then-begins-clause-value : goal.returns-then-begins-clause-value
returns-then-begins-clause-value c =
    sym
    (c.loop-k.invariant.left
    ∙ next_here c.args.self.now c.loop-k.k (c.count-count.result - c.loop-k.k) (sym c.begins.ensures ∙ c.if-begins.true))

pub loop-k-preserved : goal.loop-k-preserved
loop-k-preserved c =
    let test = c.loop-k-test.true in
    let left : c.count-count.result - c.loop-k.k ≡ suc (c.count-count.result - (c.loop-k.k + 1)) = omega arith in
    record {
      behind = let past = c.loop-k.invariant.behind in omega arith;
      most = omega arith;
      left = c.loop-k.invariant.left ∙ ap (next_piece c.args.self.now c.loop-k.k) left
          ∙ next_on c.args.self.now c.loop-k.k (c.count-count.result - (c.loop-k.k + 1)) (sym c.begins.ensures ∙ c.if-begins.false);
    }

pub returns-clause-value : goal.returns-clause-value
returns-clause-value c =
    let most = c.loop-k.invariant.most in
    let test = c.loop-k-test.false in
    let none : c.count-count.result - c.loop-k.k ≡ 0 = omega arith in
    let end : c.count-count.result ≡ c.loop-k.k = omega arith in
    end ∙ sym (c.loop-k.invariant.left ∙ ap (next_piece c.args.self.now c.loop-k.k) none ∙ next_last c.args.self.now c.loop-k.k)

pub returns-clause-before : goal.returns-clause-before
returns-clause-before c last leaf =
    let most = c.loop-k.invariant.most in
    let test = c.loop-k-test.false in
    let none : c.count-count.result - c.loop-k.k ≡ 0 = omega arith in
    let end : c.count-count.result ≡ c.loop-k.k = omega arith in
    let value : c.count-count.result ≡ leaf_end c.args.self.now c.args.e =
    end ∙ sym (c.loop-k.invariant.left ∙ ap (next_piece c.args.self.now c.loop-k.k) none ∙ next_last c.args.self.now c.loop-k.k) in
    subst (λ (n : ℕ). n < count c.args.self.now.program) (sym value) (leaf_end_before c.args.self.now c.args.e c.requires.place last leaf)
