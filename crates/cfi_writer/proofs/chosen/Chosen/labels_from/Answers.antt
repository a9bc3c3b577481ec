use Rattle.std.proofs.Common.{◌≤◌, ◌≡◌, ℕ, List, length, drop, arith, ap, subst, sym, ◌∙◌}
use Rattle.cfi_writer.proofs.Prelude.{class_count, labels_before}
use Rattle.cfi_writer.proofs.Starts.{enough_behind, start_at, start_few}
use Rattle.cfi_writer.proofs.chosen.Chosen.labels_from.Goals.{After-labels_from}
use Rattle.cfi_writer.proofs.chosen.Chosen.labels_from.Goals as goal

pub labels_from-requires : goal.labels_from-requires
labels_from-requires c =
    let few = start_few c.args.self.now.layout.closed.sides c.starts-starts.result.now c.starts-starts.ensures c.args.j c.requires in
    omega (arith, few, c.labels.ensures.counted)

behind : (c : After-labels_from) → c.labels_from.result.now ≡ drop (labels_before c.args.self.now.layout.closed.sides c.args.j) c.args.self.now.labels
behind c =
    c.labels_from.ensures
    ∙ ap (λ (n : ℕ). drop n c.labels.result.now) (start_at c.args.self.now.layout.closed.sides c.starts-starts.result.now c.starts-starts.ensures c.args.j c.requires)
    ∙ ap (λ (ls : List ℕ). drop (labels_before c.args.self.now.layout.closed.sides c.args.j) ls) c.labels.ensures.value

pub returns-clause-enough : goal.returns-clause-enough
returns-clause-enough c side there =
    subst (λ (ls : List ℕ). class_count side ≤ length ls) (sym (behind c))
    (enough_behind c.args.self.now.layout.closed.sides c.args.self.now.labels c.args.j side (sym (ap length c.labels.ensures.value) ∙ c.labels.ensures.counted) there)
