use Rattle.std.proofs.Common.{◌+◌, ◌==◌, sym, ◌∙◌, ap}
use Rattle.std.specs.Option.{option_map}
use Rattle.text_lines.proofs.Blocks.{found_after}
use Rattle.text_lines.proofs.words.find.Goals as goal

pub returns-in_err-at-clause-at : goal.returns-in_err-at-clause-at
returns-in_err-at-clause-at c =
    rw c.from_residual.ensures (sym (found_after (λ b. b == c.args.separator) c.args.bytes.now c.skipped-start.result c.skipped-start.ensures.within c.skipped-start.ensures.none ∙ ap (option_map (λ k. c.skipped-start.result + k)) (sym c.first.ensures.at ∙ c.in_err-at.was)))

pub returns-clause-at : goal.returns-clause-at
returns-clause-at c =
    sym (found_after (λ b. b == c.args.separator) c.args.bytes.now c.skipped-start.result c.skipped-start.ensures.within c.skipped-start.ensures.none ∙ ap (option_map (λ k. c.skipped-start.result + k)) (sym c.first.ensures.at ∙ c.in_ok-at.was))
