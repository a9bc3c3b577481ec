use Rattle.std.proofs.Common.{◌++◌, ◌∙◌, ℕ, codes, sym}
use Rattle.text_lines.specs.Hex.{hex_text}
use Rattle.tool_report.proofs.PartsInTurn.{left_at, next_part, no_part}
use Rattle.tool_report.proofs.report.push_trail.Goals as goal

pub loop-address-preserved : goal.loop-address-preserved
loop-address-preserved c =
    let left = left_at c.args.trail.now c.loop-address.address-index _ c.loop-address-test.true in
    next_part (λ (a : ℕ). codes " " ++ hex_text 8 a) c.loop-address.text.items _ c.args.trail.now c.loop-address.address-index _ left c.in_ok-push_address.ensures
    ∙ c.loop-address.invariant

pub returns : goal.returns
returns c =
    sym (no_part (λ (a : ℕ). codes " " ++ hex_text 8 a) c.loop-address.text.items c.args.trail.now c.loop-address.address-index c.loop-address-test.false)
    ∙ c.loop-address.invariant
