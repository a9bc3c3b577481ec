use Rattle.std.proofs.Common.{◌≡◌}
use Rattle.text_lines.specs.Lines.{lines_of}
use Rattle.text_lines.specs.Reading.{read}
use Rattle.text_lines.proofs.Whole.{wrong_heading}
use Rattle.cfi_policy.specs.Policy.{policy_read, policy_rules}
use Rattle.cfi_policy.proofs.PolicyWords.{begun_is, calls_are, no_calls_told, no_head, opens}
use Rattle.cfi_policy.proofs.policy_form.read_policy_part.Goals.{After-read_lines-end}
use Rattle.cfi_policy.proofs.policy_form.read_policy_part.Goals as goal

-- another head
pub returns-in-Err-clause-exact : goal.returns-in-Err-clause-exact
unfolding policy_read
returns-in-Err-clause-exact c = wrong_heading _ _ c.in-Err.end c.in-Err.ensures

pub returns-in-Err-clause-lines : goal.returns-in-Err-clause-lines
returns-in-Err-clause-lines c = rw c.new-lines.ensures.items (no_head c.args.text.now c.in-Err.end c.in-Err.ensures)

pub returns-in-Err-clause-calls : goal.returns-in-Err-clause-calls
returns-in-Err-clause-calls c = no_calls_told c.args.text.now c.in-Err.end c.in-Err.ensures

-- the lines after it
opened : (c : After-read_lines-end) → policy_read c.args.text.now ≡ read policy_rules tt c.line_after-first.result (lines_of c.in-Ok.told.1.now)
opened c = opens c.args.text.now c.in-Ok.told.0 (lines_of c.in-Ok.told.1.now) c.line_after-first.result c.in-Ok.ensures c.line_after-first.ensures.value

pub returns-clause-exact : goal.returns-clause-exact
returns-clause-exact c = rw (opened c) c.read_lines-end.ensures.exact

pub returns-clause-lines : goal.returns-clause-lines
returns-clause-lines c =
    begun_is c.args.text.now c.in-Ok.told.0 (lines_of c.in-Ok.told.1.now) c.line_after-first.result c.in-Ok.ensures c.line_after-first.ensures.value _ c.read_lines-end.result
    (rw c.new-lines.ensures.items at c.read_lines-end.ensures.collected)

pub returns-clause-begun : goal.returns-clause-begun
returns-clause-begun c = rw (opened c) (rw c.new-lines.ensures.items at c.read_lines-end.ensures.begun)

pub returns-clause-calls : goal.returns-clause-calls
returns-clause-calls c = calls_are c.args.text.now c.in-Ok.told.0 (lines_of c.in-Ok.told.1.now) c.line_after-first.result c.in-Ok.ensures c.line_after-first.ensures.value
