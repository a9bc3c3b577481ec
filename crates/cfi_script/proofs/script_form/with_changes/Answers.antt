use Rattle.std.proofs.Common.{◌≡◌, Ok}
use Rattle.text_lines.specs.Lines.{lines_of}
use Rattle.text_lines.specs.Reading.{read}
use Rattle.text_lines.proofs.Whole.{lines_whole}
use Rattle.cfi_script.specs.ScriptText.{changes_of_lines, script_rules}
use Rattle.cfi_script.proofs.ScriptPlans.{ordered}
use Rattle.cfi_script.proofs.script_form.with_changes.Goals.{In_ok-read_lines}
use Rattle.cfi_script.proofs.script_form.with_changes.Goals as goal

-- the changes that were collected are those that are read
collected : (c : In_ok-read_lines) → changes_of_lines c.args.first (lines_of c.args.text.now) ≡ Ok c.read_lines.new.form.changes.items
collected c =
    lines_whole (read script_rules 0 c.args.first (lines_of c.args.text.now)) c.read_lines.new.form.changes.items c.in_ok-read_lines.ensures.exact (rw c.new.ensures.items at c.in_ok-read_lines.ensures.collected)

pub with-requires : goal.with-requires
with-requires c = ordered c.args.first (lines_of c.args.text.now) c.read_lines.new.form.changes.items (collected c)
