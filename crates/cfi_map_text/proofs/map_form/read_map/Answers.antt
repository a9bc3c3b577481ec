use Rattle.std.proofs.Common.{◌≡◌, None, Ok, Err}
use Rattle.std.proofs.lemmas.Result.{err_from_is_err_and}
use Rattle.text_lines.specs.Answers.{Answers}
use Rattle.text_lines.specs.Lines.{lines_of}
use Rattle.text_lines.specs.Reading.{read}
use Rattle.text_lines.proofs.Whole.{goes_on, lines_whole, stops}
use Rattle.cfi_map_text.specs.Map.{MapParts}
use Rattle.cfi_map_text.specs.MapText.{map_of, map_rules}
use Rattle.cfi_map_text.proofs.MapLaws.{map_collected, map_of_allowed, map_refused, reading}
use Rattle.cfi_map_text.proofs.map_form.read_map.Goals.{After-drop-read, After-from_residual, In_ok-read_lines}
use Rattle.cfi_map_text.proofs.map_form.read_map.Goals as goal

-- another first line
refused : (c : After-from_residual) → Answers c.from_residual.result (map_of c.args.text.now)
unfolding map_of
refused c =
    let p = err_from_is_err_and c.from_residual.result c.from_residual.ensures.1 in
    rw (p.1, p.2) (stops _ c.in_err-which.field-0.0 _ c.in_err-which.ensures)

pub returns-in_err-which-clause-exact : goal.returns-in_err-which-clause-exact
returns-in_err-which-clause-exact c = refused c

pub returns-in_err-which-clause-only : goal.returns-in_err-which-clause-only
returns-in_err-which-clause-only c = (reading c.args.text.now c.from_residual.result (refused c)).only

-- a line that is refused
wrong : (c : After-drop-read) → Answers c.from_residual-in_err-read_lines.result (map_of c.args.text.now)
unfolding map_of
wrong c =
    let p = err_from_is_err_and c.from_residual-in_err-read_lines.result c.from_residual-in_err-read_lines.ensures.1 in
    rw (p.1, p.2) (goes_on _ _ _ (Err c.in_err-read_lines.field-0.0) c.in_ok-which.ensures (map_refused c.form_at-form.result c.in_ok-which.which (lines_of c.in_ok-which.rest.now) c.in_err-read_lines.field-0.0 c.form_at-form.ensures c.in_err-read_lines.ensures.exact))

pub returns-in_err-read_lines-clause-exact : goal.returns-in_err-read_lines-clause-exact
returns-in_err-read_lines-clause-exact c = wrong c

pub returns-in_err-read_lines-clause-only : goal.returns-in_err-read_lines-clause-only
returns-in_err-read_lines-clause-only c = (reading c.args.text.now c.from_residual-in_err-read_lines.result (wrong c)).only

-- what was read
map_read : In_ok-read_lines → MapParts
map_read c = record { form = c.form_at-form.result; lines = c.read_lines.new.form.lines }

collected : (c : In_ok-read_lines) → map_of c.args.text.now ≡ Ok (map_read c)
unfolding map_of map_read
collected c =
    let lines = lines_of c.in_ok-which.rest.now in
    let items = lines_whole (read (map_rules c.form_at-form.result) None 2 lines) c.read_lines.new.form.lines c.in_ok-read_lines.ensures.exact (rw (c.of.ensures, c.new.ensures.items) at c.in_ok-read_lines.ensures.collected) in
    goes_on _ _ _ (Ok (map_read c)) c.in_ok-which.ensures (map_collected c.form_at-form.result c.in_ok-which.which lines c.read_lines.new.form.lines c.form_at-form.ensures items)

pub invariant_of-result : goal.invariant_of-result
unfolding map_read
invariant_of-result c = map_of_allowed c.args.text.now (map_read c) (collected c)

pub returns-clause-exact : goal.returns-clause-exact
unfolding map_read
returns-clause-exact c = collected c

pub returns-clause-allowed : goal.returns-clause-allowed
unfolding map_read
returns-clause-allowed c = (reading c.args.text.now (Ok (map_read c)) (collected c)).allowed

pub returns-clause-spelled : goal.returns-clause-spelled
unfolding map_read
returns-clause-spelled c = (reading c.args.text.now (Ok (map_read c)) (collected c)).spelled

pub returns-clause-only : goal.returns-clause-only
unfolding map_read
returns-clause-only c = (reading c.args.text.now (Ok (map_read c)) (collected c)).only
