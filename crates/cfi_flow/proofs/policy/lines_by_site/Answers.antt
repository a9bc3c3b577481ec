use Rattle.std.proofs.Common.{◌≡◌, ℕ, List, None, length, sym, subst, ◌∙◌, arith}
use Rattle.std.proofs.lemmas.List.{get_or_default, take_all}
use Rattle.cfi_policy.specs.declared.policy.PolicyLine.{PolicyLine}
use Rattle.least.proofs.Firsts.{first_begins, first_passed}
use Rattle.obj_program.specs.Program.{count}
use Rattle.cfi_flow.specs.Drawn.{line_for}
use Rattle.cfi_flow.specs.Policy.{is_wrong_line, no_line}
use Rattle.cfi_class.specs.Tables.{IsTable}
use Rattle.cfi_flow.proofs.Judged.{is_right, is_wrong, more_lines, none_wrong, wrong_at}
use Rattle.cfi_flow.proofs.policy.lines_by_site.Goals as goal

pub loop-j-init : goal.loop-j-init
loop-j-init c = (
  first_begins (is_wrong_line c.args.items.now c.args.lines.now),
  subst (λ (n : ℕ). IsTable (λ (k : ℕ). None) n c.in_ok-table.table.items) c.count.ensures.value c.in_ok-table.ensures,
)

pub returns-in-None : goal.returns-in-None
returns-in-None c =
    let program = c.args.items.now in
    let lines = c.args.lines.now in
    let at = get_or_default lines c.loop-j.j no_line c.index-lines-j.result c.loop-j-test.true ∙ sym c.index-lines-j.is in
    wrong_at c.args.first program lines c.loop-j.j c.loop-j-test.true c.loop-j.invariant.0
    (is_wrong program lines c.loop-j.j c.loop-j.table.items c.loop-j.invariant.1 c.index-lines-j.result at
    (rw c.as_slice.ensures.value at (sym c.in-None.ensures.value)))

pub loop-j-preserved : goal.loop-j-preserved
loop-j-preserved c =
    let program = c.args.items.now in
    let lines = c.args.lines.now in
    let at = get_or_default lines c.loop-j.j no_line c.index-lines-j.result c.loop-j-test.true ∙ sym c.index-lines-j.is in
    let found = rw c.as_slice.ensures.value at (sym c.in-Some.ensures.value) in (
      first_passed (is_wrong_line program lines) c.loop-j.j c.loop-j.invariant.0
          (is_right program lines c.loop-j.j c.loop-j.table.items c.loop-j.invariant.1 c.index-lines-j.result at c.in-Some.k found),
      more_lines program lines c.loop-j.j c.loop-j.table.items c.loop-j.invariant.1 c.index-lines-j.result at c.in-Some.k c.note.new.table.items
          c.loop-j-test.true found c.in_ok-note-in-Some.ensures.size c.in_ok-note-in-Some.ensures.each,
    )

pub returns : goal.returns
returns c =
    let program = c.args.items.now in
    let lines = c.args.lines.now in
    let all : c.loop-j.j ≡ length lines = omega arith in (
      none_wrong c.args.first program lines c.loop-j.j all c.loop-j.invariant.0,
      subst (λ (xs : List PolicyLine). IsTable (line_for program xs) (count program) c.loop-j.table.items) (take_all c.loop-j.j lines (omega arith)) c.loop-j.invariant.1,
    )
