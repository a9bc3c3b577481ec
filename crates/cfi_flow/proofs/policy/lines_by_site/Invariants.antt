use Rattle.std.proofs.Common.{◌≡◌, None, take}
use Rattle.least.specs.First.{first_below}
use Rattle.obj_program.specs.Program.{count}
use Rattle.cfi_flow.specs.Drawn.{line_for}
use Rattle.cfi_flow.specs.Policy.{is_wrong_line}
use Rattle.cfi_class.specs.Tables.{IsTable}
use Rattle.cfi_flow.proofs.policy.lines_by_site.Given as goal

abbrev pub invariant-loop-j : goal.invariant-loop-j
invariant-loop-j l =
    (first_below (is_wrong_line l.items l.lines) l.j ≡ None) × IsTable (line_for l.items (take l.j l.lines)) (count l.items) l.table.items
