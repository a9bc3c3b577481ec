use Rattle.std.proofs.Common.{sym, ap, arith}
use Rattle.std.proofs.lemmas.List.{get_or_past}
use Rattle.obj_input.specs.Input.{SectionParts, acting_at, no_section}
use Rattle.obj_check.proofs.code_pointer.acting_at.Goals as goal

pub returns-else-k-section_count : goal.returns-else-k-section_count
unfolding acting_at
returns-else-k-section_count c =
    ap (λ (s : SectionParts). acting_at s c.args.offset)
    (sym (get_or_past c.args.input.now.sections c.args.k no_section (let past = c.if-k-section_count in let count = c.section_count.ensures in omega arith)))
