use Rattle.std.proofs.Common.{sym, ap, ◌∙◌, arith}
use Rattle.std.proofs.lemmas.Bool.{le-ltb}
use Rattle.obj_input.specs.Input.{SectionParts}
use Rattle.obj_input.specs.Code.{at_whole, is_start}
use Rattle.obj_input.proofs.Wholes.{past_sections, no_start}
use Rattle.obj_input.proofs.input.Input.is_start_at.Goals as goal

pub returns-else-k-section_count : goal.returns-else-k-section_count
returns-else-k-section_count c =
    le-ltb _ _ c.if-k-section_count.false
    ∙ sym (no_start c.args.at)
    ∙ ap (λ (s : SectionParts). at_whole (is_start s) c.args.at) (sym (past_sections c.args.self.now c.args.k (omega arith)))
