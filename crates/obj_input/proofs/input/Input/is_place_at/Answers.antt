use Rattle.std.proofs.Common.{sym, ap, ◌∙◌, arith}
use Rattle.std.proofs.lemmas.Bool.{le-ltb}
use Rattle.obj_input.specs.Input.{SectionParts}
use Rattle.obj_input.specs.Code.{at_whole, is_place}
use Rattle.obj_input.proofs.Wholes.{past_sections, no_place}
use Rattle.obj_input.proofs.input.Input.is_place_at.Goals as goal

pub returns-else-k-section_count : goal.returns-else-k-section_count
returns-else-k-section_count c =
    le-ltb _ _ c.if-k-section_count.false
    ∙ sym (no_place c.args.at)
    ∙ ap (λ (s : SectionParts). at_whole (is_place s) c.args.at) (sym (past_sections c.args.self.now c.args.k (omega arith)))
