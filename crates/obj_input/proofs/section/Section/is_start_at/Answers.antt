use Rattle.std.proofs.Common.{arith, sym, ap, ◌∙◌}
use Rattle.std.proofs.lemmas.Int.{to_z-of_z}
use mir.Syntax.{w128}
use Rattle.obj_input.specs.Code.{natural, is_start}
use Rattle.obj_input.proofs.Wholes.{past_offsets, start_inside}
use Rattle.obj_input.proofs.section.Section.is_start_at.Goals as goal

pub returns-in-None : goal.returns-in-None
returns-in-None c =
    past_offsets (is_start c.args.self.now) (λ n holds. let below = start_inside c.args.self.now n holds in omega arith)
    c.args.at
    (ap natural (sym (to_z-of_z w128 c.args.at c.ranges.at)) ∙ sym c.natural.ensures ∙ c.in-None.is)
