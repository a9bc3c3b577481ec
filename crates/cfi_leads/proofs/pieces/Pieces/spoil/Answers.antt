use Rattle.std.proofs.Common.{List, ◌∙◌, ap, get_or}
use Rattle.std.specs.Prelude.{Bool, false}
use Rattle.cfi_leads.proofs.Spoiling.{spoilt_marks}
use Rattle.cfi_leads.proofs.pieces.Pieces.spoil.Goals as goal

pub returns-clause-each : goal.returns-clause-each
returns-clause-each c e below =
    ap (λ (l : List Bool). get_or l e false) c.mark-3.ensures
    ∙ spoilt_marks c.args.self.now c.args.k e c.args.spoilt.now.items c.mark.new.flags.items c.mark-2.new.flags.items
    c.spoilt_here.result c.crossed-other.result c.followed.result c.requires.counted below c.spoilt_here.ensures.value c.crossed-other.ensures.value c.followed.ensures.value
    c.spoilt_here.ensures.inside c.crossed-other.ensures.inside c.followed.ensures.inside c.mark.ensures c.mark-2.ensures
