use Rattle.std.proofs.Common.{sym, ◌∙◌, arith}
use Rattle.cfi_script.proofs.cursor.search.Goals as goal

pub returns-clause-hart : goal.returns-clause-hart
returns-clause-hart c =
    let found = c.searched-found.ensures in
    record {
      hart = c.hart_at.ensures ∙ sym found.there;
      own = λ later from below. found.turn.own later (omega (arith, found.reached, from)) below ∙ sym c.hart_at.ensures;
      more = found.more;
    }
