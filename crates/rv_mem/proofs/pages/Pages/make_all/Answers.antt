use Rattle.std.proofs.Common.{arith, IsTrue}
use Rattle.rv_mem.specs.Pages.{is_made}
use Rattle.rv_mem.proofs.InPages.{not_made, on_err}
use Rattle.rv_mem.proofs.pages.Pages.make_all.Goals as goal

pub returns-in_err-_place-clause-wants : goal.returns-in_err-_place-clause-wants
returns-in_err-_place-clause-wants c =
    let never = λ (made : IsTrue (is_made c.args.self.now c.loop-number.number)). c.in_err-_place.ensures.wants (c.loop-number.invariant.kept _ made) in
    let wants = not_made c.args.self.now c.args.at c.args.n c.loop-number.number (omega arith) (omega arith) (omega arith) never in
    on_err c.from_residual.result wants
