use Rattle.std.proofs.Common.{◌≡◌, ◌∙◌, ap}
use Rattle.cfi_compare.proofs.Prelude.{Calls, shared_in}
use Rattle.cfi_compare.proofs.Deciding.{settles}
use Rattle.cfi_compare.proofs.comparing.with_processor.Goals as goal

pub returns : goal.returns
returns c =
    let theirs = (shared_in c.follow.new.processor).events in
    let seen : c.events.result.now ≡ theirs = c.events.ensures ∙ ap (λ (x : Calls). x.events) c.system.ensures in
    (rw seen at c.in_ok-answer.ensures) ∙ settles c.args.events.now c.args.turn _ theirs c.in_ok-end.end c.in_ok-end.index c.in_ok-end.ensures
