use Rattle.std.proofs.Common.{◌≡◌, sym, ◌∙◌, ap}
use Rattle.rv_sys.specs.Calls.{Calls}
use Rattle.rv_sys.proofs.LastExit.{last_exit-last, last_exit-none}
use Rattle.rv_sys.proofs.system.System.ended.Goals as goal

pub returns-in-Some : goal.returns-in-Some
returns-in-Some c =
    let list : c.as_slice.result.now ≡ c.args.self.now.events = c.as_slice.ensures ∙ ap (λ (s : Calls). s.events) c.self.view_is in
    let last = rw list at (sym c.in-Some.ensures.value) in
    c.exit_status.ensures ∙ sym (last_exit-last c.args.self.now.events c.in-Some.event.now last)

pub returns-in-None : goal.returns-in-None
returns-in-None c =
    let list : c.as_slice.result.now ≡ c.args.self.now.events = c.as_slice.ensures ∙ ap (λ (s : Calls). s.events) c.self.view_is in
    let none = rw list at (sym c.in-None.ensures.value) in
    sym (last_exit-none c.args.self.now.events none)
