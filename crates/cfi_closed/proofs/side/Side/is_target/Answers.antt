use Rattle.std.proofs.Common.{[], ◌∙◌, ap}
use Rattle.std.specs.Option.{is_some}
use Rattle.cfi_class.specs.Classes.{has}
use Rattle.cfi_class.proofs.Finding.{some_is_any}
use Rattle.cfi_closed.proofs.side.Side.is_target.Goals as goal

pub returns : goal.returns
returns c = c.is_some.ensures ∙ ap is_some c.class_at.ensures ∙ some_is_any (has c.args.place) c.args.self.now.classes []
