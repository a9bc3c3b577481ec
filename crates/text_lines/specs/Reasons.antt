-- The words that name the reasons why a line is refused.
use Rattle.std.specs.Prelude.{ℕ, List, codes}
use Rattle.text_lines.specs.declared.reason.Reason.{Reason}
use Rattle.text_lines.specs.declared.reason.Reason.TheVariants.{Form, Range, Order}

abbrev pub reason_name : Reason → List ℕ
reason_name Form = codes "Form"
reason_name Range = codes "Range"
reason_name Order = codes "Order"
