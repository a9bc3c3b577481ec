-- A rule and a reject as they are printed: lengths are decimal, addresses have eight hexadecimal digits.
use Rattle.std.specs.Prelude.{ℕ, List, ◌++◌, codes}
use Rattle.std.specs.Fmt.{decimal}
use Rattle.text_lines.specs.Hex.{hex_text}
use Rattle.cfi_rules.specs.declared.reject.Reject.{Reject}
use Rattle.cfi_rules.specs.declared.reject.Reject.TheVariants.{Length, At}
use Rattle.cfi_rules.specs.declared.reject.Rule.{Rule}
use Rattle.cfi_rules.specs.declared.reject.Rule.TheVariants.{Prologue, Unit as UnitRule, Leaf, Target, Unlisted, Unused, Site, Gate, Astray, End}

abbrev pub rule_text : Rule → List ℕ
rule_text Prologue = codes "Prologue"
rule_text UnitRule = codes "Unit"
rule_text Leaf = codes "Leaf"
rule_text Target = codes "Target"
rule_text Unlisted = codes "Unlisted"
rule_text Unused = codes "Unused"
rule_text Site = codes "Site"
rule_text Gate = codes "Gate"
rule_text Astray = codes "Astray"
rule_text End = codes "End"

abbrev pub reject_text : Reject → List ℕ
reject_text (Length code graph) = codes "Length " ++ decimal code ++ codes " " ++ decimal graph
reject_text (At rule address) = rule_text rule ++ codes " " ++ hex_text 8 address
