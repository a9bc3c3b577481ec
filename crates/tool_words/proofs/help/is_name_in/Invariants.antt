use Rattle.std.proofs.Common.{◌≡◌, false, take}
use Rattle.std.specs.List.{list_any}
use Rattle.std.specs.Str.{bytes_eq}
use Rattle.tool_words.proofs.help.is_name_in.Given as goal

-- none of the commands so far has the name
abbrev pub invariant-loop-command : goal.invariant-loop-command
invariant-loop-command l = list_any (λ command. bytes_eq l.name command.name.now) (take l.command-index l.commands) ≡ false
