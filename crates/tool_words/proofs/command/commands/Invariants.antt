use Rattle.std.proofs.Common.{map, take}
use Rattle.tool_words.specs.CommandLine.{AreCommands, form_of}
use Rattle.tool_words.proofs.command.commands.Given as goal

abbrev pub invariant-loop-form : goal.invariant-loop-form
invariant-loop-form l = AreCommands (map form_of (take l.form-index l.fn.forms)) l.commands.items
