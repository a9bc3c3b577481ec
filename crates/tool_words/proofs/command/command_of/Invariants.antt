use Rattle.std.proofs.Common.{take}
use Rattle.std.specs.List.{fold}
use Rattle.clap.specs.Words.{app_of}
use Rattle.tool_words.specs.CommandLine.{IsCommand, names, with_operand}
use Rattle.tool_words.proofs.command.command_of.Given as goal

abbrev pub invariant-loop-name : goal.invariant-loop-name
invariant-loop-name l = IsCommand (fold with_operand (app_of l.initial.command) (names (take l.name-index l.name-items))) l.command
