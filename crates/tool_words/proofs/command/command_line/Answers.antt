use Rattle.std.proofs.Common.{map, subst}
use Rattle.std.proofs.lemmas.Result.{IfOk-weaker}
use Rattle.tool_words.specs.CommandLine.{AreCommands, commands, form_by, program}
use Rattle.tool_words.proofs.Commands.{all_added, fronted}
use Rattle.tool_words.proofs.command.command_line.Goals as goal

pub returns : goal.returns
returns c =
    let front = fronted c.new.result c.version.result c.about.result c.subcommand_required.result c.disable_help_subcommand.result _ _
    c.new.ensures.app c.new.ensures.local c.version.ensures c.about.ensures c.subcommand_required.ensures c.disable_help_subcommand.ensures in
    let made = subst (λ apps. AreCommands apps c.in_ok-commands.commands.items) c.forms.ensures.made c.in_ok-commands.ensures in
    IfOk-weaker c.subcommands.result _ _
    (λ new adds. all_added (map form_by commands) c.in_ok-commands.commands.items program _ new front made adds)
    c.subcommands.ensures
