use Rattle.std.proofs.Common.{[], rules, sym, subst}
use Rattle.tool_words.specs.CommandLine.{AreCommands}
use Rattle.tool_words.proofs.Commands.{made_more}
use Rattle.tool_words.proofs.command.commands.Goals as goal

pub loop-form-init : goal.loop-form-init
loop-form-init c = subst (AreCommands []) (sym c.new-commands.ensures.items) tt

pub loop-form-preserved : goal.loop-form-preserved
loop-form-preserved c =
    made_more c.args.forms.now c.loop-form.form-index _ c.loop-form.commands.items _ c.in_ok-command_of.field-0 (search rules) c.in_ok-push.ensures.items c.loop-form.invariant c.in_ok-command_of.ensures
