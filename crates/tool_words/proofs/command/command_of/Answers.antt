use Rattle.std.proofs.Common.{refl, rules, subst}
use Rattle.std.proofs.lemmas.Result.{IfOk-weaker}
use Rattle.clap.specs.Words.{App, app_of}
use Rattle.tool_words.specs.CommandLine.{IsCommand, with_operand}
use Rattle.tool_words.proofs.Commands.{added, begun, ended, objects_added, one_more, wanted, without_objects}
use Rattle.tool_words.proofs.command.command_of.Goals as goal

pub loop-name-init : goal.loop-name-init
loop-name-init c = (refl, (begun _ c.new.result c.about-command.result _ refl c.new.ensures.local c.about-command.ensures).1)

pub loop-name-preserved : goal.loop-name-preserved
loop-name-preserved c =
    let word = wanted _ c.new-in-loop-name.result c.required.result c.help.result _ c.new-in-loop-name.ensures.rule c.new-in-loop-name.ensures.optional.1 c.required.ensures c.help.ensures in
    subst (λ (app : App). IsCommand app c.in_ok-command.command)
    (one_more with_operand (λ o. o.0.now) (app_of c.about-command.result) _ c.loop-name.name-index _ (search rules))
    (added _ c.loop-name.command c.in_ok-command.command c.help.result _ c.loop-name.invariant word.0 word.1 c.in_ok-command.ensures)

pub returns-then-form : goal.returns-then-form
returns-then-form c =
    let told = begun _ c.new.result c.about-command.result _ c.new.ensures.app c.new.ensures.local c.about-command.ensures in
    let has = ended _ _ c.about-command.result c.loop-name.command c.loop-name.name-index told.0 (search rules) c.loop-name.invariant in
    IfOk-weaker c.arg-then-form.result _ _
    (λ new adds. objects_added c.args.form.now c.loop-name.command new c.objects.result c.if-form.true has c.objects.ensures adds) c.arg-then-form.ensures

pub returns : goal.returns
returns c =
    let told = begun _ c.new.result c.about-command.result _ c.new.ensures.app c.new.ensures.local c.about-command.ensures in
    let has = ended _ _ c.about-command.result c.loop-name.command c.loop-name.name-index told.0 (search rules) c.loop-name.invariant in
    without_objects c.args.form.now c.loop-name.command c.if-form.false has
