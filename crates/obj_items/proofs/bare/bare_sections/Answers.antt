use Rattle.std.proofs.Common.{◌<◌, ◌≤◌, ◌∙◌, ap, length, map, arith}
use Rattle.std.proofs.lemmas.List.{length-map, take_all}
use Rattle.rv_word.proofs.Lists.{map_more}
use Rattle.obj_items.proofs.Prelude.{no_section, bare_section}
use Rattle.obj_items.proofs.bare.bare_sections.Goals as goal

pub loop-k-preserved : goal.loop-k-preserved
loop-k-preserved c =
    let below : c.loop-k.k < length c.args.input.now.sections = omega arith in
    map_more bare_section c.args.input.now.sections c.loop-k.k no_section c.loop-k.sections.items _ _ below c.loop-k.invariant
    (c.in_ok-bare_section.ensures ∙ ap bare_section c.section.ensures) c.in_ok-push.ensures.items

pub returns-clause-value : goal.returns-clause-value
returns-clause-value c =
    let past : length c.args.input.now.sections ≤ c.loop-k.k = omega arith in
    c.loop-k.invariant ∙ ap (map bare_section) (take_all c.loop-k.k c.args.input.now.sections past)

pub returns-clause-few : goal.returns-clause-few
returns-clause-few c =
    let count = ap length (returns-clause-value c) ∙ length-map c.args.input.now.sections bare_section in omega arith
