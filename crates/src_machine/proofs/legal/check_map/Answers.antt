use Rattle.std.proofs.Common.{◌∙◌}
use Rattle.src_machine.proofs.LegalLines.{first_as, first_wrong, legal_whole}
use Rattle.src_machine.proofs.legal.check_map.Goals as goal

pub returns-in-Some : goal.returns-in-Some
returns-in-Some c =
    first_wrong c.args.map.now.form c.args.leads.now.program c.args.leads.now.closed c.args.leads.now.entry c.args.map.now.lines c.in-Some.j
    (first_as c.args.map.now _ c.form.ensures c.in_ok-grouping.ensures c.as_slice.ensures.value c.first_wrong.ensures.value ∙ c.in-Some.is)

pub returns : goal.returns
returns c =
    legal_whole c.args.map.now.form c.args.leads.now.program c.args.leads.now.closed c.args.leads.now.entry c.args.map.now.lines
    (first_as c.args.map.now _ c.form.ensures c.in_ok-grouping.ensures c.as_slice.ensures.value c.first_wrong.ensures.value ∙ c.in-None.is)
