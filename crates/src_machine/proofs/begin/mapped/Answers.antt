use Rattle.std.proofs.Common.{◌∙◌, ap}
use Rattle.cfi_map.specs.LegalMap.{gates_of}
use Rattle.src_machine.proofs.Beginnings.{gates_counted, gates_rising, gates_small}
use Rattle.src_machine.proofs.begin.mapped.Goals as goal

pub of-requires-clause-counted : goal.of-requires-clause-counted
of-requires-clause-counted c =
    gates_counted c.args.leads.program c.args.leads.closed c.args.leads.entry c.args.map.now c.requires.legal c.in_ok-gates.gates.items
    (c.in_ok-gates.ensures ∙ ap gates_of c.as_slice.ensures.value)

pub of-requires-clause-near : goal.of-requires-clause-near
of-requires-clause-near c =
    gates_small c.args.map.now c.as_slice.ensures.allowed c.in_ok-gates.gates.items (c.in_ok-gates.ensures ∙ ap gates_of c.as_slice.ensures.value)

pub of-requires-clause-rising : goal.of-requires-clause-rising
of-requires-clause-rising c =
    gates_rising c.args.leads.program c.args.leads.closed c.args.leads.entry c.args.map.now c.requires.legal c.in_ok-gates.gates.items
    (c.in_ok-gates.ensures ∙ ap gates_of c.as_slice.ensures.value)
