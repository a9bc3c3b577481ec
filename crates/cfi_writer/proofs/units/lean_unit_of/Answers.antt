use Rattle.std.proofs.Common.{◌∙◌}
use Rattle.cfi_writer.proofs.PlaceUnits.{lean_as_full, no_lean_kind}
use Rattle.cfi_writer.proofs.units.lean_unit_of.Goals as goal

pub returns-in-Gate : goal.returns-in-Gate
returns-in-Gate c group store =
    let a = c.args in
    c.unit_of.ensures group store
    ∙ lean_as_full a.closed.now.version a.closed.now.calls a.inside a.kind a.instr.now a.whole a.target a.label group c.requires (no_lean_kind a.kind c.in-Gate.is)
