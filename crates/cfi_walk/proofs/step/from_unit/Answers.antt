use Rattle.cfi_walk.proofs.step.from_unit.Goals as goal

pub returns-in-Branch : goal.returns-in-Branch
returns-in-Branch c = rw c.in-Branch.is c.to_either.ensures

pub returns-in-Near : goal.returns-in-Near
returns-in-Near c = rw c.in-Near.is c.to_either-in-Near.ensures

pub returns-in-Guarded : goal.returns-in-Guarded
returns-in-Guarded c = rw c.in-Guarded.is c.to_either-in-Guarded.ensures

pub returns-in-Call : goal.returns-in-Call
returns-in-Call c = rw c.in-Call.is c.call.ensures

pub returns-in-Ijump : goal.returns-in-Ijump
returns-in-Ijump c = rw c.in-Ijump.is (rw c.bits.ensures.value at c.computed_jump.ensures)

pub returns-in-Icall : goal.returns-in-Icall
returns-in-Icall c = rw c.in-Icall.is (rw c.bits-in-Icall.ensures.value at c.computed_call.ensures)

pub returns-in-LeanIjump : goal.returns-in-LeanIjump
returns-in-LeanIjump c = rw c.in-LeanIjump.is (rw c.bits-in-LeanIjump.ensures.value at c.computed_jump-in-LeanIjump.ensures)

pub returns-in-LinkCall : goal.returns-in-LinkCall
returns-in-LinkCall c = rw c.in-LinkCall.is c.link.ensures

pub returns-in-Enter : goal.returns-in-Enter
returns-in-Enter c = rw c.in-Enter.is c.saved.ensures

pub returns-in-LeanIcall : goal.returns-in-LeanIcall
returns-in-LeanIcall c = rw c.in-LeanIcall.is (rw c.bits-in-LeanIcall.ensures.value at c.computed_link.ensures)

pub returns-in-LeafReturn : goal.returns-in-LeafReturn
returns-in-LeafReturn c = rw c.in-LeafReturn.is c.returned_from_leaf.ensures
