use Rattle.std.proofs.Common.{◌∙◌, ap, sym}
use Rattle.cfi_writer.proofs.Prelude.{Item, ClosedGraph, Entered, in_leaf, is_store, group_at}
use Rattle.cfi_writer.proofs.PlaceUnits.{lean_unit, store_unit}
use Rattle.cfi_writer.proofs.chosen.Chosen.lean_unit.Goals as goal
use Rattle.cfi_writer.proofs.LeanUnits.{lean_version}

pub lean_unit_of-requires : goal.lean_unit_of-requires
lean_unit_of-requires c =
    ap (λ (g : ClosedGraph). g.version) c.closed.ensures.value ∙ lean_version c.args.self.now.layout.closed.version c.requires.lean

pub returns : goal.returns
returns c =
    lean_unit c.args.self.now c.args.k c.in-Some.instr c.item-2.result.kind c.closed.result.now c.is_whole.result c.of-label.result
    (record {
      instr = sym c.in-Some.is ∙ c.requires.instruction;
      kind_is = ap (λ (i : Item). i.kind) c.item-2.ensures;
      closed_is = c.closed.ensures.value;
      whole_is = c.is_whole.ensures;
      label_is = c.of-label.ensures ∙ c.site_label.ensures.value;
    })
    c.lean_unit_of.result c.in_leaf.result c.aim.result c.requires.lean
    (c.in_leaf.ensures ∙ ap (λ (of : Entered). in_leaf of c.args.k) c.leads.ensures) c.aim.ensures
    (c.lean_unit_of.ensures (group_at c.args.self.now c.args.k)
    (ap (λ (i : Item). is_store i.kind) (c.item-2.ensures ∙ sym c.item.ensures) ∙ sym c.is_store.ensures ∙ c.if-is_store.false))

pub returns-then-is_store : goal.returns-then-is_store
returns-then-is_store c =
    store_unit c.args.self.now c.args.k c.stores.result c.in-Some.instr
    (ap (λ (i : Item). is_store i.kind) (sym c.item.ensures) ∙ sym c.is_store.ensures ∙ c.if-is_store.true) (sym c.in-Some.is ∙ c.requires.instruction) c.stores.ensures
