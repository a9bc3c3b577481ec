use Rattle.std.proofs.Common.{◌∙◌, ap, sym}
use Rattle.cfi_writer.proofs.Prelude.{Item, is_store, group_at}
use Rattle.cfi_writer.proofs.PlaceUnits.{full_unit, store_unit}
use Rattle.cfi_writer.proofs.chosen.Chosen.full_unit.Goals as goal

pub returns : goal.returns
returns c =
    full_unit c.args.self.now c.args.k c.in-Some.instr c.item-2.result.kind c.closed.result.now c.is_whole.result c.of-label.result
    (record {
      instr = sym c.in-Some.is ∙ c.requires.instruction;
      kind_is = ap (λ (i : Item). i.kind) c.item-2.ensures;
      closed_is = c.closed.ensures.value;
      whole_is = c.is_whole.ensures;
      label_is = c.of-label.ensures ∙ c.site_label.ensures.value;
    })
    c.unit_of.result c.target.result c.requires.full c.target.ensures
    (c.unit_of.ensures (group_at c.args.self.now c.args.k)
    (ap (λ (i : Item). is_store i.kind) (c.item-2.ensures ∙ sym c.item.ensures) ∙ sym c.is_store.ensures ∙ c.if-is_store.false))

pub returns-then-is_store : goal.returns-then-is_store
returns-then-is_store c =
    store_unit c.args.self.now c.args.k c.stores.result c.in-Some.instr
    (ap (λ (i : Item). is_store i.kind) (sym c.item.ensures) ∙ sym c.is_store.ensures ∙ c.if-is_store.true) (sym c.in-Some.is ∙ c.requires.instruction) c.stores.ensures
