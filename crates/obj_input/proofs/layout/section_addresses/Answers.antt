use Rattle.std.proofs.Common.{arith, ◌∙◌}
use Rattle.obj_input.specs.Input.{is_data_sort, is_zeros_sort}
use Rattle.obj_input.specs.DataLayout.{init_end, section_address}
use Rattle.rv_image.specs.MemoryMap.{DATA_START}
use Rattle.obj_input.proofs.Reach.{listed_begins, listed_next, reach_begins, reach_next, section_address_is, none_small, small_next}
use Rattle.obj_input.proofs.layout.section_addresses.Goals as goal

pub loop-k-init : goal.loop-k-init
loop-k-init c = (
  c.from-init.ensures ∙ reach_begins c.args.input.now is_data_sort DATA_START,
  omega arith,
  c.requires.start ∙ reach_begins c.args.input.now is_zeros_sort (init_end c.args.input.now),
  omega arith,
  c.new-addresses.ensures.items ∙ listed_begins (section_address c.args.input.now),
  none_small _ c.new-addresses.ensures.items,
)

pub loop-k-preserved : goal.loop-k-preserved
loop-k-preserved c = (
  reach_next c.args.input.now is_data_sort DATA_START c.loop-k.k _ _ _ _ c.loop-k.invariant.0 c.section-section.ensures c.is_data.ensures c.after_if-init.ensures.value,
  omega arith,
  reach_next c.args.input.now is_zeros_sort (init_end c.args.input.now) c.loop-k.k _ _ _ _ c.loop-k.invariant.2 c.section-section.ensures c.is_zeros.ensures
      c.after_if-rest.ensures.value,
  omega arith,
  listed_next (section_address c.args.input.now) c.loop-k.k _ _ _ c.loop-k.invariant.4
      (section_address_is c.args.input.now c.loop-k.k _ _ _ _ c.loop-k.invariant.0 c.loop-k.invariant.2 c.section-section.ensures c.address.ensures.value)
      c.in_ok-push.ensures.items,
  small_next _ _ _ c.loop-k.invariant.5 (omega arith) c.in_ok-push.ensures.items,
)
