use Rattle.std.proofs.Common.{◌∙◌, sym}
use Rattle.obj_items.proofs.Data.{init_begins, init_next, init_passed}
use Rattle.obj_items.proofs.init.init.Goals as goal
use Rattle.obj_items.proofs.init.init.Goals.{then-is_data+in_ok-put_section, else-is_data}

pub loop-k-init : goal.loop-k-init
loop-k-init c = c.new-init.ensures ∙ init_begins c.args.input.now

pub loop-k-preserved : goal.loop-k-preserved
loop-k-preserved c =
    elim c.if-is_data.branch [
      | then-is_data+in_ok-put_section w ↦
          rw w.init-is
          (init_next c.args.input.now c.loop-k.k _ _ c.loop-k.invariant c.section-section.ensures _ _ _ (sym w.if-is_data.true ∙ c.is_data.ensures)
          w.section_address-address.ensures.value (λ i. c.section-section.result.now.content) w.in_ok-put_section.ensures)
      | else-is_data w ↦
          rw w.init-is
          (init_passed c.args.input.now c.loop-k.k _ _ c.loop-k.invariant c.section-section.ensures (sym w.if-is_data.false ∙ c.is_data.ensures))
    ]
