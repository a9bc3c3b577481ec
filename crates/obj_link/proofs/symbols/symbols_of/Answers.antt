use Rattle.std.proofs.Common.{ap, refl, sym, ◌∙◌}
use Rattle.obj_link.proofs.Prelude.{e_shnum, Said}
use Rattle.obj_link.proofs.Together.{next_sum, next_symbols, said_none}
use Rattle.obj_link.proofs.symbols.symbols_of.Goals as goal

pub loop-object-init : goal.loop-object-init
loop-object-init c = (c.new-symbols.ensures.items ∙ sym (ap (λ (s : Said). s.symbols) said_none), refl)

pub loop-object-preserved : goal.loop-object-preserved
loop-object-preserved c = (
  next_symbols c.args.objects.now c.loop-object.object-index c.loop-object.sections c.object-item.result _ _ c.loop-object-test.true c.object-item.is
      c.loop-object.invariant.0 c.loop-object.invariant.1 c.in_ok-push_symbols.ensures,
  rw (c.loop-object.invariant.1, c.sections-sections.ensures.value)
      (sym (next_sum e_shnum c.args.objects.now c.loop-object.object-index c.object-item.result c.loop-object-test.true c.object-item.is)),
)
