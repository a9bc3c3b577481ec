use Rattle.std.proofs.Common.{ℕ, [], sym, ap, ◌∙◌, List}
use Rattle.std.proofs.lemmas.List.{get_or_default}
use Rattle.cfi_class.specs.Classes.{has}
use Rattle.cfi_class.specs.Tables.{entry, noted}
use Rattle.cfi_class.proofs.Finding.{more_noted}
use Rattle.cfi_class.proofs.table.table_of.Goals as goal

pub loop-i-preserved : goal.loop-i-preserved
loop-i-preserved c =
    let class = get_or_default c.args.classes.now c.loop-i.i [] c.index-classes-i.result c.loop-i-test.true ∙ sym c.index-classes-i.is ∙ sym c.as_slice.ensures in
    more_noted has c.args.classes.now c.args.places c.loop-i.i [] c.loop-i.table.items c.note_all.new.table.items c.loop-i-test.true c.loop-i.invariant
    c.in_ok-note_all.ensures.size
    (λ k. c.in_ok-note_all.ensures.each k
    ∙ ap (λ (xs : List ℕ). noted (entry c.loop-i.table.items k) (has k xs) c.loop-i.i) (sym class))
