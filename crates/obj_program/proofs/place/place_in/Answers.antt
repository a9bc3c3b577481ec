use Rattle.std.proofs.Common.{sym, ap, ◌∙◌, arith}
use Rattle.std.proofs.lemmas.List.{get_or_default}
use Rattle.obj_program.specs.Program.{is_spot, no_item}
use Rattle.obj_program.proofs.Ordered.{place_is, no_place}
use Rattle.obj_program.proofs.place.place_in.Goals as goal
use Rattle.obj_program.proofs.place.place_in.Goals.{else-k-items-via-then-k-items+else-is_at, else-k-items-via-else-k-items}

pub returns-then-is_at : goal.returns-then-is_at
returns-then-is_at c =
    place_is c.args.items.now c.requires c.args.section c.args.offset _ c.count_before-k.ensures.bound c.count_before-k.ensures.before _ c.if-k-items.true
    (rw c.from.ensures at (ap (is_spot c.args.section c.from.result) (sym c.index-items-k.is) ∙ sym c.is_at.ensures ∙ c.if-is_at.true))

pub returns-else-k-items : goal.returns-else-k-items
returns-else-k-items c =
    no_place c.args.items.now c.requires c.args.section c.args.offset _ c.count_before-k.ensures.bound c.count_before-k.ensures.before
    c.count_before-k.ensures.from no_item
    (λ below. elim c.else-k-items.branch [
      | else-k-items-via-then-k-items+else-is_at w ↦
          rw w.from.ensures at (ap (is_spot c.args.section w.from.result) (get_or_default c.args.items.now _ no_item _ below ∙ sym w.index-items-k.is) ∙ sym w.is_at.ensures ∙ w.if-is_at.false)
      | else-k-items-via-else-k-items w ↦ absurd (omega arith)
    ])
