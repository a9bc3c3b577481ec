use Rattle.std.proofs.Common.{sym, ap, ◌∙◌, arith}
use Rattle.std.proofs.lemmas.List.{get_or_default}
use Rattle.obj_program.specs.Program.{is_spot, no_item}
use Rattle.obj_program.proofs.Ordered.{place_is, no_place}
use Rattle.cfi_flow.proofs.named.place_at.Goals as goal
use Rattle.cfi_flow.proofs.named.place_at.Goals.{else-k-places-via-then-k-places+else-is_at, else-k-places-via-else-k-places}

pub returns-then-is_at : goal.returns-then-is_at
returns-then-is_at c =
    place_is c.args.places.now c.requires c.args.section c.args.offset _ c.count_before-k.ensures.bound c.count_before-k.ensures.before _ c.if-k-places.true
    (ap (is_spot c.args.section c.args.offset) (sym c.index-places-k.is) ∙ sym c.is_at.ensures ∙ c.if-is_at.true)

pub returns-else-k-places : goal.returns-else-k-places
returns-else-k-places c =
    no_place c.args.places.now c.requires c.args.section c.args.offset _ c.count_before-k.ensures.bound c.count_before-k.ensures.before
    c.count_before-k.ensures.from no_item
    (λ below. elim c.else-k-places.branch [
      | else-k-places-via-then-k-places+else-is_at w ↦
          ap (is_spot c.args.section c.args.offset) (get_or_default c.args.places.now _ no_item _ below ∙ sym w.index-places-k.is) ∙ sym w.is_at.ensures ∙ w.if-is_at.false
      | else-k-places-via-else-k-places w ↦ absurd (omega arith)
    ])
