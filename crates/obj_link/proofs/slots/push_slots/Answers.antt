use Rattle.std.proofs.Common.{ap, ◌∙◌, List, ℕ}
use Rattle.std.specs.Prelude.{fold}
use Rattle.obj_link.proofs.Prelude.{section_behind, with_symbol, by, section_said_in}
use Rattle.obj_link.proofs.Slotted.{noted_more, noted_none}
use Rattle.obj_link.proofs.slots.push_slots.Goals as goal

pub loop-k-init : goal.loop-k-init
loop-k-init c = noted_none (by c.args.numbers.now) c.args.slots.now.keys (section_behind c.args.symbols) (section_said_in c.args.object.now)

pub loop-k-preserved : goal.loop-k-preserved
loop-k-preserved c =
    noted_more (by c.args.numbers.now) c.args.slots.now.keys (section_behind c.args.symbols) (section_said_in c.args.object.now) c.loop-k.k c.loop-k.slots.keys _
    c.loop-k.invariant
    (c.in_ok-note_all.ensures ∙ ap (λ (ns : List ℕ). fold with_symbol c.loop-k.slots.keys ns) (c.deref.ensures.value ∙ c.in_ok-used.ensures))
