use Rattle.std.proofs.Common.{◌≡◌, ◌<◌, ℕ, ◌||◌, false, length, get_or, take}
use Rattle.std.specs.List.{list_any}
use Rattle.obj_items.proofs.Prelude.{no_item, takes}
use Rattle.obj_items.proofs.taken.mark_section.Given as goal

abbrev pub invariant-loop-u : goal.invariant-loop-u
invariant-loop-u l =
    (length l.marks.items ≡ length l.places)
    × ((i : ℕ) → i < length l.places → get_or l.marks.items i false
    ≡ (get_or l.initial.marks.items i false || list_any (takes (get_or l.places i no_item).section (get_or l.places i no_item).offset) (take l.u-index l.uses)))
