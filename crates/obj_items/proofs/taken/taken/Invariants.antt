use Rattle.std.proofs.Common.{◌≡◌, ◌<◌, ℕ, false, length, get_or}
use Rattle.std.specs.Prelude.{is_some}
use Rattle.obj_items.proofs.Prelude.{first_below, no_item, some_takes}
use Rattle.obj_items.proofs.taken.taken.Given as goal

abbrev pub invariant-loop-j : goal.invariant-loop-j
invariant-loop-j l =
    (length l.marks.items ≡ length l.places)
    × ((i : ℕ) → i < length l.places → get_or l.marks.items i false
    ≡ is_some (first_below (some_takes l.input (get_or l.places i no_item).section (get_or l.places i no_item).offset) l.j))
