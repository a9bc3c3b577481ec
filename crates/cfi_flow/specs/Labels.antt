-- The labels that a program has for itself: the numbers that its instructions `lui x0` carry, in their order.
use Rattle.std.specs.Prelude.{ℕ, ◌/◌, ◌^◌, Bool, true, false, List, filter, map}
use Rattle.obj_input.specs.declared.item_kind.ItemKind.{ItemKind}
use Rattle.obj_input.specs.declared.item_kind.ItemKind.TheVariants as is
use Rattle.obj_program.specs.declared.item.Item.{Item}
use Rattle.obj_program.specs.Program.{Program}

abbrev pub is_gate : ItemKind → Bool
is_gate is.Gate = true
is_gate other = false

-- LUI has its number in the bits from 12 on (RISC-V Unprivileged ISA, "Integer Register-Immediate Instructions")
abbrev pub used_labels : Program → List ℕ
used_labels program = map (λ (i : Item). i.word / 2 ^ 12) (filter (λ (i : Item). is_gate i.kind) program.items)
