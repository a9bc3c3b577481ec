-- Words of private contracts: where the line of the leaf stands in which an address lies.
use Rattle.std.specs.Prelude.{◌≡◌, ℕ, ◌<◌, nat_le, Bool, true, false, List, slice_get, Option, Some, None, if◌then◌else◌}
use Rattle.cfi_graph.specs.declared.line.GraphLine.{GraphLine}
use Rattle.cfi_graph.specs.declared.line.GraphLine.TheVariants.{Calls, Leaf}
use Rattle.cfi_pending.specs.Kinds as kinds
use Rattle.cfi_pending.specs.Kinds.{in_leaf}

-- a line stands before that of any leaf in which an address lies
abbrev pub is_past : ℕ → GraphLine → Bool
is_past a (Calls numbers) = true
is_past a (Leaf from to) = nat_le to a
is_past a other = false

-- so do all lines before a place
abbrev pub ArePast : List GraphLine → ℕ → ℕ → Type 0
ArePast lines count a = (i : ℕ) (line : GraphLine) → i < count → slice_get lines i ≡ Some line → is_past a line ≡ true

-- a leaf, if an address lies in it
abbrev pub if_in : ℕ → kinds.Leaf → Option kinds.Leaf
if_in a leaf = if in_leaf a leaf then Some leaf else None

-- the leaf of a line, if an address lies in it
abbrev pub leaf_in : ℕ → GraphLine → Option kinds.Leaf
leaf_in a (Leaf from to) = if_in a (record { from = from; to = to })
leaf_in a other = None
