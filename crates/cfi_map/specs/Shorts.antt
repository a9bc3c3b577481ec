-- The branches of a program that may be written short, as a placement of its parts is asked for them.
use Rattle.std.specs.Prelude.{ℕ, zero, suc, ◌+◌, ◌==◌, ◌&&◌, Bool, true, false, if◌then◌else◌, Option, Some, None, option_map, List, [], ◌∷◌, ◌++◌}
use Rattle.obj_input.specs.declared.item_kind.ItemKind.{ItemKind}
use Rattle.obj_input.specs.declared.item_kind.ItemKind.TheVariants as is
use Rattle.obj_program.specs.Program.{count, item_of}
use Rattle.cfi_layout.specs.declared.short.Short.{Short}
use Rattle.cfi_leads.specs.Entered.{Entered}
use Rattle.cfi_leads.specs.Leads.{lead_size}

abbrev pub is_branch : ItemKind → Bool
is_branch is.Branch = true
is_branch other = false

-- a jump without a word before it, or a stop: what the verifier would read as the second word of a long branch
abbrev pub is_skipped : ItemKind → ℕ → Bool
is_skipped is.Jump lead = lead == 0
is_skipped is.End lead = true
is_skipped kind lead = false

-- a branch over just one such place is kept long
abbrev pub is_kept : Entered → ℕ → ℕ → Bool
is_kept of k target = target == k + 2 && is_skipped (item_of of.program (k + 1)).kind (lead_size of (k + 1))

-- the branch at a place to a target: behind the words of its part that stand before it; where it is kept, it is long wherever it stands
abbrev pub short_to : Entered → ℕ → ℕ → Short
short_to of k target = record { at = k; target = target; lead = lead_size of k; keep = is_kept of k target }

abbrev pub short_at : Entered → ℕ → Option Short
short_at of k = if is_branch (item_of of.program k).kind then option_map (short_to of k) (item_of of.program k).target else None

abbrev pub with_short : List Short → Option Short → List Short
with_short shorts None = shorts
with_short shorts (Some b) = shorts ++ b ∷ []

-- those among the first places, in their order
unfoldable pub shorts_below : Entered → ℕ → List Short
shorts_below of zero = []
shorts_below of (suc k) = with_short (shorts_below of k) (short_at of k)

abbrev pub shorts_of : Entered → List Short
shorts_of of = shorts_below of (count of.program)
