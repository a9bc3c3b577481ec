-- A program whose stores are grouped, while its branches are made short. Only private contracts cite this.
use Rattle.std.specs.Prelude.{◌≡◌, ℕ, ◌≤◌, if◌then◌else◌, Bool, true, false, List}
use Rattle.rv_image.specs.Form.{profile_for}
use Rattle.rv_image.specs.MemoryMap.{CODE_SIZE}
use Rattle.rv_image.specs.declared.form.Form.{Form}
use Rattle.obj_program.specs.Program.{Program, item_of}
use Rattle.cfi_layout.specs.LongSet.{IsLongSet, starts_under}
use Rattle.cfi_layout.specs.LongSet.{is_branch as is_part}
use Rattle.cfi_layout.specs.Starts.{Placed, flag}
use Rattle.cfi_leads.specs.Entered.{Entered}
use Rattle.cfi_map.specs.Groups.{is_store}
use Rattle.cfi_map.specs.Placement.{whole_at}
use Rattle.cfi_map.specs.Shorts.{shorts_of}
use Rattle.cfi_map.specs.Sizes.{grouped_parts, whole_size}

-- of each place whether its unit has its whole size, by the flags of stores and those of branches
abbrev pub joined : Program → List Bool → List Bool → ℕ → Bool
joined program firsts long k = if is_store (item_of program k).kind then whole_at firsts k else flag long k

-- the parts of a program whose stores are grouped, placed with as many short branches as can be
pub record IsShortened (form : Form) (of : Entered) (firsts : List Bool) (p : Placed) : Type 0 where
  pub room : whole_size form of ≤ CODE_SIZE
  pub starts : p.starts ≡ starts_under (profile_for form).units_from (flag p.long) (shorts_of of) (grouped_parts of firsts)
  pub only : (k : ℕ) → flag p.long k ≡ false → is_part (shorts_of of) k ≡ true
  pub least : IsLongSet (profile_for form).units_from (shorts_of of) (grouped_parts of firsts) (flag p.long)
