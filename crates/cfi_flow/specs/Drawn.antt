-- Words of private contracts: the sites of a program as they are drawn place by place, and the lines of a policy that name them.
use Rattle.std.specs.Prelude.{◌≡◌, ℕ, ◌&&◌, not, if◌then◌else◌, Option, Some, None, option_and_then, List, map}
use Rattle.std.specs.List.{position}
use Rattle.std.specs.Option.{is_none, is_some}
use Rattle.obj_input.specs.declared.parts.Func.{Func}
use Rattle.obj_program.specs.declared.item.Item.{Item}
use Rattle.obj_program.specs.Program.{Program, item_of}
use Rattle.cfi_policy.specs.declared.policy.PolicyLine.{PolicyLine}
use Rattle.cfi_flow.specs.declared.draw.Drawing.{Drawing}
use Rattle.cfi_flow.specs.Kept.{AreKept, sites_of}
use Rattle.cfi_flow.specs.Marks.{AreBegun}
use Rattle.cfi_flow.specs.Policy.{misses_target, names_site, place_named, targets_under}
use Rattle.cfi_flow.specs.Sites.{site_kind, sites_below}
use Rattle.cfi_class.specs.Tables.{entry}

abbrev pub no_func : Func
no_func = record { section = 0; offset = 0; size = 0 }

-- what is drawn is kept as it should be, and knows the places of its program
pub record IsOf (program : Program) (drawing : Drawing) : Type 0 where
  pub taken : drawing.taken.items ≡ map (λ (i : Item). i.taken) program.items
  pub begun : AreBegun program program.funcs drawing.begun.items
  pub kept : AreKept drawing

-- the sites of the first places are drawn
pub record IsDrawn (program : Program) (lines : List PolicyLine) (k : ℕ) (drawing : Drawing) : Type 0 where
  pub sites : sites_of drawing ≡ sites_below program (targets_under program lines) k
  pub of : IsOf program drawing

-- the index of the line that names each site
abbrev pub line_for : Program → List PolicyLine → ℕ → Option ℕ
line_for program lines k = position (names_site program k) lines

-- the site that a line may speak of, where a table has the lines before it
abbrev pub site_if_free : Program → List (Option ℕ) → PolicyLine → ℕ → Option ℕ
site_if_free program table line k =
    if is_some (site_kind (item_of program k).kind) && is_none (entry table k) && not (misses_target program line) then Some k else None

abbrev pub free_site : Program → List (Option ℕ) → PolicyLine → Option ℕ
free_site program table line = option_and_then (site_if_free program table line) (place_named program line.site)
