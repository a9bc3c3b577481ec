-- How many bytes the parts of a program's code have. The part of a place is the words before its unit, if there are any,
-- and its unit.
use Rattle.std.specs.Prelude.{ℕ, ◌+◌, Bool, not, ◌||◌, List, [], ◌∷◌}
use Rattle.rv_image.specs.Form.{profile_for}
use Rattle.rv_image.specs.declared.form.Form.{Form}
use Rattle.obj_program.specs.declared.item.Item.{Item}
use Rattle.cfi_layout.specs.Starts.{code_size}
use Rattle.cfi_leads.specs.Entered.{Entered}
use Rattle.cfi_leads.specs.Leads.{lead_size}
use Rattle.cfi_map.specs.Groups.{is_store}
use Rattle.cfi_map.specs.Placement.{size_of, whole_at}

-- the parts of places from index k on, where these flags say which units have their whole size
unfoldable pub part_sizes : Entered → List Bool → ℕ → List Item → List ℕ
part_sizes of whole k [] = []
part_sizes of whole k (item ∷ items) = (lead_size of k + size_of of k item (whole_at whole k)) ∷ part_sizes of whole (k + 1) items

-- the same where each branch is long, and these flags say which stores have their whole size
unfoldable pub grouped_sizes : Entered → List Bool → ℕ → List Item → List ℕ
grouped_sizes of whole k [] = []
grouped_sizes of whole k (item ∷ items) =
    (lead_size of k + size_of of k item (whole_at whole k || not (is_store item.kind))) ∷ grouped_sizes of whole (k + 1) items

-- the parts of a program whose units all have their whole size
abbrev pub whole_sizes : Entered → List ℕ
whole_sizes of = part_sizes of [] 0 of.program.items

-- how many bytes its code then has in a form, the prologue counted
abbrev pub whole_size : Form → Entered → ℕ
whole_size form of = code_size (profile_for form).units_from (whole_sizes of)

-- the parts of a program whose branches are long and whose stores are grouped
abbrev pub grouped_parts : Entered → List Bool → List ℕ
grouped_parts of whole = grouped_sizes of whole 0 of.program.items
