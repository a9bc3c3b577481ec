-- What follows of each placement: its code has room as it is, and each short branch reaches; and how many bytes groups save.
use Rattle.std.specs.Prelude.{◌≡◌, ℕ, ◌+◌, ◌-◌, ◌≤◌, ◌<◌, not, ◌&&◌, if◌then◌else◌, Bool, true, false, Some, List, [], ◌∷◌}
use Rattle.rv_image.specs.Form.{profile_for}
use Rattle.rv_image.specs.MemoryMap.{CODE_SIZE}
use Rattle.rv_image.specs.declared.form.Form.{Form}
use Rattle.obj_program.specs.declared.item.Item.{Item}
use Rattle.obj_program.specs.Program.{count, item_of}
use Rattle.cfi_layout.specs.Starts.{code_size}
use Rattle.cfi_leads.specs.Entered.{Entered}
use Rattle.cfi_map.specs.GraphAtMap.{ProgramAtMap, entered_in, gate, word}
use Rattle.cfi_map.specs.Groups.{is_store}
use Rattle.cfi_map.specs.Placement.{size_of, whole_at}
use Rattle.cfi_map.specs.Placing.{IsPlacement, Spaced}
use Rattle.cfi_map.specs.Shorts.{is_branch, is_kept}
use Rattle.cfi_map.specs.Sizes.{grouped_parts, part_sizes, whole_size}

-- a short branch reaches its target, and is not kept
pub record IsShortAt (layout : ProgramAtMap) (k target : ℕ) : Type 0 where
  pub back : word layout k ≤ gate layout target + 4096
  pub ahead : gate layout target ≤ word layout k + 4092
  pub free : is_kept (entered_in layout) k target ≡ false

-- with every branch long, how many bytes later members of groups save: each the mask that it would have
unfoldable pub saved_bytes : Entered → List Bool → ℕ → List Item → ℕ
saved_bytes of whole k [] = 0
saved_bytes of whole k (item ∷ items) =
    (if is_store item.kind && not (whole_at whole k) then size_of of k item true - 4 else 0) + saved_bytes of whole (k + 1) items

-- and how many bytes the code then has
abbrev pub grouped_size : Form → Entered → List Bool → ℕ
grouped_size form of whole = code_size (profile_for form).units_from (grouped_parts of whole)

pub record Fits (form : Form) (s : Spaced) : Type 0 where
  -- the code has room
  pub size : code_size (profile_for form).units_from (part_sizes (entered_in s.layout) s.whole 0 s.layout.program.items) ≤ CODE_SIZE
  -- with every branch long it is shorter by the masks that later members of groups would have
  pub shorter : grouped_size form (entered_in s.layout) s.whole + saved_bytes (entered_in s.layout) s.whole 0 s.layout.program.items
      ≡ whole_size form (entered_in s.layout)
  -- each branch that is not long reaches its target
  pub shorts : (k target : ℕ) → k < count s.layout.program → is_branch (item_of s.layout.program k).kind ≡ true → whole_at s.whole k ≡ false →
      (item_of s.layout.program k).target ≡ Some target → IsShortAt s.layout k target

abbrev pub PlacementsFit : Type 0
PlacementsFit = (form : Form) (s : Spaced) → IsPlacement form s → Fits form s
