-- A placement of a program's code with groups of stores and short branches, and why there is none.
use Rattle.std.specs.Prelude.{◌≡◌, ℕ, ◌≤◌, ◌<◌, Bool, List}
use Rattle.rv_image.specs.Form.{profile_for}
use Rattle.rv_image.specs.MemoryMap.{CODE_SIZE}
use Rattle.rv_image.specs.declared.form.Form.{Form}
use Rattle.obj_program.specs.Program.{Program}
use Rattle.obj_program.specs.Sound.{IsSound}
use Rattle.rv_word.specs.declared.end.End.{End}
use Rattle.rv_word.specs.declared.end.End.TheVariants.{Fault, NoMemory}
use Rattle.cfi_layout.specs.declared.code_too_large.CodeTooLarge.{CodeTooLarge}
use Rattle.cfi_layout.specs.LongSet.{IsLongSet}
use Rattle.cfi_closed.specs.Closed.{ClosedGraph}
use Rattle.cfi_leads.specs.Entered.{Entered}
use Rattle.cfi_map.specs.GraphAtMap.{ProgramAtMap, entered_in, program_at}
use Rattle.cfi_map.specs.Groups.{AreFirstStores}
use Rattle.cfi_map.specs.Placement.{AreGates, whole_at}
use Rattle.cfi_map.specs.Shorts.{shorts_of}
use Rattle.cfi_map.specs.Sizes.{grouped_parts, whole_size}

-- a program at a map, and of each place whether its unit has its whole size
pub record Spaced : Type 0 where
  pub layout : ProgramAtMap
  pub whole : List Bool

pub record IsPlacement (form : Form) (s : Spaced) : Type 0 where
  -- the program is sound: so each branch has a target
  pub sound : IsSound s.layout.program
  -- the code has room, with every branch long and each store alone, so that it has room as it is (`placements_fit`)
  pub room : whole_size form (entered_in s.layout) ≤ CODE_SIZE
  -- parts stand one after another
  pub legal : AreGates (entered_in s.layout) s.whole 0 (profile_for form).units_from s.layout.program.items s.layout.gates
  -- each store that may join the group before it does
  pub groups : AreFirstStores (entered_in s.layout) s.whole
  -- each branch that is not long reaches its target (`placements_fit`), and no fewer branches may be long
  pub least : IsLongSet (profile_for form).units_from (shorts_of (entered_in s.layout)) (grouped_parts (entered_in s.layout) s.whole) (whole_at s.whole)

-- a placement in a form of a program with its closed graph that is entered at a place
pub record IsPlacementOf (form : Form) (program : Program) (closed : ClosedGraph) (entry : ℕ) (s : Spaced) : Type 0 where
  pub of : s.layout ≡ program_at form program closed s.layout.gates entry
  pub placed : IsPlacement form s

-- the code has no room with every branch long and each store alone, or there was no memory
abbrev pub PlaceEnds : Form → Entered → End CodeTooLarge → Type 0
PlaceEnds form of (Fault large) = (large.bytes ≡ whole_size form of) × (CODE_SIZE < large.bytes)
PlaceEnds form of NoMemory = Unit {0}
