-- The part of the prologue before its call of the entry, and that call, by versions. Only private contracts cite this.
use Rattle.std.specs.Prelude.{ℕ, Bool, true, false, List, [], ◌∷◌, ◌++◌}
use Rattle.rv_image.specs.MemoryMap.{Profile, profile_with}
use Rattle.rv_image.specs.declared.version.Versions.{Versions}
use Rattle.rv_instr.specs.declared.instr.Instr.{Instr}
use Rattle.rv_instr.specs.declared.instr.Instr.TheVariants.{Ebreak}
use Rattle.cfi_graph.specs.Graph.{has_leaves}
use Rattle.cfi_unit.specs.declared.unit.Unit as U
use Rattle.cfi_unit.specs.declared.unit.Unit.TheVariants as V
use Rattle.cfi_unit.specs.Prologue.{call_at, lean_set_up, set_up}

-- what sets up both stacks, and the mask of stores where callees save the sites of calls
abbrev pub set_up_by : Bool → Profile → List Instr
set_up_by false p = set_up p
set_up_by true p = lean_set_up p

abbrev pub set_up_with : Versions → List Instr
set_up_with versions = set_up_by (has_leaves versions.graph) (profile_with versions)

-- the three handlers, and what sets up both stacks
abbrev pub before_call : Versions → List Instr
before_call versions = (Ebreak ∷ Ebreak ∷ Ebreak ∷ []) ++ set_up_with versions

-- the unit of the call, and where it begins
abbrev pub call_by : Bool → ℕ → U.Unit
call_by false entry = V.Call entry
call_by true entry = V.LinkCall entry

abbrev pub call_with : Versions → ℕ → U.Unit
call_with versions entry = call_by (has_leaves versions.graph) entry

abbrev pub begins_by : Bool → Profile → ℕ
begins_by false p = call_at p
begins_by true p = p.opening_call

abbrev pub begins_with : Versions → ℕ
begins_with versions = begins_by (has_leaves versions.graph) (profile_with versions)
