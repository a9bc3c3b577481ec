-- How a run of a source machine begins, and why none does.
use Rattle.std.specs.Prelude.{◌≡◌, ℕ, Some, None, List}
use Rattle.cfi_map_text.specs.Map.{MapParts}
use Rattle.obj_program.specs.Program.{Program}
use Rattle.obj_program.specs.Range.{out_of_range}
use Rattle.cfi_closed.specs.Closed.{ClosedGraph}
use Rattle.cfi_leads.specs.Entered.{entered_at}
use Rattle.cfi_map.specs.LegalMap.{IsLegalMap, gates_of}
use Rattle.cfi_map.specs.Placement.{words_from}
use Rattle.cfi_map.specs.MapFault.{IsWrongLine}
use Rattle.cfi_map.specs.GraphAtMap.{program_at}
use Rattle.src_machine.specs.Running.{SourceParts, source_of}
use Rattle.cfi_map.specs.Source.{source_start}
use Rattle.rv_word.specs.declared.end.End.{End}
use Rattle.rv_word.specs.declared.end.End.TheVariants.{Fault, NoMemory}
use Rattle.src_machine.specs.declared.source_fault.SourceFault.{SourceFault}
use Rattle.src_machine.specs.declared.source_fault.SourceFault.TheVariants.{BadMap, RelocRange}

-- a run of a program that is entered at a place, at a map
pub record IsBegun (program : Program) (closed : ClosedGraph) (entry : ℕ) (map : MapParts) (input : List ℕ) (run : SourceParts) : Type 0 where
  pub legal : IsLegalMap program closed entry map
  pub in_range : out_of_range program (gates_of map.lines) (words_from (entered_at program closed entry) 0 (gates_of map.lines)) ≡ None
  pub layout : run.layout ≡ program_at map.form program closed (gates_of map.lines) entry
  pub state : source_of run ≡ source_start run.layout input
  pub steps : run.steps ≡ 0

-- why there is none
abbrev pub Ends : Program → ClosedGraph → ℕ → MapParts → End SourceFault → Type 0
Ends program closed entry map (Fault (BadMap number)) = IsWrongLine program closed entry map number
Ends program closed entry map (Fault (RelocRange section offset)) =
    IsLegalMap program closed entry map
    × (out_of_range program (gates_of map.lines) (words_from (entered_at program closed entry) 0 (gates_of map.lines)) ≡ Some (record { section = section; offset = offset }))
Ends program closed entry map NoMemory = Unit {0}
