-- The source machine: a program at a map runs as the standard says, one instruction a step. It knows no units: where they
-- stand, it sees by the gates and words of its places alone.
use Rattle.std.specs.Prelude.{ℕ, ◌^◌, Option, Some, unwrap_or, List, []}
use Rattle.rv_image.specs.MemoryMap.{DATA_START}
use Rattle.rv_word.specs.Memory.{placed, zeros}
use Rattle.rv_instr.specs.declared.instr.Instr.{Instr}
use Rattle.rv_instr.specs.declared.instr.Instr.TheVariants as I
use Rattle.rv_instr.specs.Registers.{Registers, cleared, set_reg}
use Rattle.rv_code.specs.State.{Shared}
use Rattle.least.specs.declared.place.Place.{Place}
use Rattle.obj_program.specs.AtMap.{instr_at}
use Rattle.obj_program.specs.DataAtMap.{data_at}
use Rattle.obj_program.specs.Range.{out_of_range}
use Rattle.cfi_map.specs.GraphAtMap.{ProgramAtMap, words_at}

pub record Source : Type 0 where
  -- the place of the next instruction; none: it is at the closing
  pub place : Option ℕ
  pub regs : Registers
  pub shared : Shared
  -- the places to which the pending calls return, the newest first
  pub pending : List ℕ

-- the instruction of a place, with the values of its relocations; at a legal map in range only a section's end has none
abbrev pub instr_here : ProgramAtMap → ℕ → Instr
instr_here layout k = unwrap_or (instr_at layout.program layout.gates (words_at layout) k) I.Ebreak

-- where a value first leaves the range of its relocation
abbrev pub first_astray : ProgramAtMap → Option Place
first_astray layout = out_of_range layout.program layout.gates (words_at layout)

-- the initialised data, with the values of their relocations
abbrev pub init_here : ProgramAtMap → List ℕ
init_here layout = unwrap_or (data_at layout.program layout.gates) []

-- a run starts at the entry, which x1 has return to the closing; x2 is the end of the window
abbrev pub source_start : ProgramAtMap → List ℕ → Source
source_start layout input = record {
  place = Some layout.entry;
  regs = set_reg (set_reg cleared 2 (2 ^ 28)) 1 layout.profile.closing;
  shared = record { memory = placed zeros DATA_START (init_here layout); left = input; output = []; events = [] };
  pending = [];
}
