-- The input that a generated object is: what each of its symbols stands for, its two sections with their relocations, and its names.
use Rattle.std.specs.Prelude.{◌≡◌, ◌≢◌, ℕ, zero, suc, List, [], map, get_or}
use Rattle.elf_tables.specs.declared.entry.Reloc.{Reloc}
use Rattle.elf_writer.specs.Parts.{SymbolPart}
use Rattle.elf_writer.specs.Right.{no_symbol}
use Rattle.obj_input.specs.declared.parts.Definition.{Definition}
use Rattle.obj_input.specs.declared.parts.Definition.TheVariants.{Zero, Within}
use Rattle.obj_input.specs.declared.parts.Sort.TheVariants.{Code, Data, Dropped}
use Rattle.obj_input.specs.declared.parts.Relocation.{Relocation}
use Rattle.obj_input.specs.Input.{InputParts, Named, SectionParts, section_count, section_of}
use Rattle.cfi_gen.specs.declared.function.Function.{Function}
use Rattle.cfi_gen.specs.Lines.{code_bytes, code_size, relocs_from}
use Rattle.cfi_gen.specs.Code.{program_lines}
use Rattle.cfi_gen.specs.Demo.{parts_with, table_bytes, table_relocs}

-- the symbols, of which the first has the number 1
abbrev pub symbols_of : List Function → List SymbolPart
symbols_of fs = (parts_with fs).symbols

-- each symbol stands for an offset in a section
abbrev pub symbol_definition : List Function → ℕ → Definition
symbol_definition fs zero = Zero
symbol_definition fs (suc n) = Within (get_or (symbols_of fs) n no_symbol).section (get_or (symbols_of fs) n no_symbol).value

abbrev pub use_of : List Function → Reloc → Relocation
use_of fs r = record { offset = r.offset; number = r.kind; addend = r.addend; definition = symbol_definition fs r.symbol }

-- section 1, code
abbrev pub text_section : List Function → SectionParts
text_section fs = record {
  sort = Code;
  size = code_size (program_lines fs);
  align = 4;
  content = code_bytes (program_lines fs);
  uses = map (use_of fs) (relocs_from 0 (program_lines fs));
}

-- section 2, the table
abbrev pub table_section : List Function → SectionParts
table_section fs = record { sort = Data; size = 16000; align = 8; content = table_bytes; uses = map (use_of fs) (table_relocs 2000 0) }

abbrev pub named_of : SymbolPart → Named
named_of s = record { name = s.name; definition = Within s.section s.value }

-- an input is that of the object with these functions
pub record IsGenerated (fs : List Function) (input : InputParts) : Type 0 where
  pub count : section_count input ≡ 8
  pub text : section_of input 1 ≡ text_section fs
  pub table : section_of input 2 ≡ table_section fs
  pub dropped : (k : ℕ) → k ≢ 1 → k ≢ 2 → (section_of input k).sort ≡ Dropped
  pub unused : (k : ℕ) → k ≢ 1 → k ≢ 2 → (section_of input k).uses ≡ []
  pub blocks : input.blocks ≡ []
  pub names : input.names ≡ map named_of (symbols_of fs)
