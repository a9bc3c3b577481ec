-- What an object is made of, as lists and numbers.
use Rattle.std.specs.Prelude.{ℕ, List, map}
use Rattle.elf_tables.specs.declared.entry.Reloc.{Reloc}
use Rattle.elf_writer.specs.declared.parts.Section.{Section}
use Rattle.elf_writer.specs.declared.parts.Symbol.{Symbol}
use Rattle.elf_writer.specs.declared.parts.Relocations.{Relocations}
use Rattle.elf_writer.specs.declared.parts.Parts.{Parts}

-- a section: its name, sh_type, sh_flags, sh_size and sh_addralign, and its bytes
pub record SectionPart : Type 0 where
  pub name : List ℕ
  pub kind : ℕ
  pub flags : ℕ
  pub size : ℕ
  pub align : ℕ
  pub content : List ℕ

-- the relocations of the section with the index `target`, and the name of their own section
pub record RelocationsPart : Type 0 where
  pub name : List ℕ
  pub target : ℕ
  pub entries : List Reloc

-- a symbol: its name, st_info, st_shndx, st_value and st_size
pub record SymbolPart : Type 0 where
  pub name : List ℕ
  pub info : ℕ
  pub section : ℕ
  pub value : ℕ
  pub size : ℕ

-- an object: its e_flags, its sections, with the indexes from 1 on, the relocations, with the indexes after those, and its symbols, with
-- the numbers from 1 on
pub record ObjectParts : Type 0 where
  pub flags : ℕ
  pub sections : List SectionPart
  pub relocations : List RelocationsPart
  pub symbols : List SymbolPart

-- the parts that a program holds
abbrev pub section_of : Section → SectionPart
section_of s = record { name = s.name.now; kind = s.kind; flags = s.flags; size = s.size; align = s.align; content = s.content.now }

abbrev pub relocations_of : Relocations → RelocationsPart
relocations_of r = record { name = r.name.now; target = r.target; entries = r.entries.now }

abbrev pub symbol_of : Symbol → SymbolPart
symbol_of s = record { name = s.name; info = s.info; section = s.section; value = s.value; size = s.size }

abbrev pub parts_of : Parts → ObjectParts
parts_of p = record {
  flags = p.flags;
  sections = map section_of p.sections.now;
  relocations = map relocations_of p.relocations.now;
  symbols = map symbol_of p.symbols.now;
}

abbrev pub symbol_names : List SymbolPart → List (List ℕ)
symbol_names ss = map (λ (s : SymbolPart). s.name) ss
