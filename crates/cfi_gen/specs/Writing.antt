-- Code that is being written, line by line; only private contracts cite this.
use Rattle.std.specs.Prelude.{ℕ, List, [], ◌∷◌, ◌++◌, length, map, codes}
use Rattle.elf_tables.specs.declared.entry.Reloc.{Reloc}
use Rattle.elf_writer.specs.Parts.{ObjectParts, SymbolPart}
use Rattle.cfi_gen.specs.declared.text.Text.{Text}
use Rattle.cfi_gen.specs.Lines.{Line, mark_at, word_bytes}
use Rattle.cfi_gen.specs.Demo.{data_part}

-- its bytes and its relocations
pub record Written : Type 0 where
  pub code : List ℕ
  pub relocs : List Reloc

abbrev pub written_in : Text → Written
written_in t = record { code = t.code.items; relocs = t.relocs.items }

abbrev pub nothing : Written
nothing = record { code = []; relocs = [] }

-- with one line more
abbrev pub with_line : Written → Line → Written
with_line w l = record { code = w.code ++ word_bytes l; relocs = w.relocs ++ map (mark_at (length w.code)) l.marks }

unfoldable pub with_lines : Written → List Line → Written
with_lines w [] = w
with_lines w (l ∷ ls) = with_lines (with_line w l) ls

-- the object of written code, the table's relocations and symbols
abbrev pub parts_from : Written → List Reloc → List SymbolPart → ObjectParts
parts_from w pointers symbols = record {
  flags = 0;
  sections = record { name = codes ".text"; kind = 1; flags = 6; size = length w.code; align = 4; content = w.code } ∷ data_part ∷ [];
  relocations =
      record { name = codes ".rela.text"; target = 1; entries = w.relocs }
      ∷ record { name = codes ".rela.data"; target = 2; entries = pointers }
      ∷ [];
  symbols = symbols;
}
