-- Code as lines: each an instruction with its relocations.
use Rattle.std.specs.Prelude.{ℕ, ◌+◌, ◌*◌, List, [], ◌∷◌, ◌++◌, length, map}
use Rattle.std.specs.List.{flat_map}
use Rattle.byteorder.specs.Endian.{little_bytes}
use Rattle.elf_tables.specs.declared.entry.Reloc.{Reloc}
use Rattle.rv_instr.specs.declared.instr.Instr.{Instr}
use Rattle.rv_code.specs.Encode.{code_of}
use Rattle.cfi_gen.specs.declared.mark.Mark.{Mark}

pub record Line : Type 0 where
  pub instr : Instr
  pub marks : List Mark

abbrev pub marked : Instr → List Mark → Line
marked instr marks = record { instr = instr; marks = marks }

-- without a relocation
abbrev pub plain : Instr → Line
plain instr = marked instr []

-- the relocation of an instruction at `at`
abbrev pub mark_at : ℕ → Mark → Reloc
mark_at at m = record { offset = at; symbol = m.symbol; kind = m.kind; addend = m.addend }

abbrev pub word_bytes : Line → List ℕ
word_bytes l = little_bytes 4 (code_of l.instr)

-- the bytes of lines
unfoldable pub code_bytes : List Line → List ℕ
code_bytes ls = flat_map word_bytes ls

-- the relocations of lines that stand from `at` on
unfoldable pub relocs_from : ℕ → List Line → List Reloc
relocs_from at [] = []
relocs_from at (l ∷ ls) = map (mark_at at) l.marks ++ relocs_from (at + 4) ls

-- how many bytes lines have
abbrev pub code_size : List Line → ℕ
code_size ls = 4 * length ls
