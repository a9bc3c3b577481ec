-- How many bytes the file of an object has at most.
use Rattle.std.specs.Prelude.{ℕ, ◌+◌, ◌*◌, ◌≤◌, length}
use Rattle.std.specs.List.{sum_by}
use Rattle.elf_writer.specs.Parts.{ObjectParts, RelocationsPart, SectionPart, SymbolPart}
use Rattle.elf_writer.specs.Object.{object_bytes}

-- a section: its bytes with up to 7 zeros before them, its header of 64, its name and a NUL
abbrev pub section_size : SectionPart → ℕ
section_size p = length p.content + length p.name + 72

-- the same of relocations, each of 24 bytes
abbrev pub relocations_size : RelocationsPart → ℕ
relocations_size r = 24 * length r.entries + length r.name + 72

-- a symbol: 24 bytes, its name and a NUL
abbrev pub symbol_size : SymbolPart → ℕ
symbol_size s = length s.name + 25

-- with 400 bytes for the headers, symbol 0, and the three tables that each object has
abbrev pub size_bound : ObjectParts → ℕ
size_bound parts = sum_by section_size parts.sections + sum_by relocations_size parts.relocations + sum_by symbol_size parts.symbols + 400

-- no file has more
abbrev pub ObjectsAreSmall : Type 0
ObjectsAreSmall = (parts : ObjectParts) → length (object_bytes parts) ≤ size_bound parts
