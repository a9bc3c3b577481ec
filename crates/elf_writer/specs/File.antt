-- An object file of sections: the ELF header, the contents, and the section headers (System V gABI, "Object Files").
use Rattle.std.specs.Prelude.{ℕ, ◌+◌, List, [], ◌∷◌, ◌++◌, length, map, codes}
use Rattle.elf_bytes.specs.declared.places.TheConstants as offsets
use Rattle.elf_writer.specs.declared.heading.Heading.{Heading}
use Rattle.elf_writer.specs.FileLayout.{up8, laid_out, place_of}
use Rattle.elf_writer.specs.Names.{string_table}
use Rattle.elf_writer.specs.Header.{elf_header, header_bytes, names_heading, null_heading}

-- a section: its name, what its header says, and its bytes
pub record Entry : Type 0 where
  pub name : List ℕ
  pub heading : Heading
  pub content : List ℕ

abbrev pub entry : List ℕ → Heading → List ℕ → Entry
entry name heading content = record { name = name; heading = heading; content = content }

abbrev pub names : List Entry → List (List ℕ)
names es = map (λ (e : Entry). e.name) es

abbrev pub contents : List Entry → List (List ℕ)
contents es = map (λ (e : Entry). e.content) es

-- the headers of sections whose names and contents stand from these places on
unfoldable pub headers_from : ℕ → ℕ → List Entry → List ℕ
headers_from name at [] = []
headers_from name at (e ∷ es) =
    header_bytes name (up8 at) e.heading ++ headers_from (name + length e.name + 1) (up8 at + length e.content) es

-- the section headers: that of section 0, and those of the sections, whose names begin after a NUL and whose contents after the ELF header
unfoldable pub table : List Entry → List ℕ
table es = header_bytes 0 0 null_heading ++ headers_from 1 offsets.ELF_HEADER_SIZE es

abbrev pub table_place : List Entry → ℕ
table_place es = place_of offsets.ELF_HEADER_SIZE (contents es) (length es)

-- the file of these sections, the last of which has their names
unfoldable pub file_of : ℕ → List Entry → List ℕ
file_of flags es = elf_header flags (table_place es) (length es) ++ laid_out offsets.ELF_HEADER_SIZE (contents es ++ (table es ∷ []))

-- a table of names
abbrev pub strings_entry : List ℕ → List ℕ → Entry
strings_entry name bytes = entry name (names_heading (length bytes)) bytes

-- with the section that has the names of all, its own among them
abbrev pub all_names : List Entry → List (List ℕ)
all_names es = names es ++ (codes ".shstrtab" ∷ [])

abbrev pub with_names : List Entry → List Entry
with_names es = es ++ (strings_entry (codes ".shstrtab") (string_table (all_names es)) ∷ [])
