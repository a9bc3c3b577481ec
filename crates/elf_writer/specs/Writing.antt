-- A file that is being written, section by section. Only private contracts cite this.
use Rattle.std.specs.Prelude.{ℕ, List, [], ◌∷◌, ◌++◌, length, drop, replicate, codes}
use Rattle.elf_bytes.specs.declared.places.TheConstants as offsets
use Rattle.elf_writer.specs.declared.writer.Writer.{Writer}
use Rattle.elf_writer.specs.FileLayout.{up8, padded}
use Rattle.elf_writer.specs.Names.{ended}
use Rattle.elf_writer.specs.Header.{elf_header, header_bytes, null_heading}
use Rattle.elf_writer.specs.File.{Entry, strings_entry}

-- room for the ELF header and the contents after it, the section headers, and the names
pub record Written : Type 0 where
  pub body : List ℕ
  pub headers : List ℕ
  pub names : List ℕ

abbrev pub view_of : Writer → Written
view_of w = record { body = w.body.items; headers = w.headers.items; names = w.names.items }

-- room for the ELF header
unfoldable pub room : List ℕ
room = replicate offsets.ELF_HEADER_SIZE 0

-- section 0 alone
abbrev pub begun : Written
begun = record { body = room; headers = header_bytes 0 0 null_heading; names = 0 ∷ [] }

-- with one section more
abbrev pub added : Written → Entry → Written
added w e = record {
  body = padded w.body ++ e.content;
  headers = w.headers ++ header_bytes (length w.names) (up8 (length w.body)) e.heading;
  names = w.names ++ ended e.name;
}

unfoldable pub written : Written → List Entry → Written
written w [] = w
written w (e ∷ es) = written (added w e) es

-- the section of the names, its own among them
abbrev pub own_names : List ℕ → Entry
own_names names = strings_entry (codes ".shstrtab") (names ++ ended (codes ".shstrtab"))

-- the file, with so many sections beside section 0
abbrev pub finished : ℕ → ℕ → Written → List ℕ
finished flags sections w =
    elf_header flags (up8 (length w.body)) sections ++ drop offsets.ELF_HEADER_SIZE (padded w.body ++ w.headers)
