-- The headers of an image, field by field in the order of the file (System V gABI, "ELF Header" and "Program Header").
use Rattle.std.specs.Prelude.{ℕ, ◌+◌, ◌-◌, ◌*◌, ◌/◌, ◌^◌, min, max, nat_le, Bool, ◌&&◌, List, [], ◌∷◌, ◌++◌}
use Rattle.rv_image.specs.declared.version.ImageVersion.{ImageVersion}
use Rattle.rv_image.specs.MemoryMap.{CODE_SIZE, CODE_START, DATA_END, DATA_START, SHADOW_START, START, profile_of}
use Rattle.elf_bytes.specs.declared.places.TheConstants as offsets
use Rattle.elf_bytes.specs.declared.values.TheConstants as values
use Rattle.elf_image.specs.declared.field.Field.{Field}
use Rattle.elf_image.specs.declared.field.Segment.{Segment}

-- an Elf64_Half, an Elf64_Word, and an Elf64_Xword, Elf64_Addr or Elf64_Off
abbrev pub half : ℕ → ℕ → Field
half at value = record { at = at; size = 2; value = value }

abbrev pub word : ℕ → ℕ → Field
word at value = record { at = at; size = 4; value = value }

abbrev pub long : ℕ → ℕ → Field
long at value = record { at = at; size = 8; value = value }

-- e_ident, as one number of 16 bytes
abbrev pub ident : ℕ → Field
ident value = record { at = 0; size = 16; value = value }

-- where the program headers of data, code and the shadow stack begin, and how many bytes the headers have
abbrev pub data_header : ℕ
data_header = offsets.ELF_HEADER_SIZE

abbrev pub code_header : ℕ
code_header = data_header + offsets.PROGRAM_HEADER_SIZE

abbrev pub shadow_header : ℕ
shadow_header = code_header + offsets.PROGRAM_HEADER_SIZE

abbrev pub headers_size : ℕ
headers_size = shadow_header + offsets.PROGRAM_HEADER_SIZE

-- the ELF header of a RISC-V program of three segments; e_ident is 7f "ELF", ELFCLASS64, ELFDATA2LSB, EV_CURRENT and zeros
unfoldable pub elf_header : List Field
elf_header =
    ident values.IDENT
    ∷ half offsets.E_TYPE 2  -- ET_EXEC
    ∷ half offsets.E_MACHINE values.EM_RISCV
    ∷ word offsets.E_VERSION values.EV_CURRENT
    ∷ long offsets.E_ENTRY START
    ∷ long offsets.E_PHOFF data_header
    ∷ long offsets.E_SHOFF 0
    ∷ word offsets.E_FLAGS 0
    ∷ half offsets.E_EHSIZE offsets.ELF_HEADER_SIZE
    ∷ half offsets.E_PHENTSIZE offsets.PROGRAM_HEADER_SIZE
    ∷ half offsets.E_PHNUM 3
    ∷ half offsets.E_SHENTSIZE 0
    ∷ half offsets.E_SHNUM 0
    ∷ half offsets.E_SHSTRNDX 0
    ∷ []

-- the program header at an offset, of a segment that is loaded
unfoldable pub program_header : ℕ → Segment → List Field
program_header at s =
    word at 1  -- p_type: PT_LOAD
    ∷ word (at + offsets.P_FLAGS) s.flags
    ∷ long (at + offsets.P_OFFSET) s.offset
    ∷ long (at + offsets.P_VADDR) s.address
    ∷ long (at + offsets.P_PADDR) s.address
    ∷ long (at + offsets.P_FILESZ) s.file_size
    ∷ long (at + offsets.P_MEMSZ) s.memory_size
    ∷ long (at + offsets.P_ALIGN) 0x1000
    ∷ []

-- where the data of a file with `code` bytes of code begin: on the page after the code
abbrev pub data_start : ℕ → ℕ
data_start code = 0x1000 + (code + 0xfff) / 0x1000 * 0x1000

-- `code` itself exactly where it is an allowed length of code; else another length, so that the field is wrong
abbrev pub code_length : ℕ → ℕ
code_length code = max 4 (min (code / 4 * 4) (2 ^ 20))

-- the length of data that is allowed and nearest to `init`
abbrev pub data_length : ℕ → ℕ
data_length init = min init (2 ^ 25)

-- data: PF_R and PF_W
abbrev pub data_segment : ℕ → ℕ → Segment
data_segment code init = record { flags = 6; offset = data_start code; address = DATA_START; file_size = data_length init; memory_size = DATA_END - DATA_START }

-- code: PF_R and PF_X
abbrev pub code_segment : ℕ → Segment
code_segment code = record { flags = 5; offset = 0x1000; address = CODE_START; file_size = code_length code; memory_size = CODE_SIZE }

-- the shadow stack: PF_R and PF_W, nothing of it in the file; its size is what the versions differ in
abbrev pub shadow_segment : ImageVersion → Segment
shadow_segment version =
    record { flags = 6; offset = 0; address = SHADOW_START; file_size = 0; memory_size = (profile_of version).shadow_size }

-- the fields of a file of a version with `code` bytes of code and `init` of data
abbrev pub fields_of : ImageVersion → ℕ → ℕ → List Field
fields_of version code init =
    elf_header ++ program_header data_header (data_segment code init) ++ program_header code_header (code_segment code)
    ++ program_header shadow_header (shadow_segment version)

-- a field of at most 16 bytes that lies in the headers
abbrev pub is_inside : Field → Bool
is_inside f = nat_le 1 f.size && nat_le f.size 16 && nat_le (f.at + f.size) headers_size
