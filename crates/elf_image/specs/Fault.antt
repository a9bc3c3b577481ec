-- What is wrong with a file that is no image: the first of these in the order of the file, but lengths go before padding.
use Rattle.std.specs.Prelude.{ℕ, ◌+◌, nat_lt, ◌==◌, not, if◌then◌else◌, Option, Some, None, option_map, List, [], ◌∷◌, length, position, slice_range}
use Rattle.std.specs.Option.{option_or}
use Rattle.rv_image.specs.declared.version.ImageVersion.{ImageVersion}
use Rattle.rv_image.specs.declared.version.ImageVersion.TheVariants.{OneHart, EightHarts}
use Rattle.rv_image.specs.MemoryMap.{version_2}
use Rattle.elf_bytes.specs.Fields.{number_at}
use Rattle.elf_bytes.specs.declared.places.TheConstants as offsets
use Rattle.elf_image.specs.declared.field.Field.{Field}
use Rattle.elf_image.specs.declared.refusal.ImageRefusal.{ImageRefusal}
use Rattle.elf_image.specs.declared.refusal.ImageRefusal.TheVariants.{Short, Byte, Long}
use Rattle.elf_image.specs.Header.{code_header, data_header, shadow_header, headers_size, fields_of, data_start}

-- the offset of the first of these fields that has another value
unfoldable pub first_wrong : List ℕ → List Field → Option ℕ
first_wrong bytes [] = None
first_wrong bytes (f ∷ fs) = if number_at bytes f.at f.size == f.value then first_wrong bytes fs else Some f.at

-- the offset of the first byte from `from` up to `to` that is not zero
unfoldable pub first_nonzero : List ℕ → ℕ → ℕ → Option ℕ
first_nonzero bytes from to = option_map (λ k. from + k) (position (λ b. not (b == 0)) (slice_range bytes from to))

-- the lengths of code and data that a file names: p_filesz of the second and of the first program header
abbrev pub code_of : List ℕ → ℕ
code_of bytes = number_at bytes (code_header + offsets.P_FILESZ) 8

abbrev pub init_of : List ℕ → ℕ
init_of bytes = number_at bytes (data_header + offsets.P_FILESZ) 8

-- the version that a file names by p_memsz of its third program header: any size but version 2's is read as
-- version 1's, and is a wrong field where it is another
abbrev pub version_in : List ℕ → ImageVersion
version_in bytes = if number_at bytes (shadow_header + offsets.P_MEMSZ) 8 == version_2.shadow_size then EightHarts else OneHart

-- the offset of the first byte between headers and code or between code and data that is not zero
abbrev pub wrong_padding : List ℕ → ℕ → Option ℕ
wrong_padding bytes code = option_or (first_nonzero bytes headers_size 0x1000) (first_nonzero bytes (0x1000 + code) (data_start code))

-- a file that ends before its data do, or after them
abbrev pub length_fault : List ℕ → ℕ → ℕ → Option ImageRefusal
length_fault bytes code init =
    if nat_lt (length bytes) (data_start code + init) then Some (Short (length bytes)) else
    if nat_lt (data_start code + init) (length bytes) then Some (Long (length bytes)) else None

-- what is wrong with a file that names this version and these lengths: a field, its length, or its padding
abbrev pub fault_with : List ℕ → ImageVersion → ℕ → ℕ → Option ImageRefusal
fault_with bytes version code init =
    option_or (option_map (λ at. Byte at) (first_wrong bytes (fields_of version code init)))
    (option_or (length_fault bytes code init) (option_map (λ at. Byte at) (wrong_padding bytes code)))

-- what is wrong with a file, if it is no image
unfoldable pub fault_of : List ℕ → Option ImageRefusal
fault_of bytes =
    if nat_lt (length bytes) headers_size then Some (Short (length bytes)) else fault_with bytes (version_in bytes) (code_of bytes) (init_of bytes)
