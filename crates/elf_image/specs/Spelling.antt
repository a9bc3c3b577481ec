-- The one spelling of an image: headers, code and data, each from a page's start on, with zeros between them.
use Rattle.std.specs.Prelude.{ℕ, ◌-◌, List, ◌++◌, length, replicate}
use Rattle.std.specs.List.{flat_map}
use Rattle.byteorder.specs.Endian.{little_bytes}
use Rattle.rv_image.specs.declared.version.ImageVersion.{ImageVersion}
use Rattle.elf_image.specs.declared.field.Field.{Field}
use Rattle.elf_image.specs.Header.{fields_of, data_start, headers_size}

-- a field's value, the lowest byte first
abbrev pub field_bytes : Field → List ℕ
field_bytes f = little_bytes f.size f.value

-- the bytes of the headers of a file of a version with `code` bytes of code and `init` of data
unfoldable pub headers : ImageVersion → ℕ → ℕ → List ℕ
headers version code init = flat_map field_bytes (fields_of version code init)

unfoldable pub zeros : ℕ → List ℕ
zeros n = replicate n 0

-- the bytes of the image of this version, this code and these data
unfoldable pub spelling : ImageVersion → List ℕ → List ℕ → List ℕ
spelling version code init =
    headers version (length code) (length init) ++ zeros (0x1000 - headers_size)
    ++ code ++ zeros (data_start (length code) - 0x1000 - length code)
    ++ init
