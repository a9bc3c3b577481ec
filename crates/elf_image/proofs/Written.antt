-- The bytes of fields, as they are written.
use Rattle.std.proofs.Common.{◌≡◌, ◌≤◌, take}
use Rattle.std.specs.Int.{w128, to_le_bytes}
use Rattle.byteorder.proofs.Bytes.{take-bytes_low_first}
use Rattle.elf_image.specs.declared.field.Field.{Field}
use Rattle.elf_image.specs.Spelling.{field_bytes}

-- a field's bytes are the first of its value's 16
pub first_bytes : (f : Field) → f.size ≤ 16 → take f.size (to_le_bytes w128 f.value) ≡ field_bytes f
first_bytes f small = take-bytes_low_first 0 16 f.size f.value small
