use Rattle.elf_bytes.proofs.Parts.{field_of_part}
use Rattle.elf_bytes.proofs.u32_at.Goals as goal

pub returns : goal.returns
returns c = field_of_part _ _ _ 4 _ c.in_ok-bytes_at.ensures.value c.read_u32.ensures
