use Rattle.elf_bytes.proofs.Parts.{field_of_part}
use Rattle.elf_bytes.proofs.u16_at.Goals as goal

pub returns : goal.returns
returns c = field_of_part _ _ _ 2 _ c.in_ok-bytes_at.ensures.value c.read_u16.ensures
