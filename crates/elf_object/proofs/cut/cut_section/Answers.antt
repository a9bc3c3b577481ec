use Rattle.std.proofs.Common.{sym}
use Rattle.least.proofs.Firsts.{first_bound}
use Rattle.elf_object.proofs.cut.cut_section.Goals as goal

pub header-header-requires : goal.header-header-requires
header-header-requires c = first_bound _ _ _ (sym c.in_ok-first_cut.ensures)
