-- A refusal as it is printed: its name, and the length or the offset in decimal.
use Rattle.std.specs.Prelude.{ℕ, List, ◌++◌, codes}
use Rattle.std.specs.Fmt.{decimal}
use Rattle.elf_image.specs.declared.refusal.ImageRefusal.{ImageRefusal}
use Rattle.elf_image.specs.declared.refusal.ImageRefusal.TheVariants.{Short, Byte, Long}

abbrev pub refusal_text : ImageRefusal → List ℕ
refusal_text (Short len) = codes "Short " ++ decimal len
refusal_text (Byte offset) = codes "Byte " ++ decimal offset
refusal_text (Long len) = codes "Long " ++ decimal len
