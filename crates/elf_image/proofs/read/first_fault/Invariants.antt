use Rattle.std.proofs.Common.{◌≡◌, drop}
use Rattle.elf_image.specs.Fault.{first_wrong}
use Rattle.elf_image.proofs.read.first_fault.Given as goal

abbrev pub invariant-loop-field : goal.invariant-loop-field
invariant-loop-field l = first_wrong l.bytes (drop l.field-index l.fields) ≡ first_wrong l.bytes l.fields
