use Rattle.std.proofs.Common.{drop}
use Rattle.rv_image.specs.MemoryMap.{profile_with}
use Rattle.cfi_rules.specs.Placed.{placed_code}
use Rattle.cfi_code.proofs.CodeWritten.{IsWritten}
use Rattle.cfi_code.proofs.code.code_bytes.Given as goal

abbrev pub invariant-loop-unit : goal.invariant-loop-unit
invariant-loop-unit l = IsWritten (placed_code (profile_with l.fn.versions) l.entry l.units) (drop l.unit-index l.units) l.bytes.items
