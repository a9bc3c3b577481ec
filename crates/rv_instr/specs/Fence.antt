-- Memory ordering (RISC-V unprivileged ISA, "Memory Ordering Instructions"): FENCE is opcode
-- MISC-MEM, 0Fh, with funct3 0, whatever its other fields.
use Rattle.std.specs.Prelude.{◌≡◌, ℕ, ◌/◌, ◌%◌, ◌^◌, ◌<◌}

pub record IsFence (word : ℕ) : Type 0 where
  pub opcode : word % 2 ^ 7 ≡ 0x0f
  pub funct3 : word / 2 ^ 12 % 2 ^ 3 ≡ 0
  pub bits : word < 2 ^ 32
