-- How many bytes an instruction reads or writes: a byte, a half-word, a word or a double-word
-- (RISC-V unprivileged ISA, "Load and Store Instructions").
use Rattle.std.specs.Prelude.{◌≡◌, ℕ, ◌⊎◌}

abbrev pub IsAccessSize : ℕ → Type 0
IsAccessSize n = (n ≡ 1) ⊎ (n ≡ 2) ⊎ (n ≡ 4) ⊎ (n ≡ 8)
