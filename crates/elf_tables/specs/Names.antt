-- Where the last NUL of a string table ends: exactly the places below it begin a string (System V gABI, "String Table").
use Rattle.std.specs.Prelude.{◌≡◌, ℕ, nat_lt, is_some, List}
use Rattle.elf_bytes.specs.Fields.{string_at}

abbrev pub IsLastEnd : List ℕ → ℕ → Type 0
IsLastEnd bytes end = (at : ℕ) → is_some (string_at bytes at) ≡ nat_lt at end
