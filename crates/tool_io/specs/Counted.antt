-- What is seen of a reader that counts.
use Rattle.std.specs.Prelude.{ℕ}
use Rattle.tool_io.specs.declared.counted.Counted.{Counted}

-- how many bytes the reader gave: exact below 2^64 - 1, where the count stays
abbrev pub given : {R : Type 0} → Counted R → ℕ
given counted = counted.given
