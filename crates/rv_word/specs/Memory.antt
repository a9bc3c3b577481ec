-- Memory as a function from addresses to bytes, little-endian reads and writes.
use Rattle.std.specs.Prelude.{ℕ, zero, suc, ◌+◌, ◌-◌, ◌*◌, ◌/◌, ◌%◌, ◌^◌, nat_lt, nat_le, ◌&&◌, if◌then◌else◌, List, slice_index, length}

abbrev pub Memory : Type 0
Memory = ℕ → ℕ

-- the number in the `n` bytes from `a` on, the lowest byte first
abbrev pub read : ℕ → Memory → ℕ → ℕ
read zero m a = 0
read (suc n) m a = m a + 256 * read n m (a + 1)

-- the memory after the low `n` bytes of `v` are written from `a` on, the lowest byte first
unfoldable pub write : ℕ → Memory → ℕ → ℕ → Memory
write n m a v = λ k. if nat_le a k && nat_lt k (a + n) then v / 256 ^ (k - a) % 256 else m k

-- the memory in which a list of bytes stands from `a` on
unfoldable pub placed : Memory → ℕ → List ℕ → Memory
placed m a bytes = λ k. if nat_le a k && nat_lt k (a + length bytes) then slice_index bytes (k - a) else m k

-- a memory of zeros
abbrev pub zeros : Memory
zeros = λ k. 0
