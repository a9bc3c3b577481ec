-- Registers and memories that are the same to the program stay so under equal writes.
use Rattle.std.proofs.Common.{◌≡◌, ℕ, zero, suc, ◌+◌, ◌==◌, ◌&&◌, ◌<◌, ◌≤◌, inl, inr, false, List, length, refl, ◌∙◌, arith}
use Rattle.std.specs.Prelude.{nat_le, nat_lt}
use Rattle.std.proofs.lemmas.Bool.{cases_Bool}
use Rattle.cfi_runs.proofs.Prelude.{DATA_END, Memory, read, write, placed, Registers, get_reg, set_reg, is_reserved, Shared, bytes_of, SameRegisters, with_memory, SameData}

-- an operand
pub get_same : (r regs : Registers) (k : ℕ) → is_reserved k ≡ false → SameRegisters r regs → get_reg regs k ≡ get_reg r k
get_same r regs zero free same = refl
get_same r regs (suc k) free same = same.same (suc k) free

-- a result
pub same_put : (r regs : Registers) (rd v w : ℕ) → w ≡ v → SameRegisters r regs → SameRegisters (set_reg r rd v) (set_reg regs rd w)
same_put r regs zero v w e same = same
same_put r regs (suc rd) v w e same =
    record { same = λ k free. elim (cases_Bool (k == suc rd)) [ inl here ↦ rw here e | inr other ↦ rw other (same.same k free) ] }

-- data are the same
abbrev pub SameBelow : Memory → Memory → Type 0
SameBelow m m' = (a : ℕ) → a < DATA_END → m' a ≡ m a

pub read_alike : (n : ℕ) (m m' : Memory) (a : ℕ) → a + n ≤ DATA_END → SameBelow m m' → read n m' a ≡ read n m a
read_alike zero m m' a low same = refl
read_alike (suc n) m m' a low same =
    let first : m' a ≡ m a = same a (omega arith) in
    let others : read n m' (a + 1) ≡ read n m (a + 1) = read_alike n m m' (a + 1) (omega arith) same in
    rw (first, others) refl

pub bytes_alike : (n : ℕ) (m m' : Memory) (a : ℕ) → a + n ≤ DATA_END → SameBelow m m' → bytes_of m' a n ≡ bytes_of m a n
unfolding bytes_of
bytes_alike zero m m' a low same = refl
bytes_alike (suc n) m m' a low same =
    let first : m' a ≡ m a = same a (omega arith) in
    let others : bytes_of m' (a + 1) n ≡ bytes_of m (a + 1) n = bytes_alike n m m' (a + 1) (omega arith) same in
    rw (first, others) refl

pub write_alike : (n : ℕ) (m m' : Memory) (a v : ℕ) → SameBelow m m' → SameBelow (write n m a v) (write n m' a v)
unfolding write
write_alike n m m' a v same k low =
    elim (cases_Bool (nat_le a k && nat_lt k (a + n))) [
      | inl inside ↦ rw inside refl
      | inr outside ↦ rw outside (same k low)
    ]

pub placed_alike : (bytes : List ℕ) (m m' : Memory) (a : ℕ) → SameBelow m m' → SameBelow (placed m a bytes) (placed m' a bytes)
unfolding placed
placed_alike bytes m m' a same k low =
    elim (cases_Bool (nat_le a k && nat_lt k (a + length bytes))) [
      | inl inside ↦ rw inside refl
      | inr outside ↦ rw outside (same k low)
    ]

pub data_written : (t s : Shared) (m m' : Memory) → SameData t s → SameBelow m m' → SameData (with_memory t m) (with_memory s m')
data_written t s m m' same memory = record { memory = memory; left = same.left; output = same.output; events = same.events }
