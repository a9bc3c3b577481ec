-- Which accesses of units stay in their regions.
use Rattle.std.proofs.Common.{◌≡◌, ℕ, ◌+◌, ◌^◌, ◌<◌, ◌≤◌, true, arith}
use Rattle.std.proofs.lemmas.Bool.Decides.{nat_tests}
use Rattle.rv_image.specs.MemoryMap.{Profile, CODE_START, CODE_SIZE, CODE_TAIL, PART_SIZE, can_load, can_store}
use Rattle.rv_instr.specs.declared.instr.StoreOp.{StoreOp}
use Rattle.rv_instr.specs.declared.instr.StoreOp.TheVariants.{Sb, Sh, Sw, Sd}
use Rattle.rv_code.specs.Arithmetic.{store_size}
use Rattle.cfi_unit.specs.Shadow.{IsPart}

pub store_size-small : (op : StoreOp) → store_size op ≤ 8
store_size-small Sb = omega arith
store_size-small Sh = omega arith
store_size-small Sw = omega arith
store_size-small Sd = omega arith

pub can_store_data : (p : Profile) (a n : ℕ) → a < 2 ^ 28 → n ≤ 8 → can_store p a n ≡ true
can_store_data p a n low small = grind (arith, nat_tests)

-- so does one that begins less than 2 ^ 11 bytes past it
pub can_store_near : (p : Profile) (a n : ℕ) → a < 2 ^ 28 + 2 ^ 11 → n ≤ 8 → can_store p a n ≡ true
can_store_near p a n low small = grind (arith, nat_tests)

pub can_store_part : (p : Profile) (part a n : ℕ) → IsPart p part → part ≤ a → a + n ≤ part + PART_SIZE → can_store p a n ≡ true
can_store_part p part a n own low high = let first = own.low in let last = own.high in grind (arith, nat_tests)

pub can_load_part : (p : Profile) (part a n : ℕ) → IsPart p part → part ≤ a → a + n ≤ part + PART_SIZE → can_load p a n ≡ true
can_load_part p part a n own low high = let first = own.low in let last = own.high in grind (arith, nat_tests)

pub can_load_code : (p : Profile) (a n : ℕ) → CODE_START ≤ a → a + n ≤ CODE_START + CODE_SIZE + CODE_TAIL → can_load p a n ≡ true
can_load_code p a n low high = grind (arith, nat_tests)
