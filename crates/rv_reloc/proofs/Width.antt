-- The lowest bytes of a number are those of the number modulo their width.
use Rattle.std.proofs.Common.{◌≡◌, ◌∙◌, ◌*◌, ◌/◌, ◌%◌, ◌^◌, ℕ, ◌++◌, List, drop, ap, sym, arith, refl}
use Rattle.std.specs.Prelude.{ℤ, pos, negsuc}
use Rattle.byteorder.specs.Endian.{little_bytes, little_number}
use Rattle.rv_reloc.specs.Value.{low_bits}
use Rattle.rv_reloc.specs.Data.{size_of, becomes, patched}
use Rattle.rv_reloc.specs.declared.kinds.DataPatch.{DataPatch}
use Rattle.rv_reloc.specs.declared.kinds.DataPatch.TheVariants.{Abs32, Abs64, Add8, Add16, Add32, Add64, Sub8, Sub16, Sub32, Sub64}

narrow_8 : (z : ℤ) → low_bits 64 z % 2 ^ 8 ≡ low_bits 8 z
narrow_8 (pos n) = omega arith
narrow_8 (negsuc n) = omega arith

narrow_16 : (z : ℤ) → low_bits 64 z % 2 ^ 16 ≡ low_bits 16 z
narrow_16 (pos n) = omega arith
narrow_16 (negsuc n) = omega arith

narrow_32 : (z : ℤ) → low_bits 64 z % 2 ^ 32 ≡ low_bits 32 z
narrow_32 (pos n) = omega arith
narrow_32 (negsuc n) = omega arith

bytes_1 : (n : ℕ) → little_bytes 1 n ≡ little_bytes 1 (n % 2 ^ 8)
bytes_1 n = let a : n % 256 ≡ n % 2 ^ 8 % 256 = omega arith in rw (sym a) refl

bytes_2 : (n : ℕ) → little_bytes 2 n ≡ little_bytes 2 (n % 2 ^ 16)
bytes_2 n =
    let a : n % 2 ^ 16 % 256 ≡ n % 256 = omega arith in
    let b : n % 2 ^ 16 / 256 % 256 ≡ n / 256 % 256 = omega arith in
    rw (a, b) refl

bytes_4 : (n : ℕ) → little_bytes 4 n ≡ little_bytes 4 (n % 2 ^ 32)
bytes_4 n =
    let a : n % 2 ^ 32 % 256 ≡ n % 256 = omega arith in
    let b : n % 2 ^ 32 / 256 % 256 ≡ n / 256 % 256 = omega arith in
    let c : n % 2 ^ 32 / 65536 % 256 ≡ n / 65536 % 256 = omega arith in
    let d : n % 2 ^ 32 / 16777216 % 256 ≡ n / 16777216 % 256 = omega arith in
    rw (a, b, c, d) refl

one : (z : ℤ) → little_bytes 1 (low_bits 64 z) ≡ little_bytes 1 (low_bits 8 z)
one z = bytes_1 (low_bits 64 z) ∙ ap (little_bytes 1) (narrow_8 z)

two : (z : ℤ) → little_bytes 2 (low_bits 64 z) ≡ little_bytes 2 (low_bits 16 z)
two z = bytes_2 (low_bits 64 z) ∙ ap (little_bytes 2) (narrow_16 z)

four : (z : ℤ) → little_bytes 4 (low_bits 64 z) ≡ little_bytes 4 (low_bits 32 z)
four z = bytes_4 (low_bits 64 z) ∙ ap (little_bytes 4) (narrow_32 z)

pub low_bytes : (kind : DataPatch) (z : ℤ)
    → little_bytes (size_of kind) (low_bits 64 z) ≡ little_bytes (size_of kind) (low_bits (8 * size_of kind) z)
low_bytes Abs32 z = four z
low_bytes Abs64 z = refl
low_bytes Add8 z = one z
low_bytes Add16 z = two z
low_bytes Add32 z = four z
low_bytes Add64 z = refl
low_bytes Sub8 z = one z
low_bytes Sub16 z = two z
low_bytes Sub32 z = four z
low_bytes Sub64 z = refl

-- what stands after the new bytes are put in front
pub patched_from : (kind : DataPatch) (value : ℤ) (bytes new : List ℕ) (size old number : ℕ)
    → size ≡ size_of kind → old ≡ little_number size bytes → number ≡ low_bits 64 (becomes kind value old)
    → new ≡ little_bytes size number ++ drop size bytes → new ≡ patched kind value bytes
patched_from kind value bytes new size old number s o n p =
    let read : old ≡ little_number (size_of kind) bytes = o ∙ ap (λ k. little_number k bytes) s in
    let meant : ℤ = becomes kind value (little_number (size_of kind) bytes) in
    let known : number ≡ low_bits 64 meant = n ∙ ap (λ x. low_bits 64 (becomes kind value x)) read in
    let front : little_bytes size number ≡ little_bytes (size_of kind) (low_bits (8 * size_of kind) meant) =
    ap (λ k. little_bytes k number) s ∙ ap (little_bytes (size_of kind)) known ∙ low_bytes kind meant in
    p ∙ ap (λ f. f ++ drop size bytes) front
    ∙ ap (λ k. little_bytes (size_of kind) (low_bits (8 * size_of kind) meant) ++ drop k bytes) s
