-- A number is read from the part of the file that holds its bytes.
use Rattle.std.proofs.Common.{◌≡◌, ℕ, List, take, drop, true, false, Some, None, ap, ◌∙◌, arith, if◌then◌else◌}
use Rattle.byteorder.specs.Endian.{little_number}
use Rattle.byteorder.specs.Numbers.{little_from-take}
use Rattle.elf_bytes.specs.Fields.{number_at, field_at, part_at, is_within}

-- the number in the first bytes of the file from an offset on
number-take : (bytes : List ℕ) (at size : ℕ) → little_number size (take size (drop at bytes)) ≡ number_at bytes at size
unfolding number_at
number-take bytes at size = little_from-take 0 size size (drop at bytes) (omega arith)

-- the number in a part is the field at the part's place
pub field_of_part : (bytes part : List ℕ) (at size value : ℕ) → Some part ≡ part_at bytes at size
    → value ≡ little_number size part → Some value ≡ field_at bytes at size
field_of_part bytes part at size value e is = elim (is_within bytes at size) as (λ b. Some part ≡ (if b then Some (take size (drop at bytes)) else None) → Some value ≡ (if b then Some (number_at bytes at size) else None)) [
  | true ↦ λ h. let same : part ≡ take size (drop at bytes) = cc in ap Some (is ∙ ap (little_number size) same ∙ number-take bytes at size)
  | false ↦ λ h. cc
] e
