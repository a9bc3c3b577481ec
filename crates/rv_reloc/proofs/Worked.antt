-- Worked rows of the definitions, from a linker and by hand.
use Rattle.std.proofs.Common.{◌≡◌, [], ◌∷◌, refl, true, false}
use Rattle.std.specs.Prelude.{pos, negsuc}
use Rattle.rv_reloc.specs.Value.{hi20, lo12}
use Rattle.rv_reloc.specs.Word.{patched as word, takes}
use Rattle.rv_reloc.specs.Data.{patched as bytes, takes as data_takes}
use Rattle.rv_reloc.specs.declared.kinds.CodePatch.TheVariants.{Hi20, PcrelHi20, Lo12I, Lo12S}
use Rattle.rv_reloc.specs.declared.kinds.DataPatch.TheVariants.{Abs32, Add8, Sub8, Sub16}

-- the high part rounds down: of -1 and -800h it is 0, of -801h it is -1
high_of_minus_1 : hi20 (negsuc 0) ≡ pos 0
high_of_minus_1 = refl

high_of_minus_800 : hi20 (negsuc 0x7ff) ≡ pos 0
high_of_minus_800 = refl

high_of_minus_801 : hi20 (negsuc 0x800) ≡ negsuc 0
high_of_minus_801 = refl

low_of_minus_801 : lo12 (negsuc 0x800) ≡ pos 0x7ff
low_of_minus_801 = refl

lui_of_10000 : word Hi20 (pos 0x10000) 0x000002b7 ≡ 0x000102b7
lui_of_10000 = refl

-- the distance -3fff0094h
auipc_far_back : word PcrelHi20 (negsuc 0x3fff0093) 0x00000597 ≡ 0xc0010597
auipc_far_back = refl

addi_far_back : word Lo12I (negsuc 0x3fff0093) 0x00058593 ≡ 0xf6c58593
addi_far_back = refl

store_low : word Lo12S (pos 0x12345fff) 0x00a33023 ≡ 0xfea33fa3
store_low = refl

-- LUI reaches from -80000800h to 7ffff7ffh
highest : takes Hi20 (pos 0x7ffff7ff) ≡ true
highest = refl

too_high : takes Hi20 (pos 0x7ffff800) ≡ false
too_high = refl

lowest : takes PcrelHi20 (negsuc 0x800007ff) ≡ true
lowest = refl

too_low : takes PcrelHi20 (negsuc 0x80000800) ≡ false
too_low = refl

-- an address of 32 bits is from -2 ^ 31 to 2 ^ 32 - 1
address_bounds_low : data_takes Abs32 (negsuc 0x7fffffff) ≡ true
address_bounds_low = refl

address_too_low : data_takes Abs32 (negsuc 0x80000000) ≡ false
address_too_low = refl

address_bounds_high : data_takes Abs32 (pos 0xffffffff) ≡ true
address_bounds_high = refl

address_too_high : data_takes Abs32 (pos 0x100000000) ≡ false
address_too_high = refl

address : bytes Abs32 (negsuc 1) (1 ∷ 2 ∷ 3 ∷ 4 ∷ 5 ∷ []) ≡ 254 ∷ 255 ∷ 255 ∷ 255 ∷ 5 ∷ []
address = refl

-- a sum that wraps leaves its neighbour, and so does a difference
sum_wraps : bytes Add8 (pos 1) (255 ∷ 255 ∷ []) ≡ 0 ∷ 255 ∷ []
sum_wraps = refl

difference_wraps : bytes Sub16 (pos 1) (0 ∷ 0 ∷ 9 ∷ []) ≡ 255 ∷ 255 ∷ 9 ∷ []
difference_wraps = refl

difference_of_a_negative : bytes Sub8 (negsuc 0) (255 ∷ 7 ∷ []) ≡ 0 ∷ 7 ∷ []
difference_of_a_negative = refl
