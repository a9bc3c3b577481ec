-- A place and a relocation of data come back whole from the words in which they are kept.
use Rattle.std.proofs.Common.{◌≡◌, ℕ, ℤ, pos, negsuc, ◌^◌, true, Option, Some, refl, arith}
use Rattle.std.specs.Prelude.{unsigned_abs}
use Rattle.std.specs.Int.{int_div_euclid, int_rem_euclid}
use Rattle.std.proofs.lemmas.Int.{ints}
use Rattle.obj_program.specs.declared.item.DataReloc.{DataReloc}
use Rattle.obj_program.specs.declared.item.Item.{Item}
use Rattle.obj_program.specs.declared.item.Patch.{Patch}
use Rattle.obj_program.specs.declared.item.Value.{Value}
use Rattle.obj_program.specs.declared.item.Patch.TheVariants as put
use Rattle.obj_program.specs.Packed.{may_be_together, number_in}

pub number_whole : (z : ℤ) → number_in (unsigned_abs (int_rem_euclid z (pos (2 ^ 64)))) (int_div_euclid z (pos (2 ^ 64))) ≡ z
number_whole (pos n) = omega (arith, ints)
number_whole (negsuc a) = omega (arith, ints)

pub packed : (item : Item) (patch : Patch) (target : Option ℕ) → patch ≡ item.patch → target ≡ item.target
    → record item { patch = patch; target = target } ≡ item
packed item patch target p t = rw (p, t) refl

pub packed_reloc : (reloc : DataReloc) (value : Value) → value ≡ reloc.value → record reloc { value = value } ≡ reloc
packed_reloc reloc value v = rw v refl

pub only_target : (patch : Patch) (place : ℕ) → may_be_together patch (Some place) ≡ true → put.Own ≡ patch
only_target put.Own place own = refl
only_target (put.High v) place own = absurd (cc)
only_target (put.Low v) place own = absurd (cc)
only_target (put.RelativeHigh v) place own = absurd (cc)
only_target (put.RelativeLow j) place own = absurd (cc)
