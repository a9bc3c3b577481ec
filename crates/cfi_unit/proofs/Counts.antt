-- How many words a unit has: one at least, and twenty at most where it fits.
use Rattle.std.proofs.Common.{◌≤◌, ℕ, length, refl, arith}
use Rattle.std.specs.Prelude.{nat_le}
use Rattle.std.proofs.lemmas.Bool.{leb-true}
use Rattle.cfi_unit.specs.declared.unit.Unit as U
use Rattle.cfi_unit.specs.declared.unit.Unit.TheVariants as V
use Rattle.cfi_unit.specs.UnitWords.{Fits, word_count}
use Rattle.cfi_unit.specs.Shapes.{SHAPES}
use Rattle.cfi_unit.specs.ShapeOf.{shape_of}
use Rattle.cfi_unit.specs.declared.mask.Mask.TheVariants.{Shifts, Short, Long}
use Rattle.cfi_unit.proofs.Listed.{each_among}
use Rattle.cfi_unit.proofs.ShapedUnits.{counted, shape_among}

pub some_word : (unit : U.Unit) → 1 ≤ word_count unit
some_word V.Return = omega arith
some_word (V.Stores Shifts rs1 imm members) = omega arith
some_word (V.Stores Short rs1 imm members) = omega arith
some_word (V.Stores Long rs1 imm members) = omega arith
some_word other = omega arith

pub most_words : (unit : U.Unit) (at : ℕ) → Fits unit at → word_count unit ≤ 20
most_words unit at f =
    let most = each_among (λ s. nat_le (length s.words) 20) SHAPES (shape_of unit at) refl (shape_among unit at f) in
    let counts = counted unit at f in
    let few = leb-true (length ((shape_of unit at).words)) 20 most in
    omega arith
