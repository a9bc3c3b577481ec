-- A unit that begins a list of words is recognised there: so are the words of a unit that fits, whatever follows them
-- that may.
use Rattle.std.proofs.Common.{◌≡◌, ℕ, true, ap, sym, ◌∙◌, List, ◌++◌, drop}
use Rattle.std.specs.Prelude.{Some, option_and_then}
use Rattle.cfi_unit.specs.declared.pattern.End.{End}
use Rattle.cfi_unit.specs.declared.unit.Unit as U
use Rattle.cfi_unit.specs.UnitWords.{Begins, Fits, may_precede, word_count, words_of}
use Rattle.cfi_unit.specs.Recognise.{recognised, unit_of}
use Rattle.cfi_unit.specs.Shapes.{Shape}
use Rattle.cfi_unit.specs.ShapeOf.{shape_of}
use Rattle.cfi_unit.proofs.Apart.{found_first}
use Rattle.cfi_unit.proofs.FieldsRead.{fields_read}
use Rattle.cfi_unit.proofs.UnitInList.{begun_parts}
pub use Rattle.cfi_unit.proofs.UnitInList.{begins, words_counted}

-- its fields are read back
pub read_back : (ws : List ℕ) (at : ℕ) (u : U.Unit) → Begins ws at u → unit_of ((shape_of u at).end) ws at ≡ Some u
read_back ws at u b =
    ap (λ (l : List ℕ). unit_of ((shape_of u at).end) l at) (sym (begun_parts ws at u b))
    ∙ fields_read u at (drop (word_count u) ws) b.fits b.ahead

-- also where its kind alone is told
pub kind_read : (end : End) (ws : List ℕ) (at : ℕ) (u : U.Unit) → Begins ws at u → (shape_of u at).end ≡ end → unit_of end ws at ≡ Some u
kind_read end ws at u b e = ap (λ (d : End). unit_of d ws at) (sym e) ∙ read_back ws at u b

pub begins_recognised : (ws : List ℕ) (at : ℕ) (u : U.Unit) → Begins ws at u → recognised ws at ≡ Some u
unfolding recognised
begins_recognised ws at u b =
    ap (option_and_then (λ (s : Shape). unit_of s.end ws at)) (found_first ws at u b) ∙ read_back ws at u b

pub found : (u : U.Unit) (at : ℕ) (rest : List ℕ) → Fits u at → may_precede u at rest ≡ true → recognised (words_of u at ++ rest) at ≡ Some u
found u at rest f ahead = begins_recognised (words_of u at ++ rest) at u (begins u at rest f ahead)
