-- Where no word follows: what is read is a unit, or none is recognised there; and where none is read yet.
use Rattle.std.proofs.Common.{◌≡◌, ℕ, false, List, [], ◌∷◌, refl, ap, sym, subst, ◌∙◌, arith}
use Rattle.std.specs.Prelude.{Some, None}
use Rattle.cfi_unit.specs.declared.pattern.Pattern.{Pattern}
use Rattle.cfi_unit.specs.declared.pattern.End.{End}
use Rattle.cfi_unit.specs.Recognise.{recognised}
use Rattle.cfi_unit.specs.Shapes.{SHAPES, shape}
use Rattle.cfi_unit.specs.ShapeOf.{shape_of}
use Rattle.cfi_unit.specs.Opens.{Among, Opens}
use Rattle.cfi_reader.specs.Left.{is_alone}
use Rattle.cfi_reader.specs.Nodes.{rest_of}
use Rattle.cfi_reader.specs.Kept.{label_by, numbers_by, open_entry, told_by}
use Rattle.cfi_reader.specs.Reading.{IsReading, IsUnit, START}
use Rattle.cfi_reader.specs.Trying.{Ended}
use Rattle.cfi_reader.specs.declared.reader.Reader.{Reader}
use Rattle.cfi_reader.proofs.Entered.{open_told}
use Rattle.cfi_reader.proofs.Followed.{Whole, whole_unit}
use Rattle.cfi_reader.proofs.Law.{none_recognised}

pub start_closes : (calls : List ℕ) (reader : Reader) (held : List ℕ) (at : ℕ) → reader.node ≡ 1 → IsReading calls reader held at → recognised held at ≡ None
unfolding recognised
start_closes calls reader held at new r = ap (λ (ws : List ℕ). recognised ws at) (r.begun new)

pub none_closes : (calls : List ℕ) (reader : Reader) (held : List ℕ) (at : ℕ) → IsReading calls reader held at → Ended (rest_of reader.node) None → recognised held at ≡ None
none_closes calls reader held at r none = none_recognised (rest_of reader.node) held at r.reads r.least r.small none

pub closes : (calls : List ℕ) (reader : Reader) (held : List ℕ) (at : ℕ) (end : End) → IsReading calls reader held at → Ended (rest_of reader.node) (Some end) → IsUnit calls (open_entry end) held at
closes calls reader held at end r e =
    let w : Whole end held at = whole_unit end held at (r.reads.made (shape end []) e.0) r.small in
    let m = w.made.1 in
    let more : is_alone ((shape_of m.unit at).end) ≡ false = ap is_alone w.end_is ∙ e.1 in
    record {
      unit = m.unit;
      fits = m.fits;
      entry_is = ap open_entry (sym w.end_is) ∙ open_told m.unit calls at more;
      words_are = sym m.words;
    }

-- no word is read yet
pub start_reads : (calls : List ℕ) (at : ℕ) → IsReading calls START [] at
unfolding Among Opens
start_reads calls at = record {
  reads = record {
    sound = λ s left among opens. subst (λ (ps : List Pattern). Among (shape s.end ps) SHAPES) opens among;
    made = λ r among. (r, (among, refl, refl));
  };
  least = λ rest u b. omega arith;
  keeps = record {
    label_is = λ s left among opens told e. absurd (no_label s.words told e);
    numbers_are = λ s left among opens guarded. ap (told_by calls) (sym (no_numbers s.words));
  };
  begun = λ one. refl;
  small = tt;
}
  where
    no_label : (ps : List Pattern) (label : ℕ) → label_by ps [] None ≡ Some label → ⊥
    no_label [] label e = cc
    no_label (p ∷ ps) label e = cc

    no_numbers : (ps : List Pattern) → numbers_by ps [] ≡ []
    no_numbers [] = refl
    no_numbers (p ∷ ps) = refl
