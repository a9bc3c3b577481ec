-- Units in a row, and one more after them: their words, entries and places.
use Rattle.std.proofs.Common.{◌≡◌, ℕ, zero, suc, ◌+◌, ◌-◌, ◌*◌, ◌≤◌, IsTrue, List, [], ◌∷◌, ◌++◌, length, replicate, slice_set, arith, refl, ap, ap₂, sym, subst, ◌∙◌, append_assoc, append-nil, length-append}
use Rattle.std.proofs.lemmas.List.{set-append_right}
use Rattle.cfi_unit.specs.declared.unit.Unit as U
use Rattle.cfi_unit.specs.UnitWords.{Fits, after_unit, may_precede, word_count, words_of}
use Rattle.cfi_unit.proofs.Counts.{some_word}
use Rattle.cfi_unit.proofs.UnitInList.{words_counted}
use Rattle.cfi_reader.specs.declared.entry.Entry.{Entry}
use Rattle.cfi_reader.specs.declared.entry.Entry.TheVariants as E
use Rattle.cfi_reader.specs.Entries.{entries_of, entry_of, inside}
use Rattle.cfi_scan.specs.Stream.{AllStand, last_of, spelled, width}

-- where the units after the first of them end
after_first : (unit : U.Unit) (units : List U.Unit) (at : ℕ) → after_unit unit at + 4 * width units ≡ at + 4 * width (unit ∷ units)
unfolding width
after_first unit units at = omega arith

at_none : (at : ℕ) → at ≡ at + 4 * width []
unfolding width
at_none at = omega arith

pub spelled_more : (units : List U.Unit) (unit : U.Unit) (at : ℕ) →
    spelled (units ++ unit ∷ []) at ≡ spelled units at ++ words_of unit (at + 4 * width units)
unfolding spelled
spelled_more [] unit at = append-nil (words_of unit at) ∙ ap (words_of unit) (at_none at)
spelled_more (first ∷ units) unit at =
    ap (λ (ws : List ℕ). words_of first at ++ ws)
    (spelled_more units unit (after_unit first at)
    ∙ ap (λ (a : ℕ). spelled units (after_unit first at) ++ words_of unit a) (after_first first units at))
    ∙ sym (append_assoc (words_of first at) (spelled units (after_unit first at)) (words_of unit (at + 4 * width (first ∷ units))))

pub width_more : (units : List U.Unit) (unit : U.Unit) → width (units ++ unit ∷ []) ≡ width units + word_count unit
unfolding width
width_more [] unit = omega arith
width_more (first ∷ units) unit = let more : width (units ++ unit ∷ []) ≡ width units + word_count unit = width_more units unit in omega arith

pub spelled_length : (units : List U.Unit) (at : ℕ) → length (spelled units at) ≡ width units
unfolding spelled width
spelled_length [] at = refl
spelled_length (unit ∷ units) at =
    length-append (words_of unit at) (spelled units (after_unit unit at))
    ∙ ap₂ (λ (a b : ℕ). a + b) (words_counted unit at) (spelled_length units (after_unit unit at))

pub last_more : (units : List U.Unit) (unit : U.Unit) → last_of (units ++ unit ∷ []) ≡ width units
unfolding last_of width
last_more [] unit = refl
last_more (first ∷ []) unit = refl
last_more (first ∷ next ∷ units) unit = ap (λ (n : ℕ). word_count first + n) (last_more (next ∷ units) unit)

pub inside_length : (n : ℕ) → length (inside n) ≡ n
unfolding inside
inside_length zero = refl
inside_length (suc n) = ap suc (inside_length n)

inside_more : (m n : ℕ) → inside (m + n) ≡ inside m ++ inside n
unfolding inside
inside_more zero n = let none : zero + n ≡ n = omega arith in ap inside none
inside_more (suc m) n =
    let one : suc m + n ≡ suc (m + n) = omega arith in
    ap inside one ∙ ap (λ (es : List Entry). E.Inside ∷ es) (inside_more m n)

-- the entries of one unit
unit_entries : (calls : List ℕ) → U.Unit → ℕ → List Entry
unit_entries calls unit at = entry_of calls unit at ∷ inside (word_count unit - 1)

unit_entries_length : (calls : List ℕ) (unit : U.Unit) (at : ℕ) → length (unit_entries calls unit at) ≡ word_count unit
unfolding unit_entries
unit_entries_length calls unit at =
    let some : 1 ≤ word_count unit = some_word unit in
    let whole : suc (word_count unit - 1) ≡ word_count unit = omega arith in
    ap suc (inside_length (word_count unit - 1)) ∙ whole

pub entries_length : (calls : List ℕ) (units : List U.Unit) (at : ℕ) → length (entries_of calls units at) ≡ width units
unfolding entries_of width unit_entries
entries_length calls [] at = refl
entries_length calls (unit ∷ units) at =
    length-append (unit_entries calls unit at) (entries_of calls units (after_unit unit at))
    ∙ ap₂ (λ (a b : ℕ). a + b) (unit_entries_length calls unit at) (entries_length calls units (after_unit unit at))

entries_more : (calls : List ℕ) (units : List U.Unit) (unit : U.Unit) (at : ℕ) →
    entries_of calls (units ++ unit ∷ []) at ≡ entries_of calls units at ++ unit_entries calls unit (at + 4 * width units)
unfolding entries_of unit_entries
entries_more calls [] unit at =
    append-nil (unit_entries calls unit at) ∙ ap (unit_entries calls unit) (at_none at)
entries_more calls (first ∷ units) unit at =
    ap (λ (es : List Entry). unit_entries calls first at ++ es)
    (entries_more calls units unit (after_unit first at)
    ∙ ap (λ (a : ℕ). entries_of calls units (after_unit first at) ++ unit_entries calls unit a) (after_first first units at))
    ∙ sym (append_assoc (unit_entries calls first at) (entries_of calls units (after_unit first at)) (unit_entries calls unit (at + 4 * width (first ∷ units))))

pub stand_more : (units : List U.Unit) (unit : U.Unit) (at : ℕ) (tail : List ℕ) →
    AllStand units at (words_of unit (at + 4 * width units) ++ tail) → Fits unit (at + 4 * width units) →
    IsTrue (may_precede unit (at + 4 * width units) tail) → AllStand (units ++ unit ∷ []) at tail
unfolding AllStand spelled
stand_more [] unit at tail stand fits ahead =
    let here : at + 4 * width [] ≡ at = sym (at_none at) in
    (subst (λ (a : ℕ). Fits unit a) here fits, subst (λ (a : ℕ). IsTrue (may_precede unit a tail)) here ahead, tt)
stand_more (first ∷ units) unit at tail stand fits ahead =
    let next : ℕ = after_unit first at in
    let place : at + 4 * width (first ∷ units) ≡ next + 4 * width units = sym (after_first first units at) in
    let words : spelled units next ++ (words_of unit (at + 4 * width (first ∷ units)) ++ tail) ≡ spelled (units ++ unit ∷ []) next ++ tail =
    sym (append_assoc (spelled units next) (words_of unit (at + 4 * width (first ∷ units))) tail)
    ∙ ap (λ (a : ℕ). spelled units next ++ words_of unit a ++ tail) place
    ∙ ap (λ (ws : List ℕ). ws ++ tail) (sym (spelled_more units unit next)) in (
      stand.0,
      subst (λ (ws : List ℕ). IsTrue (may_precede first at ws)) words stand.1,
      stand_more units unit next tail
          (subst (λ (a : ℕ). AllStand units next (words_of unit a ++ tail)) place stand.2)
          (subst (λ (a : ℕ). Fits unit a) place fits)
          (subst (λ (a : ℕ). IsTrue (may_precede unit a tail)) place ahead),
    )

-- the entry of one unit more is set where there is room for it
pub entries_set : (calls : List ℕ) (units : List U.Unit) (unit : U.Unit) (at room : ℕ) → word_count unit ≤ room →
    slice_set (entries_of calls units at ++ inside room) (width units) (entry_of calls unit (at + 4 * width units))
    ≡ entries_of calls (units ++ unit ∷ []) at ++ inside (room - word_count unit)
unfolding inside unit_entries
entries_set calls units unit at room fits =
    let here : ℕ = at + 4 * width units in
    let some : 1 ≤ word_count unit = some_word unit in
    let parts : room ≡ suc (word_count unit - 1 + (room - word_count unit)) = omega arith in
    let none : width units - width units ≡ 0 = omega arith in
    let free : inside room ≡ E.Inside ∷ (inside (word_count unit - 1) ++ inside (room - word_count unit)) =
    ap inside parts ∙ ap (λ (es : List Entry). E.Inside ∷ es) (inside_more (word_count unit - 1) (room - word_count unit)) in
    let set_free : slice_set (inside room) (width units - width units) (entry_of calls unit here) ≡ unit_entries calls unit here ++ inside (room - word_count unit) =
    ap₂ (λ (es : List Entry) (k : ℕ). slice_set es k (entry_of calls unit here)) free none in
    set-append_right (entries_of calls units at) (inside room) (width units) (width units) (entry_of calls unit here) (entries_length calls units at) (omega arith)
    ∙ ap (λ (es : List Entry). entries_of calls units at ++ es) set_free
    ∙ sym (append_assoc (entries_of calls units at) (unit_entries calls unit here) (inside (room - word_count unit)))
    ∙ ap (λ (es : List Entry). es ++ inside (room - word_count unit)) (sym (entries_more calls units unit at))

pub inside_is : (n : ℕ) → replicate n E.Inside ≡ inside n
unfolding inside
inside_is zero = refl
inside_is (suc n) = ap (λ (es : List Entry). E.Inside ∷ es) (inside_is n)
