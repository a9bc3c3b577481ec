-- Where functions begin: the places that they name by section and offset are marked, and no others.
use Rattle.std.proofs.Common.{◌≡◌, ◌==◌, ℕ, zero, suc, ◌+◌, ◌<◌, Bool, true, false, ◌||◌, List, [], ◌∷◌, ◌++◌, length, get_or, take, Option, Some, None, IfSome, inl, inr, refl, sym, ap, subst, ◌∙◌, arith}
use Rattle.std.specs.List.{list_any, slice_get}
use Rattle.std.proofs.lemmas.Bool.{and_parts, cases_eq, cases_lt, eq-eqb, eqb-true, false_from_ne_true, ne_eqb}
use Rattle.std.proofs.lemmas.List.Folds.{list_any_more}
use Rattle.std.proofs.lemmas.List.Quantifiers.{position-Some}
use Rattle.std.proofs.lemmas.Option.{get_or_from_slice_get, slice_get_within}
use Rattle.rv_word.proofs.Cases.{cases_Option}
use Rattle.obj_input.specs.declared.parts.Func.{Func}
use Rattle.obj_program.specs.declared.item.Item.{Item}
use Rattle.obj_program.specs.Program.{AreInOrder, Program, count, is_before, is_spot, item_of, no_item, place_of}
use Rattle.obj_program.proofs.Ordered.{not_there}
use Rattle.cfi_flow.specs.Drawn.{no_func}
use Rattle.cfi_flow.specs.Marks.{AreBegun}
use Rattle.cfi_flow.specs.Policy.{is_number}
use Rattle.cfi_flow.specs.Sites.{begins}
use Rattle.cfi_class.proofs.Finding.{none_fails}

-- a place before another is not at the other's section and offset
not_at : (i j : Item) (section offset : ℕ) → is_before i j.section j.offset ≡ true → is_spot section offset j ≡ true → is_spot section offset i ≡ false
not_at i j section offset before there =
    let parts = and_parts (j.section == section) (j.offset == offset) there in
    not_there i section offset
    (subst (λ (o : ℕ). is_before i section o ≡ true) (eqb-true _ _ parts.1)
    (subst (λ (s : ℕ). is_before i s j.offset ≡ true) (eqb-true _ _ parts.0) before))

-- one place alone is at a section and an offset
pub spot_only : (items : List Item) → AreInOrder items → (section offset k : ℕ) → k < length items
    → is_number k (place_of items section offset) ≡ is_spot section offset (get_or items k no_item)
spot_only items in_order section offset k below = elim (cases_Option (place_of items section offset)) [
  | inl e ↦ rw e (sym (none_fails (is_spot section offset) items no_item k e below))
  | inr (j, e) ↦
      let parts = position-Some (is_spot section offset) items j no_item e in
      let inside : j < length items = parts.0 in
      rw e (elim (cases_eq j k) [
        | inl same ↦ eq-eqb j k same ∙ sym (subst (λ (n : ℕ). is_spot section offset (get_or items n no_item) ≡ true) same parts.1)
        | inr other ↦
            ne_eqb j k other
            ∙ sym (elim (cases_lt k j) [
              | inl less ↦ not_at (get_or items k no_item) (get_or items j no_item) section offset (in_order k j less inside) parts.1
              | inr more ↦ false_from_ne_true (is_spot section offset (get_or items k no_item)) (λ there.
                  let less : j < k = omega arith in
                  let no = not_at (get_or items j no_item) (get_or items k no_item) section offset (in_order j k less below) there in
                  let clash : true ≡ false = sym parts.1 ∙ no in
                  cc)
            ])
      ])
]

pub place_there : (items : List Item) (section offset k : ℕ) → place_of items section offset ≡ Some k → k < length items
place_there items section offset k e = (position-Some (is_spot section offset) items k no_item e).0

pub place_within : (items : List Item) (section offset : ℕ) (o : Option ℕ) (n : ℕ) → o ≡ place_of items section offset → n ≡ length items
    → IfSome o (λ k. k < n)
place_within items section offset None n e many = tt
place_within items section offset (Some k) n e many = let there = place_there items section offset k (sym e) in omega arith

-- one place more that is not marked
pub unmarked_more : (marks : List Bool) → ((k : ℕ) → get_or marks k false ≡ false) → (k : ℕ) → get_or (marks ++ false ∷ []) k false ≡ false
unmarked_more [] none zero = refl
unmarked_more [] none (suc k) = refl
unmarked_more (m ∷ marks) none zero = none 0
unmarked_more (m ∷ marks) none (suc k) = unmarked_more marks (λ i. none (suc i)) k

pub begun_none : (program : Program) (marks : List Bool) → length marks ≡ count program → ((k : ℕ) → get_or marks k false ≡ false)
    → AreBegun program [] marks
begun_none program marks size each = record { size = size; each = λ k below. each k }

-- one function more
pub begun_more : (program : Program) (j : ℕ) (f : Func) (old new : List Bool) → AreInOrder program.items
    → slice_get program.funcs j ≡ Some f → AreBegun program (take j program.funcs) old → length new ≡ length old
    → ((k : ℕ) → get_or new k false ≡ (get_or old k false || is_number k (place_of program.items f.section f.offset)))
    → AreBegun program (take (j + 1) program.funcs) new
begun_more program j f old new in_order there so_far same each = record {
  size = same ∙ so_far.size;
  each = λ k below.
      let i = item_of program k in
      each k
      ∙ ap (λ (b : Bool). b || is_number k (place_of program.items f.section f.offset)) (so_far.each k below)
      ∙ ap (λ (b : Bool). list_any (begins i) (take j program.funcs) || b) (spot_only program.items in_order f.section f.offset k below)
      ∙ ap (λ (g : Func). list_any (begins i) (take j program.funcs) || begins i g) (sym (get_or_from_slice_get program.funcs j f no_func there))
      ∙ sym (list_any_more (begins i) program.funcs j no_func (slice_get_within program.funcs j f there));
}
