-- Which places are direct targets of calls, while a loop marks them.
use Rattle.std.proofs.Common.{◌≡◌, ◌==◌, ℕ, ◌+◌, ◌<◌, ◌≤◌, Bool, true, false, List, length, take, Option, Some, None, get_or, replicate, inl, inr, refl, sym, ap, ◌∙◌, get_or-set_same, get_or-set_other}
use Rattle.std.specs.Prelude.{◌||◌, IfSome, set}
use Rattle.std.specs.List.{list_any}
use Rattle.std.proofs.lemmas.Bool.{and_parts, cases_eq, eq-eqb, ltb-true, ne_eqb, or_right}
use Rattle.std.proofs.lemmas.List.{length-replicate, length-set, take_all}
use Rattle.std.proofs.lemmas.List.Folds.{list_any_more}
use Rattle.obj_input.specs.declared.item_kind.ItemKind.{ItemKind}
use Rattle.obj_program.specs.declared.item.Item.{Item}
use Rattle.obj_program.specs.Program.{Program, count, item_of, no_item}
use Rattle.obj_program.specs.Sound.{IsSound, aims, is_direct}
use Rattle.cfi_class.proofs.Agreeing.{none_at}
use Rattle.cfi_leads.specs.Entries.{aims_at, call_target, if_kind, is_called}
use Rattle.cfi_leads.specs.Marks.{AreFlags, marked}

-- direct targets of a sound program are places
pub inside_if : (program : Program) (kind : ItemKind) (o : Option ℕ) → aims program kind o ≡ true → IfSome o (λ (t : ℕ). t < count program)
inside_if program kind None aim = tt
inside_if program kind (Some t) aim = ltb-true t (count program) (and_parts (is_direct kind) _ (and_parts _ _ aim).0).1

if_asked : (b : Bool) (o : Option ℕ) (n : ℕ) → IfSome o (λ (t : ℕ). t < n) → IfSome (if_kind b o) (λ (t : ℕ). t < n)
if_asked false o n inside = tt
if_asked true o n inside = inside

-- so those that are asked for are
pub target_inside : (program : Program) (asked : Bool) (k : ℕ) → IsSound program → k < count program →
    IfSome (if_kind asked (item_of program k).target) (λ (t : ℕ). t < count program)
target_inside program asked k sound below =
    if_asked asked (item_of program k).target (count program) (inside_if program (item_of program k).kind (item_of program k).target (sound.targets k below))

or_none : (b : Bool) → b ≡ (b || false)
or_none true = refl
or_none false = refl

-- marking a place
pub marked_at : (flags : List Bool) (o : Option ℕ) (j : ℕ) → IfSome o (λ (t : ℕ). t < length flags) →
    get_or (marked flags o) j false ≡ (get_or flags j false || aims_at j o)
marked_at flags None j inside = or_none (get_or flags j false)
marked_at flags (Some t) j inside = elim (cases_eq t j) [
  | inl same ↦
      ap (λ (n : ℕ). get_or (set flags t true) n false) (sym same) ∙ get_or-set_same flags t true false inside
      ∙ sym (or_right (get_or flags j false) (t == j) (eq-eqb t j same))
  | inr apart ↦
      get_or-set_other flags t j true false (λ e. apart (sym e))
      ∙ or_none (get_or flags j false) ∙ ap (λ (b : Bool). get_or flags j false || b) (sym (ne_eqb t j apart))
]

pub marked_length : (flags : List Bool) (o : Option ℕ) → length (marked flags o) ≡ length flags
marked_length flags None = refl
marked_length flags (Some t) = length-set flags t true

-- the targets of the first places are marked
pub record AreMarked (program : Program) (k : ℕ) (flags : List Bool) : Type 0 where
  pub size : length flags ≡ count program
  pub each : (j : ℕ) → get_or flags j false ≡ list_any (λ (i : Item). aims_at j (call_target i)) (take k program.items)

pub marked_begin : (program : Program) (n : ℕ) (flags : List Bool) → n ≡ count program → flags ≡ replicate n false → AreMarked program 0 flags
marked_begin program n flags size is = record {
  size = ap length is ∙ length-replicate n false ∙ size;
  each = λ j. ap (λ (l : List Bool). get_or l j false) is ∙ none_at n j;
}

pub call_inside : (program : Program) (k size : ℕ) → IsSound program → k < count program → size ≡ count program →
    IfSome (call_target (item_of program k)) (λ (t : ℕ). t < size)
call_inside program k size sound below same = rw same (target_inside program _ k sound below)

pub marked_more : (program : Program) (k : ℕ) (flags more : List Bool) (o : Option ℕ) → IsSound program → k < count program → o ≡ call_target (item_of program k) →
    more ≡ marked flags o → AreMarked program k flags → AreMarked program (k + 1) more
marked_more program k flags more o sound below is grown so_far = record {
  size = ap length grown ∙ marked_length flags o ∙ so_far.size;
  each = λ j.
      ap (λ (l : List Bool). get_or l j false) (grown ∙ ap (marked flags) is)
      ∙ marked_at flags (call_target (item_of program k)) j (call_inside program k (length flags) sound below so_far.size)
      ∙ ap (λ (b : Bool). b || aims_at j (call_target (item_of program k))) (so_far.each j)
      ∙ sym (list_any_more (λ (i : Item). aims_at j (call_target i)) program.items k no_item below);
}

pub marked_end : (program : Program) (k : ℕ) (flags : List Bool) → count program ≤ k → AreMarked program k flags → AreFlags (is_called program) (count program) flags
marked_end program k flags all is = record {
  counted = is.size;
  each = λ j below. is.each j ∙ ap (list_any (λ (i : Item). aims_at j (call_target i))) (take_all k program.items all);
}
