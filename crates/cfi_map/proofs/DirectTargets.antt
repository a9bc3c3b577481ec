-- Which places are direct targets, while a loop marks them.
use Rattle.std.proofs.Common.{◌≡◌, ℕ, ◌+◌, ◌<◌, ◌≤◌, Bool, false, List, length, take, Option, Some, None, get_or, replicate, sym, ap, ◌∙◌, arith}
use Rattle.std.specs.Prelude.{◌||◌, IfSome}
use Rattle.std.specs.List.{list_any}
use Rattle.std.proofs.lemmas.List.{length-replicate, take_all}
use Rattle.std.proofs.lemmas.List.Folds.{list_any_more}
use Rattle.cfi_class.proofs.Agreeing.{none_at}
use Rattle.cfi_map.proofs.Prelude.{Item, Program, count, item_of, no_item, IsSound, aims_at, marked, AreDirectTargets}
use Rattle.cfi_leads.proofs.Called.{marked_at, marked_length, inside_if}

inside_of : (o : Option ℕ) (n m : ℕ) → IfSome o (λ (t : ℕ). t < n) → m ≡ n → IfSome o (λ (t : ℕ). t < m)
inside_of None n m inside same = tt
inside_of (Some t) n m inside same = omega arith

pub target_inside : (program : Program) (k size : ℕ) → IsSound program → k < count program → size ≡ count program →
    IfSome (item_of program k).target (λ (t : ℕ). t < size)
target_inside program k size sound below same =
    inside_of (item_of program k).target (count program) size (inside_if program (item_of program k).kind (item_of program k).target (sound.targets k below)) same

-- the targets of the first places are marked
pub record AreMarked (program : Program) (k : ℕ) (flags : List Bool) : Type 0 where
  pub size : length flags ≡ count program
  pub each : (j : ℕ) → get_or flags j false ≡ list_any (λ (i : Item). aims_at j i.target) (take k program.items)

pub marked_begin : (program : Program) (n : ℕ) (flags : List Bool) → n ≡ count program → flags ≡ replicate n false → AreMarked program 0 flags
marked_begin program n flags size is = record {
  size = ap length is ∙ length-replicate n false ∙ size;
  each = λ j. ap (λ (l : List Bool). get_or l j false) is ∙ none_at n j;
}

pub marked_more : (program : Program) (k : ℕ) (flags more : List Bool) (o : Option ℕ) → IsSound program → k < count program → o ≡ (item_of program k).target →
    more ≡ marked flags o → AreMarked program k flags → AreMarked program (k + 1) more
marked_more program k flags more o sound below is grown so_far = record {
  size = ap length grown ∙ marked_length flags o ∙ so_far.size;
  each = λ j.
      ap (λ (l : List Bool). get_or l j false) (grown ∙ ap (marked flags) is)
      ∙ marked_at flags (item_of program k).target j (target_inside program k (length flags) sound below so_far.size)
      ∙ ap (λ (b : Bool). b || aims_at j (item_of program k).target) (so_far.each j)
      ∙ sym (list_any_more (λ (i : Item). aims_at j i.target) program.items k no_item below);
}

pub marked_end : (program : Program) (k : ℕ) (flags : List Bool) → count program ≤ k → AreMarked program k flags → AreDirectTargets program flags
marked_end program k flags all is j = is.each j ∙ ap (list_any (λ (i : Item). aims_at j i.target)) (take_all k program.items all)
