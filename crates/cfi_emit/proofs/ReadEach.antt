-- A loop that reads words a step apart: what is read so far and what is still read are all.
use Rattle.std.proofs.Common.{◌≡◌, ℕ, suc, ◌+◌, ap, sym, ◌∙◌, List, [], ◌∷◌, ◌++◌, append_assoc, append-nil}
use Rattle.std.specs.Prelude.{Option, Some, None}
use Rattle.rv_instr.specs.declared.instr.Instr.{Instr}
use Rattle.cfi_unit.specs.UnitWords.{instr_at}
use Rattle.cfi_unit.specs.Recognise.{put_first, read_each}

module _ {A : Type 0} (read : Option Instr → Option A) (step : ℕ) (ws : List ℕ) (items all : List A) (k most : ℕ) (so_far : items ++ read_each read step ws k most ≡ all) where
  pub read_on : (item : A) (next left : ℕ) → k + step ≡ next → most ≡ suc left → read (instr_at ws k) ≡ Some item →
      (items ++ item ∷ []) ++ read_each read step ws next left ≡ all
  unfolding read_each
  read_on item next left e f is =
      append_assoc items (item ∷ []) (read_each read step ws next left)
      ∙ ap (λ n. items ++ item ∷ read_each read step ws n left) (sym e)
      ∙ ap (λ o. items ++ put_first o (read_each read step ws (k + step) left)) (sym is)
      ∙ ap (λ n. items ++ read_each read step ws k n) (sym f) ∙ so_far

  pub read_stop : (left : ℕ) → most ≡ suc left → read (instr_at ws k) ≡ None → items ≡ all
  unfolding read_each
  read_stop left f none =
      sym (append-nil items) ∙ ap (λ o. items ++ put_first o (read_each read step ws (k + step) left)) (sym none)
      ∙ ap (λ n. items ++ read_each read step ws k n) (sym f) ∙ so_far

  pub read_end : most ≡ 0 → items ≡ all
  unfolding read_each
  read_end f = sym (append-nil items) ∙ ap (λ n. items ++ read_each read step ws k n) (sym f) ∙ so_far
