-- Distances while words are counted between branches and their targets.
use Rattle.std.proofs.Common.{◌≡◌, ℕ, ◌+◌, ◌<◌, ◌≤◌, true, false, List, Some, length, get_or, set, refl, sym, ap, ◌∙◌, arith, inl, inr}
use Rattle.std.specs.Prelude.{IsTrue, slice_get}
use Rattle.std.proofs.lemmas.Bool.{cases_eq}
use Rattle.std.proofs.lemmas.List.{get_or-set_same, get_or-set_other}
use Rattle.cfi_layout.specs.declared.short.Short.{Short}
use Rattle.cfi_layout.specs.Lengthening.{spans, IsWidened}

-- before the branch with number n
pub record Widening (branches : List Short) (part : ℕ) (before now : List ℕ) (n : ℕ) : Type 0 where
  pub so_far : IsWidened branches part before now
  pub rest : (i : ℕ) → n ≤ i → get_or now i 0 ≡ get_or before i 0

pub widening_begins : (branches : List Short) (part : ℕ) (before : List ℕ) (n : ℕ) → Widening branches part before before n
widening_begins branches part before n = record {
  so_far = record { over = λ i b is over. omega arith; others = λ i b is none. omega arith };
  rest = λ i le. refl;
}

pub widening_passes : (branches : List Short) (part : ℕ) (before now : List ℕ) (n : ℕ) → Widening branches part before now n → Widening branches part before now (n + 1)
widening_passes branches part before now n w = record { so_far = w.so_far; rest = λ i le. w.rest i (omega arith) }

same_there : (branches : List Short) (n i : ℕ) (b c : Short) → slice_get branches n ≡ Some b → slice_get branches i ≡ Some c → i ≡ n → c ≡ b
same_there branches n i b c there is same = let e : Some c ≡ Some b = sym is ∙ ap (λ (k : ℕ). slice_get branches k) same ∙ there in cc

pub widening_counts : (branches : List Short) (part : ℕ) (before now : List ℕ) (n value : ℕ) (b : Short) → n < length now → slice_get branches n ≡ Some b →
    IsTrue (spans b part) → value ≤ get_or now n 0 + 4 → Widening branches part before now n → Widening branches part before (set now n value) (n + 1)
widening_counts branches part before now n value b lt there over small w =
    let here : get_or (set now n value) n 0 ≡ value = get_or-set_same now n value 0 lt in
    let old = w.rest n (omega arith) in
    record {
      so_far = record {
        over = λ i c is lies. elim (cases_eq i n) [
          | inl same ↦ rw (same, here) (omega arith)
          | inr differ ↦ rw (get_or-set_other now n i value 0 differ) (w.so_far.over i c is lies)
        ];
        others = λ i c is none. elim (cases_eq i n) [
          | inl same ↦
              let both : true ≡ false = sym over ∙ ap (λ (x : Short). spans x part) (sym (same_there branches n i b c there is same)) ∙ none in
              absurd (cc)
          | inr differ ↦ rw (get_or-set_other now n i value 0 differ) (w.so_far.others i c is none)
        ];
      };
      rest = λ i le. let differ : i ≡ n → ⊥ = λ e. omega arith in get_or-set_other now n i value 0 differ ∙ w.rest i (omega arith);
    }
