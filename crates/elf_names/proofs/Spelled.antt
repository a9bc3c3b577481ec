-- A string is what is spelled before its NUL.
use Rattle.std.proofs.Common.{◌≡◌, ℕ, suc, ◌+◌, ◌==◌, Some, None, nat_lt, List, [], ◌∷◌, length, take, inl, inr, refl, ap, ◌∙◌, arith}
use Rattle.std.specs.List.{position_or_len}
use Rattle.std.proofs.lemmas.Bool.{cases_Bool}
use Rattle.elf_bytes.specs.Fields.{string_of}
use Rattle.elf_names.specs.Marks.{spelled}

abbrev end_of : List ℕ → ℕ
end_of bytes = position_or_len (λ (b : ℕ). b == 0) bytes

front : (bytes : List ℕ) → spelled bytes ≡ take (end_of bytes) bytes
unfolding spelled
front [] = refl
front (b ∷ bs) = elim (cases_Bool (b == 0)) [
  | inl nul ↦ rw nul refl
  | inr other ↦
      let more : suc (end_of bs) ≡ 1 + end_of bs = omega arith in
      rw other (ap (λ (cs : List ℕ). b ∷ cs) (front bs) ∙ ap (λ (n : ℕ). take n (b ∷ bs)) more)
]

pub spelled_string : (bytes text : List ℕ) → string_of bytes ≡ Some text → spelled bytes ≡ text
spelled_string bytes text e = elim (cases_Bool (nat_lt (end_of bytes) (length bytes))) [
  | inl inside ↦ let some : Some (take (end_of bytes) bytes) ≡ Some text = rw inside at e in let same : take (end_of bytes) bytes ≡ text = cc in front bytes ∙ same
  | inr outside ↦ let no : None ≡ Some text = rw outside at e in absurd (cc)
]
