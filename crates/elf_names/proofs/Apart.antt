-- Numbers of names tell them apart.
use Rattle.std.proofs.Common.{◌≡◌, ℕ, ◌+◌, ◌<◌, ◌==◌, true, false, List, [], ◌∷◌, ◌++◌, drop, length, get_or, map, take, inl, inr, sym, ap, subst, ◌∙◌, append_assoc, arith}
use Rattle.std.specs.Str.{bytes_eq}
use Rattle.std.proofs.lemmas.Bool.{cases_Bool, cases_lt, eq-eqb, eqb-true}
use Rattle.std.proofs.lemmas.List.{get_or_append_left, get_or_push, length_push, map_more}
use Rattle.std.proofs.lemmas.Slice.Eq.{bytes_eq-Decides}
use Rattle.elf_names.specs.Marks.{spelled}
use Rattle.elf_names.specs.Numbers.{AreApart, AreNumbers}
use Rattle.elf_names.specs.Texts.{Grows, Has}

pub apart : (texts : List (List ℕ)) → ((m n : ℕ) (text : List ℕ) → Has texts m text → Has texts n text → m ≡ n)
    → (numbers : List ℕ) (names : List (List ℕ)) → AreNumbers texts numbers names → AreApart names numbers
apart texts one numbers names are = record { size = are.size; each = each } where
  each : (m n : ℕ) → m < length names → n < length names
      → bytes_eq (get_or names m []) (get_or names n []) ≡ (get_or numbers m 0 == get_or numbers n 0)
  each m n below_m below_n = elim (cases_Bool (bytes_eq (get_or names m []) (get_or names n []))) [
    | inl same ↦
        let names_same : get_or names m [] ≡ get_or names n [] = (bytes_eq-Decides _ _).0 same in
        let at_m = are.each m below_m in
        let at_n = are.each n below_n in
        let numbers_same : get_or numbers m 0 ≡ get_or numbers n 0 =
        one (get_or numbers m 0) (get_or numbers n 0) (get_or names n []) (at_m.0, at_m.1 ∙ names_same) at_n in
        same ∙ sym (eq-eqb _ _ numbers_same)
    | inr other ↦ elim (cases_Bool (get_or numbers m 0 == get_or numbers n 0)) [
      | inr differ ↦ other ∙ sym differ
      | inl equal ↦
          let numbers_same : get_or numbers m 0 ≡ get_or numbers n 0 = eqb-true _ _ equal in
          let names_same : get_or names m [] ≡ get_or names n [] =
          sym (are.each m below_m).1 ∙ ap (λ (k : ℕ). get_or texts k []) numbers_same ∙ (are.each n below_n).1 in
          let no : true ≡ false = sym ((bytes_eq-Decides _ _).1 names_same) ∙ other in
          absurd (cc)
    ]
  ]

pub numbers_grown : (old new : List (List ℕ)) (numbers : List ℕ) (names : List (List ℕ)) → Grows old new → AreNumbers old numbers names → AreNumbers new numbers names
numbers_grown old new numbers names grown are = record { size = are.size; each = λ k below. grown _ _ (are.each k below) }

pub numbers_pushed : (texts : List (List ℕ)) (numbers : List ℕ) (names : List (List ℕ)) (number : ℕ) (name : List ℕ) → AreNumbers texts numbers names
    → Has texts number name → AreNumbers texts (numbers ++ number ∷ []) (names ++ name ∷ [])
numbers_pushed texts numbers names number name are has = record {
  size = length_push numbers number ∙ ap (λ (n : ℕ). n + 1) are.size ∙ sym (length_push names name);
  each = each;
} where
  each : (k : ℕ) → k < length (names ++ name ∷ []) → Has texts (get_or (numbers ++ number ∷ []) k 0) (get_or (names ++ name ∷ []) k [])
  each k below = elim (cases_lt k (length names)) [
    | inl less ↦
        let inside : k < length numbers = omega (arith, less, are.size) in
        let has_k = are.each k less in
        let number_k : get_or numbers k 0 ≡ get_or (numbers ++ number ∷ []) k 0 = sym (get_or_append_left numbers (number ∷ []) 0 k inside) in
        subst (λ (n : ℕ). Has texts n (get_or (names ++ name ∷ []) k [])) number_k
        (has_k.0, has_k.1 ∙ sym (get_or_append_left names (name ∷ []) [] k less))
    | inr most ↦
        let size : length (names ++ name ∷ []) ≡ length names + 1 = length_push names name in
        let last : length names ≡ k = omega (arith, below, most, size) in
        let last_number : length numbers ≡ k = are.size ∙ last in
        subst (λ (n : ℕ). Has texts n (get_or (names ++ name ∷ []) k [])) (sym (get_or_push numbers number 0 k last_number))
        (has.0, has.1 ∙ sym (get_or_push names name [] k last))
  ]

-- the names at some places of a table, one place more
names_more : (table starts : List ℕ) (names : List (List ℕ)) (i at : ℕ) → i < length starts → at ≡ get_or starts i 0
    → (names ++ map (λ (s : ℕ). spelled (drop s table)) (take i starts)) ++ spelled (drop at table) ∷ []
    ≡ names ++ map (λ (s : ℕ). spelled (drop s table)) (take (i + 1) starts)
names_more table starts names i at below is =
    append_assoc names (map (λ (s : ℕ). spelled (drop s table)) (take i starts)) (spelled (drop at table) ∷ [])
    ∙ ap (λ (ns : List (List ℕ)). names ++ ns)
    (ap (λ (s : ℕ). map (λ (s : ℕ). spelled (drop s table)) (take i starts) ++ spelled (drop s table) ∷ []) is
    ∙ sym (map_more (λ (s : ℕ). spelled (drop s table)) starts i 0 below))

pub numbers_next : (old new : List (List ℕ)) (table starts numbers next : List ℕ) (names : List (List ℕ)) (i at number : ℕ) → i < length starts → at ≡ get_or starts i 0
    → Grows old new → Has new number (spelled (drop at table)) → next ≡ numbers ++ number ∷ []
    → AreNumbers old numbers (names ++ map (λ (s : ℕ). spelled (drop s table)) (take i starts))
    → AreNumbers new next (names ++ map (λ (s : ℕ). spelled (drop s table)) (take (i + 1) starts))
numbers_next old new table starts numbers next names i at number below is grown has e are =
    subst (λ (ns : List ℕ). AreNumbers new ns (names ++ map (λ (s : ℕ). spelled (drop s table)) (take (i + 1) starts))) (sym e)
    (subst (λ (ns : List (List ℕ)). AreNumbers new (numbers ++ number ∷ []) ns) (names_more table starts names i at below is)
    (numbers_pushed new numbers _ number _ (numbers_grown old new numbers _ grown are) has))
