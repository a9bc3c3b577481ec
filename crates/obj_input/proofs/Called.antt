-- The first symbol with a name, by the index that holds the first of each short name.
use Rattle.std.proofs.Common.{◌≡◌, ℕ, ◌+◌, ◌<◌, nat_le, Bool, false, if◌then◌else◌, Option, Some, None, List, [], ◌∷◌, ◌++◌, length, take, get_or, inl, inr, refl, sym, ap, ◌∙◌}
use Rattle.std.specs.List.{find}
use Rattle.std.specs.Option.{option_or}
use Rattle.std.specs.Map.{update}
use Rattle.std.specs.Str.{bytes_eq}
use Rattle.std.proofs.lemmas.Bool.{cases_Bool, eq-eqb}
use Rattle.std.proofs.lemmas.List.{take_more}
use Rattle.std.proofs.lemmas.List.Folds.{find-append}
use Rattle.std.proofs.lemmas.Slice.Eq.{bytes_eq-Decides}
use Rattle.rv_word.proofs.Cases.{cases_Option}
use Rattle.obj_input.specs.declared.parts.Definition.{Definition}
use Rattle.obj_input.specs.Input.{Named}
use Rattle.obj_input.specs.Names.{find_spot, is_called, spot_of}
use Rattle.obj_input.specs.Indexed.{first_definition, noted}

passed : (n : Named) (found : Option Definition) (called : List ℕ) → bytes_eq n.name called ≡ false → found ≡ noted n found called
passed n None called other = rw other refl
passed n (Some d) called other = refl

pub short_name : (n : Named) (bytes : List ℕ) → Some bytes ≡ (if nat_le (length n.name) 256 then Some n.name else None) → bytes ≡ n.name
short_name n bytes some = elim (cases_Bool (nat_le (length n.name) 256)) [
  | inl fits ↦ let same : Some bytes ≡ Some n.name = rw fits at some in cc
  | inr longer ↦ let no : Some bytes ≡ None = rw longer at some in absurd (cc)
]

-- a name that is not there is added
pub added : (n : Named) (found : List ℕ → Option Definition) (bytes called : List ℕ) (d : Definition) → bytes ≡ n.name → d ≡ n.definition → found bytes ≡ None
    → update bytes_eq found bytes (Some d) called ≡ noted n (found called) called
added n found bytes called d same stands none = elim (cases_Bool (bytes_eq n.name called)) [
  | inl is ↦
      let here : found called ≡ None = ap found (sym (same ∙ (bytes_eq-Decides n.name called).0 is)) ∙ none in
      rw (same, here, is, stands) refl
  | inr other ↦ rw (same, other) (passed_over (found called))
] where
  passed_over : (o : Option Definition) → o ≡ option_or o None
  passed_over None = refl
  passed_over (Some d) = refl

-- one more name
one_more : (names : List Named) (n : Named) (name : List ℕ) → first_definition (names ++ n ∷ []) name ≡ noted n (first_definition names name) name
one_more names n name = elim (cases_Option (find (λ (m : Named). bytes_eq m.name name) names)) [
  | inl none ↦ elim (cases_Bool (bytes_eq n.name name)) [
    | inl is ↦ rw (find-append (λ (m : Named). bytes_eq m.name name) names (n ∷ []), none, is) refl
    | inr other ↦ rw (find-append (λ (m : Named). bytes_eq m.name name) names (n ∷ []), none, other) refl
  ]
  | inr (m, some) ↦ rw (find-append (λ (m : Named). bytes_eq m.name name) names (n ∷ []), some) refl
]

pub next_name : (names : List Named) (i : ℕ) (n : Named) (name : List ℕ) → i < length names → n ≡ get_or names i n
    → noted n (first_definition (take i names) name) name ≡ first_definition (take (i + 1) names) name
next_name names i n name below is =
    sym (ap (λ (ns : List Named). first_definition ns name) (take_more names i n below ∙ ap (λ (m : Named). take i names ++ m ∷ []) (sym is))
    ∙ one_more (take i names) n name)

-- an empty name is never found
none_passes : (test : Named → Bool) (names : List Named) → ((n : Named) → test n ≡ false) → find test names ≡ None
none_passes test [] fails = refl
none_passes test (n ∷ names) fails = rw (fails n) (none_passes test names fails)

pub empty_not_found : (names : List Named) (name : List ℕ) → length name ≡ 0 → None ≡ find_spot names name
empty_not_found names name empty =
    sym (ap spot_of (none_passes (is_called name) names (λ n. rw (eq-eqb (length name) 0 empty) refl)))
