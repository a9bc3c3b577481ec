-- One object whose names all differ is joined to the input that it is by itself.
use Rattle.std.proofs.Common.{◌≡◌, ◌≢◌, ◌⊎◌, ◌==◌, ℕ, ◌+◌, ◌<◌, Bool, true, false, not, ◌&&◌, ◌||◌, if◌then◌else◌, Option, Some, None, List, [], ◌∷◌, length, map, inl, inr, refl, sym, ap, ◌∙◌, arith}
use Rattle.std.specs.Option.{option_or}
use Rattle.std.proofs.lemmas.Bool.{and_parts, cases_Bool, cases_lt, eq-eqb, or_right}
use Rattle.std.proofs.lemmas.List.{get_or_past}
use Rattle.std.proofs.Math.Path.{fun_ext}
use Rattle.std.proofs.lemmas.Slice.Eq.{bytes_eq-Decides}
use Rattle.rv_word.proofs.Cases.{cases_Option}
use Rattle.least.proofs.Firsts.{found_parts, none_first}
use Rattle.obj_join.specs.declared.standing.Standing.{Standing}
use Rattle.obj_join.specs.declared.standing.Standing.TheVariants.{AsCommon, AsNumber, InSection, IsNone, Nowhere}
use Rattle.obj_join.specs.Said.{Said, SectionSaid, SymbolSaid, UseSaid, said_together, section_behind, standing_behind, symbol_behind, use_behind}
use Rattle.obj_join.specs.Symbols.{is_some_symbol, no_symbol, number_if, symbol}
use Rattle.obj_join.specs.Definer.{definer, first_called, is_called, is_common, is_private, is_shared, is_strong, is_weak, own, resolved}
use Rattle.obj_join.specs.Duplicate.{duplicate, is_second}
use Rattle.obj_join.specs.Found.{is_found}
use Rattle.obj_join.specs.SaidInput.{input_by, is_named, named, names_by}
use Rattle.obj_join.specs.Joined.{own_input, shared_input}
use Rattle.obj_join.specs.Laws.{HasOwnNames, IsNamed, OneIsOwn}
use Rattle.obj_join.proofs.Sorting.{joined_same}

pub shared_some : (s : SymbolSaid) → is_shared s ≡ true → is_some_symbol s.standing ≡ true
shared_some s e = (and_parts (is_some_symbol s.standing) (not (length s.name == 0)) (and_parts (is_some_symbol s.standing && not (length s.name == 0)) (s.binding == 1 || s.binding == 2) e).0).0

shared_name : (s : SymbolSaid) → is_shared s ≡ true → s.name ≢ []
shared_name s e =
    let parts = and_parts (is_some_symbol s.standing) (not (length s.name == 0)) (and_parts (is_some_symbol s.standing && not (length s.name == 0)) (s.binding == 1 || s.binding == 2) e).0 in
    λ empty. let no : not (length s.name == 0) ≡ false = rw empty refl in absurd (cc)

-- a test of symbols that are shared
OfShared : (SymbolSaid → Bool) → Type 0
OfShared test = (s : SymbolSaid) → test s ≡ true → is_shared s ≡ true

of_strong : OfShared is_strong
unfolding OfShared
of_strong s e = (and_parts (is_shared s) _ e).0

of_weak : OfShared is_weak
unfolding OfShared
of_weak s e = (and_parts (is_shared s) _ e).0

of_common : OfShared is_common
unfolding OfShared
of_common s e = (and_parts (is_shared s) _ e).0

module _ (symbols : List SymbolSaid) (own_names : HasOwnNames symbols) where
  there : (n : ℕ) → is_some_symbol (symbol symbols n).standing ≡ true → n < length symbols
  there n some = elim (cases_lt n (length symbols)) [
    | inl below ↦ below
    | inr past ↦
        let none : symbol symbols n ≡ no_symbol = get_or_past symbols n no_symbol past in
        let no : false ≡ true = ap (λ (s : SymbolSaid). is_some_symbol s.standing) (sym none) ∙ some in
        absurd (cc)
  ]

  shared_named : (n : ℕ) → is_shared (symbol symbols n) ≡ true → IsNamed symbols n
  shared_named n shared = record {
    there = there n (shared_some (symbol symbols n) shared);
    some = shared_some (symbol symbols n) shared;
    name = shared_name (symbol symbols n) shared;
  }

  -- what is found of a name
  found : (test : SymbolSaid → Bool) (name : List ℕ) (k : ℕ) → first_called test symbols name ≡ Some k
      → (test (symbol symbols k) ≡ true) × ((symbol symbols k).name ≡ name)
  found test name k e =
      let parts = and_parts (test (symbol symbols k)) (is_called name (symbol symbols k)) (found_parts (λ n. test (symbol symbols n) && is_called name (symbol symbols n)) (length symbols) k e).1 in
      (parts.0, (bytes_eq-Decides (symbol symbols k).name name).0 parts.1)

  -- a shared symbol alone has its name
  itself_or_none : (test : SymbolSaid → Bool) → OfShared test → (n : ℕ) → is_shared (symbol symbols n) ≡ true
      → (first_called test symbols (symbol symbols n).name ≡ None) ⊎ (first_called test symbols (symbol symbols n).name ≡ Some n)
  unfolding OfShared
  itself_or_none test of n shared = elim (cases_Option (first_called test symbols (symbol symbols n).name)) [
    | inl none ↦ inl none
    | inr (k, some) ↦
        let parts = found test (symbol symbols n).name k some in
        let same : k ≡ n = own_names k n (shared_named k (of (symbol symbols k) parts.0)) (shared_named n shared) parts.1 in
        inr (some ∙ ap (λ (j : ℕ). Some j) same)
  ]

  none_of_private : (test : SymbolSaid → Bool) → OfShared test → (n : ℕ) → is_some_symbol (symbol symbols n).standing ≡ true
      → is_shared (symbol symbols n) ≡ false → first_called test symbols (symbol symbols n).name ≡ None
  unfolding OfShared
  none_of_private test of n some private = elim (cases_Option (first_called test symbols (symbol symbols n).name)) [
    | inl none ↦ none
    | inr (k, e) ↦
        let parts = found test (symbol symbols n).name k e in
        let shared = of (symbol symbols k) parts.0 in
        let name : (symbol symbols n).name ≢ [] = λ empty. shared_name (symbol symbols k) shared (parts.1 ∙ empty) in
        let same : k ≡ n = own_names k n (shared_named k shared) (record { there = there n some; some = some; name = name }) parts.1 in
        let no : true ≡ false = sym shared ∙ ap (λ (j : ℕ). is_shared (symbol symbols j)) same ∙ private in
        absurd (cc)
  ]

  no_private : (n : ℕ) → is_shared (symbol symbols n) ≡ true → first_called is_private symbols (symbol symbols n).name ≡ None
  no_private n shared = elim (cases_Option (first_called is_private symbols (symbol symbols n).name)) [
    | inl none ↦ none
    | inr (k, e) ↦
        let parts = found is_private (symbol symbols n).name k e in
        let private = and_parts (is_some_symbol (symbol symbols k).standing) (not (is_shared (symbol symbols k))) parts.0 in
        let name : (symbol symbols k).name ≢ [] = λ empty. shared_name (symbol symbols n) shared (sym parts.1 ∙ empty) in
        let same : k ≡ n = own_names k n (record { there = there k private.0; some = private.0; name = name }) (shared_named n shared) parts.1 in
        let again : is_shared (symbol symbols k) ≡ true = ap (λ (j : ℕ). is_shared (symbol symbols j)) same ∙ shared in
        let no : not (is_shared (symbol symbols k)) ≡ false = rw again refl in
        absurd (cc)
  ]

  either : (n : ℕ) (a b : Option ℕ) → (a ≡ None) ⊎ (a ≡ Some n) → (b ≡ None) ⊎ (b ≡ Some n) → (option_or a b ≡ None) ⊎ (option_or a b ≡ Some n)
  either n a b (inl none) rest = rw none rest
  either n a b (inr some) rest = rw some (inr refl)

  definer_itself : (n : ℕ) → is_shared (symbol symbols n) ≡ true
      → (definer symbols (symbol symbols n).name ≡ None) ⊎ (definer symbols (symbol symbols n).name ≡ Some n)
  unfolding definer
  definer_itself n shared =
      either n _ _ (itself_or_none is_strong of_strong n shared)
      (either n _ _ (itself_or_none is_common of_common n shared) (itself_or_none is_weak of_weak n shared))

  definer_none : (n : ℕ) → is_some_symbol (symbol symbols n).standing ≡ true → is_shared (symbol symbols n) ≡ false
      → definer symbols (symbol symbols n).name ≡ None
  unfolding definer
  definer_none n some private =
      rw (
        none_of_private is_strong of_strong n some private,
        none_of_private is_common of_common n some private,
        none_of_private is_weak of_weak n some private,
      ) refl

  resolved_own : (n : ℕ) → resolved symbols n ≡ own symbols n
  unfolding resolved
  resolved_own n = elim (cases_Bool (is_shared (symbol symbols n))) [
    | inr private ↦ rw private refl
    | inl shared ↦ elim (definer_itself n shared) [
      | inl none ↦ rw (shared, none, shared_some (symbol symbols n) shared) refl
      | inr some ↦ rw (shared, some, shared_some (symbol symbols n) shared) refl
    ]
  ]

  finds_all : (n : ℕ) → is_some_symbol (symbol symbols n).standing ≡ true → is_found symbols n ≡ true
  unfolding is_found
  finds_all n some = elim (cases_Bool (is_shared (symbol symbols n))) [
    | inl shared ↦ rw (shared, no_private n shared) (or_right _ _ refl)
    | inr private ↦ rw (private, definer_none n some private) refl
  ]

  all_found : (n : ℕ) → is_named (is_found symbols) symbols n ≡ is_named (λ m. true) symbols n
  all_found n = elim (cases_Bool (is_some_symbol (symbol symbols n).standing)) [
    | inl some ↦ ap (λ (b : Bool). is_some_symbol (symbol symbols n).standing && b) (finds_all n some)
    | inr none ↦ rw none refl
  ]

  never_second : (n : ℕ) → is_second symbols n ≡ false
  unfolding OfShared
  never_second n = elim (cases_Bool (is_strong (symbol symbols n))) [
    | inr other ↦ rw other refl
    | inl strong ↦ elim (itself_or_none is_strong of_strong n (of_strong (symbol symbols n) strong)) [
      | inl none ↦ rw (strong, none) refl
      | inr some ↦ rw (strong, some, eq-eqb n n refl) refl
    ]
  ]

  never_duplicate : duplicate symbols ≡ None
  unfolding duplicate
  never_duplicate = rw (none_first (is_second symbols) (length symbols) (λ k below. never_second k)) refl

  all_named : (resolve : ℕ → ℕ) → names_by resolve (is_found symbols) symbols ≡ names_by resolve (λ n. true) symbols
  unfolding names_by
  all_named resolve =
      ap (map (named resolve symbols))
      (joined_same (number_if (is_named (is_found symbols) symbols)) (number_if (is_named (λ n. true) symbols)) (length symbols)
      (λ k below. ap (λ (b : Bool). if b then k ∷ [] else []) (all_found k)))

-- nothing is numbered on behind nothing
use_same : (u : UseSaid) → use_behind 0 u ≡ u
use_same u =
    let e : 0 + u.symbol ≡ u.symbol = omega arith in
    λ i. record { offset = u.offset; number = u.number; addend = u.addend; symbol = e i }

all_same : {A : Type 0} (f : A → A) → ((x : A) → f x ≡ x) → (xs : List A) → map f xs ≡ xs
all_same f same [] = refl
all_same f same (x ∷ xs) = rw (same x, all_same f same xs) refl

section_same : (s : SectionSaid) → section_behind 0 s ≡ s
section_same s =
    λ i. record { sort = s.sort; size = s.size; align = s.align; content = s.content; uses = all_same (use_behind 0) use_same s.uses i }

standing_same : (s : Standing) → standing_behind 0 s ≡ s
standing_same (InSection k) = ap (λ (j : ℕ). InSection j) (omega arith)
standing_same IsNone = refl
standing_same Nowhere = refl
standing_same AsNumber = refl
standing_same AsCommon = refl

symbol_same : (s : SymbolSaid) → symbol_behind 0 s ≡ s
symbol_same s =
    λ i. record {
      name = s.name;
      binding = s.binding;
      standing = standing_same s.standing i;
      value = s.value;
      size = s.size;
      is_function = s.is_function;
    }

pub one_said : (said : Said) → said_together (said ∷ []) ≡ said
unfolding said_together
one_said said =
    λ i. record { sections = all_same (section_behind 0) section_same said.sections i; symbols = all_same (symbol_behind 0) symbol_same said.symbols i }

with_names : (resolve : ℕ → ℕ) (said : Said) → HasOwnNames said.symbols
    → input_by resolve (is_found said.symbols) said ≡ input_by resolve (λ n. true) said
unfolding input_by
with_names resolve said own_names =
    λ i. record {
      sections = (input_by resolve (λ n. true) said).sections;
      blocks = (input_by resolve (λ n. true) said).blocks;
      names = all_named said.symbols own_names resolve i;
      funcs = (input_by resolve (λ n. true) said).funcs;
    }

same_input : (said : Said) → HasOwnNames said.symbols → shared_input said ≡ own_input said
unfolding shared_input own_input
same_input said own_names =
    ap (λ (r : ℕ → ℕ). input_by r (is_found said.symbols) said) (fun_ext (resolved_own said.symbols own_names))
    ∙ with_names (own said.symbols) said own_names

pub one_object : OneIsOwn
one_object said own_names = (
  ap shared_input (one_said said) ∙ same_input said own_names,
  ap (λ (s : Said). duplicate s.symbols) (one_said said) ∙ never_duplicate said.symbols own_names,
)
