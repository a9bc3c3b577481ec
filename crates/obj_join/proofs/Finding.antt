-- The first of the names of several objects that is a name is that of the symbol which the name finds.
use Rattle.std.proofs.Common.{◌≡◌, ◌==◌, ℕ, zero, suc, ◌<◌, Bool, true, false, not, ◌&&◌, ◌||◌, if◌then◌else◌, Option, Some, None, List, [], ◌∷◌, length, map, unwrap_or, inl, inr, refl, sym, ap, ◌∙◌}
use Rattle.std.specs.Prelude.{is_none, is_some, option_and_then}
use Rattle.std.specs.List.{find}
use Rattle.std.specs.Option.{option_map, option_or}
use Rattle.std.specs.Str.{bytes_eq}
use Rattle.std.proofs.Math.Path.{fun_ext}
use Rattle.std.proofs.lemmas.Bool.{and_from, and_parts, cases_Bool, or_cases}
use Rattle.std.proofs.lemmas.List.{map-append}
use Rattle.std.proofs.lemmas.List.Folds.{find-append}
use Rattle.std.proofs.lemmas.Slice.Eq.{bytes_eq-Decides}
use Rattle.rv_word.proofs.Cases.{cases_Option}
use Rattle.least.specs.First.{first_below}
use Rattle.least.specs.Nearest.{joined}
use Rattle.least.proofs.Firsts.{first_none, found_parts, none_first}
use Rattle.obj_input.specs.Input.{Named}
use Rattle.obj_input.specs.Names.{find_spot, spot_of, spot_within}
use Rattle.obj_input.specs.Names as names
use Rattle.obj_join.specs.declared.standing.Standing.{Standing}
use Rattle.obj_join.specs.declared.standing.Standing.TheVariants.{AsCommon, AsNumber, InSection, IsNone, Nowhere}
use Rattle.obj_join.specs.Said.{SymbolSaid, said_together}
use Rattle.obj_join.specs.Symbols.{is_some_symbol, number_if, symbol}
use Rattle.obj_join.specs.Stands.{definition, definition_of, standing_for}
use Rattle.obj_join.specs.Definer.{definer, first_called, is_called, is_common, is_private, is_put, is_shared, is_strong, is_weak, resolved}
use Rattle.obj_join.specs.Found.{is_found}
use Rattle.obj_join.specs.SaidInput.{input_by, is_named, named, names_by}
use Rattle.obj_join.specs.Joined.{shared_input}
use Rattle.obj_join.specs.Finding.{NamesFindSymbols, found_symbol, spot_at, spot_found, spot_of_symbol}
use Rattle.obj_join.proofs.OneObject.{shared_some}

-- what a function gives for the numbers that meet a test: the first of a name is that of the least number
module _ (test : ℕ → Bool) (f : ℕ → Named) (p : Named → Bool) where
  one_more : (b : Bool) (n : ℕ) → find p (map f (if b then n ∷ [] else [])) ≡ option_map f (if b && p (f n) then Some n else None)
  one_more false n = refl
  one_more true n = elim (cases_Bool (p (f n))) [ inl holds ↦ rw holds refl | inr fails ↦ rw fails refl ]

  mapped_or : (a b : Option ℕ) → option_or (option_map f a) (option_map f b) ≡ option_map f (option_or a b)
  mapped_or None b = refl
  mapped_or (Some a) b = refl

  find_chosen : (n : ℕ) → find p (map f (joined (number_if test) n)) ≡ option_map f (first_below (λ k. test k && p (f k)) n)
  unfolding joined first_below
  find_chosen zero = refl
  find_chosen (suc n) =
      ap (find p) (map-append f (joined (number_if test) n) (number_if test n))
      ∙ find-append p (map f (joined (number_if test) n)) (map f (number_if test n))
      ∙ ap (λ (o : Option Named). option_or o (find p (map f (number_if test n)))) (find_chosen n)
      ∙ ap (λ (o : Option Named). option_or (option_map f (first_below (λ k. test k && p (f k)) n)) o) (one_more (test n) n)
      ∙ mapped_or (first_below (λ k. test k && p (f k)) n) (if test n && p (f n) then Some n else None)

-- which symbols of a name it may find, by what defines it and by the first that is not shared
may_find : Bool → Bool → Option ℕ → Option ℕ → Bool
may_find some shared (Some d) private = shared
may_find some shared None (Some n) = some && not shared
may_find some shared None None = some

named_is : (some shared : Bool) (d private : Option ℕ) → (shared ≡ true → some ≡ true) →
    (some && (if shared then is_some d || is_none private else is_none d)) ≡ may_find some shared d private
unfolding may_find
named_is true true (Some d) private whole = refl
named_is true false (Some d) private whole = refl
named_is false false (Some d) private whole = refl
named_is true true None (Some n) whole = refl
named_is true false None (Some n) whole = refl
named_is false false None (Some n) whole = refl
named_is true true None None whole = refl
named_is true false None None whole = refl
named_is false false None None whole = refl
named_is false true d private whole = let no = whole refl in absurd (cc)

none_and : (a b : Bool) → (a && false) ≡ (b && false)
none_and true true = refl
none_and true false = refl
none_and false true = refl
none_and false false = refl

both_called : (a b some called : Bool) → some ≡ true → (called ≡ true → a ≡ b) → (a && (some && called)) ≡ (b && called)
both_called a b true true is same = ap (λ (x : Bool). x && true) (same refl)
both_called a b true false is same = none_and a b
both_called a b false called is same = absurd (cc)

none_of_both : (a b : Option ℕ) → option_or a b ≡ None → (a ≡ None) × (b ≡ None)
none_of_both None b none = (refl, none)
none_of_both (Some a) b none = absurd (cc)

never : (a b c : Bool) → b ≡ false → (a && (b && c)) ≡ false
never true false c is = refl
never false b c is = refl
never true true c is = absurd (cc)

-- no name is empty
empty_finds : (symbols : List SymbolSaid) (name : List ℕ) → not (length name == 0) ≡ false →
    find_spot (names_by (resolved symbols) (is_found symbols) symbols) name ≡ None
unfolding names_by
empty_finds symbols name empty =
    ap spot_of (find_chosen (is_named (is_found symbols) symbols) (named (resolved symbols) symbols) (names.is_called name) (length symbols))
    ∙ ap (λ (o : Option ℕ). spot_of (option_map (named (resolved symbols) symbols) o))
    (none_first (λ k. is_named (is_found symbols) symbols k && names.is_called name (named (resolved symbols) symbols k)) (length symbols)
    (λ k below. never (is_named (is_found symbols) symbols k) (not (length name == 0)) _ empty))

module _ (symbols : List SymbolSaid) (name : List ℕ) (some : not (length name == 0) ≡ true) where
  tested : (k : ℕ) → (is_named (is_found symbols) symbols k && names.is_called name (named (resolved symbols) symbols k))
      ≡ (may_find (is_some_symbol (symbol symbols k).standing) (is_shared (symbol symbols k)) (definer symbols name) (first_called is_private symbols name)
      && is_called name (symbol symbols k))
  unfolding is_found
  tested k =
      both_called _ _ (not (length name == 0)) (bytes_eq (symbol symbols k).name name) some
      (λ called.
      let same : (symbol symbols k).name ≡ name = (bytes_eq-Decides (symbol symbols k).name name).0 called in
      ap (λ (other : List ℕ).
      is_some_symbol (symbol symbols k).standing
      && (if is_shared (symbol symbols k) then is_some (definer symbols other) || is_none (first_called is_private symbols other) else is_none (definer symbols other))) same
      ∙ named_is (is_some_symbol (symbol symbols k).standing) (is_shared (symbol symbols k)) (definer symbols name) (first_called is_private symbols name)
      (shared_some (symbol symbols k)))

  -- where what a name finds stands
  standing_spot : (resolve : ℕ → ℕ) (n : ℕ) (standing : Standing) → spot_within (standing_for resolve symbols n standing) ≡ spot_at standing (symbol symbols n).value
  standing_spot resolve n IsNone = refl
  standing_spot resolve n Nowhere = refl
  standing_spot resolve n AsNumber = refl
  standing_spot resolve n AsCommon = refl
  standing_spot resolve n (InSection k) = refl

  spot_by : (n m : ℕ) → resolved symbols n ≡ m → spot_within (definition (resolved symbols) symbols n) ≡ spot_of_symbol (symbol symbols m)
  unfolding definition
  spot_by n m is =
      ap (λ (j : ℕ). spot_within (definition_of (resolved symbols) symbols j)) is ∙ standing_spot (resolved symbols) m (symbol symbols m).standing

  -- a shared symbol of the name is what defines the name, if that is there
  resolved_shared : (n : ℕ) → is_shared (symbol symbols n) ≡ true → is_called name (symbol symbols n) ≡ true → resolved symbols n ≡ unwrap_or (definer symbols name) n
  unfolding resolved
  resolved_shared n shared called =
      let same : (symbol symbols n).name ≡ name = (bytes_eq-Decides (symbol symbols n).name name).0 called in
      rw shared (ap (λ (other : List ℕ). unwrap_or (definer symbols other) n) same)

  resolved_private : (n : ℕ) → is_private (symbol symbols n) ≡ true → resolved symbols n ≡ n
  unfolding resolved
  resolved_private n private =
      let parts = and_parts (is_some_symbol (symbol symbols n).standing) (not (is_shared (symbol symbols n))) private in
      elim (cases_Bool (is_shared (symbol symbols n))) [
        | inl shared ↦ let no : not true ≡ true = ap not (sym shared) ∙ parts.1 in absurd (cc)
        | inr other ↦ rw (other, parts.0) refl
      ]

  -- what is found by a test has the name and meets the test
  met : (test : SymbolSaid → Bool) (n : ℕ) → first_called test symbols name ≡ Some n
      → (n < length symbols) × (test (symbol symbols n) ≡ true) × (is_called name (symbol symbols n) ≡ true)
  met test n found =
      let parts = found_parts (λ k. test (symbol symbols k) && is_called name (symbol symbols k)) (length symbols) n found in
      let both = and_parts (test (symbol symbols n)) (is_called name (symbol symbols n)) parts.1 in
      (parts.0, both.0, both.1)

  -- where nothing is found none of the name meets the test
  unmet : (test : SymbolSaid → Bool) (n : ℕ) → first_called test symbols name ≡ None → n < length symbols → is_called name (symbol symbols n) ≡ true
      → test (symbol symbols n) ≡ true → ⊥
  unmet test n none below called holds =
      let fails : (test (symbol symbols n) && is_called name (symbol symbols n)) ≡ false = first_none (λ k. test (symbol symbols k) && is_called name (symbol symbols k)) (length symbols) n none below in
      let meets = and_from (test (symbol symbols n)) (is_called name (symbol symbols n)) holds called in
      cc

  -- what defines a name is shared and has it
  definer_met : (d : ℕ) → definer symbols name ≡ Some d
      → (d < length symbols) × (is_shared (symbol symbols d) ≡ true) × (is_called name (symbol symbols d) ≡ true)
  unfolding definer
  definer_met d is = elim (cases_Option (first_called is_strong symbols name)) [
    | inr (n, e) ↦ by_test is_strong (λ s h. (and_parts (is_shared s) _ h).0) n e (rw e at is)
    | inl none ↦ elim (cases_Option (first_called is_common symbols name)) [
      | inr (n, e) ↦ by_test is_common (λ s h. (and_parts (is_shared s) _ h).0) n e (rw (none, e) at is)
      | inl nor ↦ elim (cases_Option (first_called is_weak symbols name)) [
        | inr (n, e) ↦ by_test is_weak (λ s h. (and_parts (is_shared s) _ h).0) n e (rw (none, nor, e) at is)
        | inl last ↦ let no : None ≡ Some d = rw (none, nor, last) at is in absurd (cc)
      ]
    ]
  ]
    where
      by_test : (test : SymbolSaid → Bool) → ((s : SymbolSaid) → test s ≡ true → is_shared s ≡ true) → (n : ℕ) → first_called test symbols name ≡ Some n
          → Some n ≡ Some d → (d < length symbols) × (is_shared (symbol symbols d) ≡ true) × (is_called name (symbol symbols d) ≡ true)
      by_test test of n e same =
          let at : n ≡ d = cc in
          let parts = met test d (e ∙ same) in
          (parts.0, of (symbol symbols d) parts.1, parts.2)

  none_defines : definer symbols name ≡ None → (first_called is_strong symbols name ≡ None) × (first_called is_weak symbols name ≡ None)
  unfolding definer
  none_defines none =
      let outer = none_of_both (first_called is_strong symbols name) (option_or (first_called is_common symbols name) (first_called is_weak symbols name)) none in
      (outer.0, (none_of_both (first_called is_common symbols name) (first_called is_weak symbols name) outer.1).1)

  -- a shared symbol that stands in a section defines its name, if nothing else does
  undefined_nowhere : (n : ℕ) → definer symbols name ≡ None → n < length symbols → is_called name (symbol symbols n) ≡ true
      → is_shared (symbol symbols n) ≡ true → spot_of_symbol (symbol symbols n) ≡ None
  undefined_nowhere n none below called shared = by_standing (symbol symbols n).standing refl
    where
      by_standing : (standing : Standing) → (symbol symbols n).standing ≡ standing → spot_at standing (symbol symbols n).value ≡ None
      by_standing IsNone is = refl
      by_standing Nowhere is = refl
      by_standing AsNumber is = refl
      by_standing AsCommon is = refl
      by_standing (InSection k) is =
          let put : is_put (symbol symbols n).standing ≡ true = ap is_put is in
          let nothing = none_defines none in
          let bound = (and_parts (is_some_symbol (symbol symbols n).standing && not (length (symbol symbols n).name == 0)) ((symbol symbols n).binding == 1 || (symbol symbols n).binding == 2) shared).1 in
          elim (or_cases ((symbol symbols n).binding == 1) ((symbol symbols n).binding == 2) bound) [
            | inl global ↦ absurd (unmet is_strong n nothing.0 below called (and_from _ _ shared (and_from _ _ global put)))
            | inr weak ↦ absurd (unmet is_weak n nothing.1 below called (and_from _ _ shared (and_from _ _ weak put)))
          ]

  -- the first of the symbols that the name may find stands where the one stands that it finds
  abbrev first_of : Option ℕ → Option ℕ → Option ℕ
  first_of d private =
      first_below (λ k. may_find (is_some_symbol (symbol symbols k).standing) (is_shared (symbol symbols k)) d private && is_called name (symbol symbols k)) (length symbols)

  abbrev spot_named : Option ℕ → Option (ℕ × ℕ)
  spot_named o = spot_of (option_map (named (resolved symbols) symbols) o)

  by_cases : (d private : Option ℕ) → definer symbols name ≡ d → first_called is_private symbols name ≡ private →
      spot_named (first_of d private) ≡ option_and_then (λ n. spot_of_symbol (symbol symbols n)) (option_or d private)
  unfolding may_find
  by_cases (Some d) private defines own_is =
      let (below, shared, called) = definer_met d defines in
      elim (cases_Option (first_called is_shared symbols name)) [
        | inl none ↦ absurd (unmet is_shared d none below called shared)
        | inr (m, e) ↦
            let parts = met is_shared m e in
            let to : resolved symbols m ≡ d = resolved_shared m parts.1 parts.2 ∙ ap (λ (o : Option ℕ). unwrap_or o m) defines in
            ap spot_named e ∙ spot_by m d to
      ]
  by_cases None (Some n) none own_is =
      ap spot_named own_is ∙ spot_by n n (resolved_private n (met is_private n own_is).1)
  by_cases None None none own_none = elim (cases_Option (first_called (λ s. is_some_symbol s.standing) symbols name)) [
    | inl nothing ↦ ap spot_named nothing
    | inr (m, e) ↦
        let parts = met (λ s. is_some_symbol s.standing) m e in
        elim (cases_Bool (is_shared (symbol symbols m))) [
          | inl shared ↦
              let to : resolved symbols m ≡ m = resolved_shared m shared parts.2 ∙ ap (λ (o : Option ℕ). unwrap_or o m) none in
              ap spot_named e ∙ spot_by m m to ∙ undefined_nowhere m none parts.0 parts.2 shared
          | inr private ↦
              absurd (unmet is_private m own_none parts.0 parts.2 (and_from _ _ parts.1 (ap not private)))
        ]
  ]

  found_there : find_spot (names_by (resolved symbols) (is_found symbols) symbols) name ≡ option_and_then (λ n. spot_of_symbol (symbol symbols n)) (found_symbol symbols name)
  unfolding names_by
  found_there =
      ap spot_of (find_chosen (is_named (is_found symbols) symbols) (named (resolved symbols) symbols) (names.is_called name) (length symbols))
      ∙ ap (λ (test : ℕ → Bool). spot_named (first_below test (length symbols))) (fun_ext tested)
      ∙ by_cases (definer symbols name) (first_called is_private symbols name) refl refl

pub names_find_symbols : NamesFindSymbols
unfolding shared_input input_by
names_find_symbols objects name = by_length (said_together objects).symbols
  where
    by_length : (symbols : List SymbolSaid) → find_spot (names_by (resolved symbols) (is_found symbols) symbols) name ≡ spot_found symbols name
    by_length symbols = elim (cases_Bool (length name == 0)) [
      | inl empty ↦
          empty_finds symbols name (ap not empty)
          ∙ ap (λ (b : Bool). if b then None else option_and_then (λ n. spot_of_symbol (symbol symbols n)) (found_symbol symbols name)) (sym empty)
      | inr some ↦
          found_there symbols name (ap not some)
          ∙ ap (λ (b : Bool). if b then None else option_and_then (λ n. spot_of_symbol (symbol symbols n)) (found_symbol symbols name)) (sym some)
    ]
