-- What the instructions and relocations of an input are that has no fault.
use Rattle.std.proofs.Common.{◌≡◌, ◌==◌, ℕ, pos, zero, suc, ◌<◌, ◌≤◌, Bool, true, false, ◌&&◌, if◌then◌else◌, Option, Some, None, List, [], ◌∷◌, length, get_or, inl, inr, refl, sym, ap, subst, ◌∙◌, arith}
use Rattle.std.specs.Prelude.{option_map}
use Rattle.std.specs.List.{All, filter_map}
use Rattle.std.proofs.lemmas.Bool.{cases_Bool, cases_lt}
use Rattle.std.proofs.lemmas.List.{get_or_past}
use Rattle.std.proofs.lemmas.Option.{slice_get-get_or}
use Rattle.std.proofs.lemmas.List.Elements.{All-nil, All-cons, All-filter, All-from_get_or, All-get_or, All-weaker, filter_passes}
use Rattle.rv_word.proofs.Cases.{cases_Option, neither, unmapped}
use Rattle.obj_items.proofs.Prelude.{Found, Place, first_below, IsNearest, nearer, nearest, nearest_below, Relocation, Zero, is_acting, InputParts, SectionParts, acting_at, is_code, no_section, section_count, section_of, word_count, ItemFault, nearest_in, is_undecodable, undecodable, undecodable_in, is_reserved_at, reserved, reserved_in, bad_transfer, bad_transfer_in, is_wrong_transfer, auipc_in, bad_pair, bad_pair_in, is_wrong_low, low_at, low_in, wrong_kind, is_wrong_place, place_found, place_in, wrong_place, missing_at, missing_in, missing_in_use, undefined, wrong_pointer, instruction_fault, relocation_fault}
use Rattle.least.specs.Nearest.{is_before}
use Rattle.least.proofs.Firsts.{first_none}
use Rattle.least.proofs.Leasts.{least_none}
use Rattle.least.proofs.Nearests.{nearest_first}
use Rattle.obj_check.specs.declared.fault.ItemFault.TheVariants as fault
use Rattle.obj_check.specs.Finding.{place_of}
use Rattle.obj_check.specs.Fault.{fault_of}

-- a relocation of an input without a fault
pub record IsRightUse (input : InputParts) (k : ℕ) (u : Relocation) : Type 0 where
  pub low : is_wrong_low input k u ≡ false
  pub standing : is_wrong_place (section_of input k) u ≡ false
  pub defined : missing_in_use u ≡ None

-- an input without a fault
pub record IsRight (input : InputParts) : Type 0 where
  pub decoded : (k i : ℕ) → is_code (section_of input k) ≡ true → i < word_count (section_of input k) → is_undecodable (section_of input k) i ≡ false
  pub unreserved : (k i : ℕ) → is_code (section_of input k) ≡ true → i < word_count (section_of input k) → is_reserved_at (section_of input k) i ≡ false
  pub transfers : (k i : ℕ) → is_code (section_of input k) ≡ true → i < word_count (section_of input k) → is_wrong_transfer input k i ≡ false
  pub uses : (k : ℕ) → All (IsRightUse input k) (section_of input k).uses

pub past_sections : (input : InputParts) (k : ℕ) → section_count input ≤ k → section_of input k ≡ no_section
past_sections input k past = get_or_past input.sections k no_section past

-- a section of code is there
pub code_there : (input : InputParts) (k : ℕ) → is_code (section_of input k) ≡ true → k < section_count input
code_there input k code = elim (cases_lt k (section_count input)) [
  | inl below ↦ below
  | inr past ↦ let no : false ≡ true = rw (past_sections input k past) at code in absurd (cc)
]

module _ {A : Type 0} (place : A → Place) where
  nearer_none : (a b : Option A) → nearer place a b ≡ None → (a ≡ None) × (b ≡ None)
  nearer_none None b e = (refl, e)
  nearer_none (Some a) None e = absurd (cc)
  nearer_none (Some a) (Some b) e = elim (cases_Bool (is_before (place b) (place a))) [
    | inl before ↦ let no : Some b ≡ None = rw before at e in absurd (cc)
    | inr after ↦ let no : Some a ≡ None = rw after at e in absurd (cc)
  ]

  none_given : (given : ℕ → Option A) (n k : ℕ) → nearest_below place given n ≡ None → k < n → given k ≡ None
  unfolding nearest_below
  none_given given zero k none below = absurd (omega arith)
  none_given given (suc n) k none below =
      let parts = nearer_none (nearest_below place given n) (given n) none in
      elim (cases_lt k n) [
        | inl less ↦ none_given given n k parts.0 less
        | inr most ↦ let last : k ≡ n = omega arith in ap given last ∙ parts.1
      ]

  none_listed : (xs : List A) → nearest place xs ≡ None → xs ≡ []
  none_listed xs none = subst (λ (o : Option A). IsNearest place xs o) none (nearest_first place xs)

none_kept : {A B : Type 0} (f : A → Option B) (xs : List A) → filter_map f xs ≡ [] → All (λ x. f x ≡ None) xs
none_kept {A} {B} f [] e = All-nil (λ x. f x ≡ None)
none_kept {A} {B} f (x ∷ xs) e = elim (cases_Option (f x)) [
  | inl none ↦
      let rest : filter_map f xs ≡ [] = rw none at e in
      All-cons (λ x. f x ≡ None) x xs none (none_kept f xs rest)
  | inr (y, some) ↦ let no : y ∷ filter_map f xs ≡ [] = rw some at e in absurd (cc)
]

not_given : {A : Type 0} (b : Bool) (x : A) → (if b then Some x else None) ≡ None → b ≡ false
not_given true x e = absurd (cc)
not_given false x e = refl

words_none : {A : Type 0} (f : ℕ → A) (b : Bool) (test : ℕ → Bool) (n i : ℕ) → option_map f (if b then first_below test n else None) ≡ None
    → b ≡ true → i < n → test i ≡ false
words_none f true test n i e code below = first_none test n i (unmapped f (first_below test n) e) below
words_none f false test n i e code below = absurd (cc)

pub no_use : Relocation
no_use = record { offset = 0; number = 0; addend = pos 0; definition = Zero }

module _ (input : InputParts) where
  in_sections : (given : ℕ → Option (Found ItemFault)) (k : ℕ) → nearest_in input given ≡ None → k < section_count input → given k ≡ None
  in_sections given k e below = none_given place_of given (section_count input) k (unmapped (λ (f : Found ItemFault). f.what) _ e) below

  decodes : undecodable input ≡ None → (k i : ℕ) → is_code (section_of input k) ≡ true → i < word_count (section_of input k)
      → is_undecodable (section_of input k) i ≡ false
  unfolding undecodable
  decodes e k i code below =
      words_none _ (is_code (section_of input k)) (is_undecodable (section_of input k)) (word_count (section_of input k)) i
      (in_sections (undecodable_in input) k e (code_there input k code)) code below

  keeps : reserved input ≡ None → (k i : ℕ) → is_code (section_of input k) ≡ true → i < word_count (section_of input k)
      → is_reserved_at (section_of input k) i ≡ false
  unfolding reserved
  keeps e k i code below =
      words_none _ (is_code (section_of input k)) (is_reserved_at (section_of input k)) (word_count (section_of input k)) i
      (in_sections (reserved_in input) k e (code_there input k code)) code below

  goes : bad_transfer input ≡ None → (k i : ℕ) → is_code (section_of input k) ≡ true → i < word_count (section_of input k)
      → is_wrong_transfer input k i ≡ false
  unfolding bad_transfer
  goes e k i code below =
      words_none _ (is_code (section_of input k)) (is_wrong_transfer input k) (word_count (section_of input k)) i
      (in_sections (bad_transfer_in input) k e (code_there input k code)) code below

  -- where a section is not there it has no relocations
  over_uses : (P : ℕ → Relocation → Type 0) → ((k : ℕ) → k < section_count input → All (P k) (section_of input k).uses) → (k : ℕ) → All (P k) (section_of input k).uses
  over_uses P there k = elim (cases_lt k (section_count input)) [
    | inl below ↦ there k below
    | inr past ↦ subst (λ (s : SectionParts). All (P k) s.uses) (sym (past_sections input k past)) (All-nil (P k))
  ]

  uses_none : (given : ℕ → Relocation → Option (Found ItemFault)) (k : ℕ) → nearest place_of (filter_map (given k) (section_of input k).uses) ≡ None
      → All (λ u. given k u ≡ None) (section_of input k).uses
  uses_none given k e = none_kept (given k) (section_of input k).uses (none_listed place_of (filter_map (given k) (section_of input k).uses) e)

  lows : bad_pair input ≡ None → (k : ℕ) → All (λ u. is_wrong_low input k u ≡ false) (section_of input k).uses
  unfolding bad_pair
  lows e = over_uses (λ k u. is_wrong_low input k u ≡ false) (λ k below.
      All-weaker (λ u. low_at input k u ≡ None) (λ u. is_wrong_low input k u ≡ false) (λ u none. not_given (is_wrong_low input k u) _ none) (section_of input k).uses
      (uses_none (low_at input) k (nearer_none place_of (auipc_in input k) (low_in input k) (in_sections (bad_pair_in input) k e below)).1))

  standing : wrong_place input ≡ None → (k : ℕ) → All (λ u. is_wrong_place (section_of input k) u ≡ false) (section_of input k).uses
  unfolding wrong_place
  standing e = over_uses (λ k u. is_wrong_place (section_of input k) u ≡ false) (λ k below.
      All-weaker (λ u. place_found (section_of input k) k u ≡ None) (λ u. is_wrong_place (section_of input k) u ≡ false)
      (λ u none. not_given (is_wrong_place (section_of input k) u) _ none) (section_of input k).uses
      (uses_none (λ j. place_found (section_of input k) j) k (in_sections (place_in input) k e below)))

  each_defined : (uses : List Relocation) (j : ℕ) (d : Relocation) → j < length uses → missing_at uses j ≡ None → missing_in_use (get_or uses j d) ≡ None
  each_defined uses j d below e = rw (slice_get-get_or uses j d below) at e

  defines : undefined input ≡ None → (k : ℕ) → All (λ u. missing_in_use u ≡ None) (section_of input k).uses
  unfolding undefined
  defines e = over_uses (λ k u. missing_in_use u ≡ None) (λ k below.
      let uses = (section_of input k).uses in
      let none = least_none (missing_in input) (section_count input) k (unmapped (λ n. fault.Undefined n) _ e) below in
      All-from_get_or (λ u. missing_in_use u ≡ None) uses no_use (λ j less. each_defined uses j no_use less (least_none (missing_at uses) (length uses) j none less)))

  pub right : fault_of input ≡ None → IsRight input
  unfolding fault_of
  right e =
      let parts = neither (instruction_fault input) (relocation_fault input) e in
      let one = neither (undecodable input) _ parts.0 in
      let two = neither (reserved input) _ one.1 in
      let three = neither (bad_transfer input) (bad_pair input) two.1 in
      let four = neither (wrong_kind input) _ parts.1 in
      let five = neither (wrong_place input) _ four.1 in
      let six = neither (undefined input) (wrong_pointer input) five.1 in
      record {
        decoded = decodes one.0;
        unreserved = keeps two.0;
        transfers = goes three.0;
        uses =
            λ k.
            All-from_get_or (IsRightUse input k) (section_of input k).uses no_use
            (λ j less. record {
              low = All-get_or (λ u. is_wrong_low input k u ≡ false) (section_of input k).uses j no_use less (lows three.1 k);
              standing = All-get_or (λ u. is_wrong_place (section_of input k) u ≡ false) (section_of input k).uses j no_use less (standing five.0 k);
              defined = All-get_or (λ u. missing_in_use u ≡ None) (section_of input k).uses j no_use less (defines six.0 k);
            });
      }

-- what stands at an offset, if it is listed there
pub acting_right : (input : InputParts) → IsRight input → (k at : ℕ) → All (IsRightUse input k) (acting_at (section_of input k) at)
unfolding acting_at
acting_right input right k at = All-filter (λ (u : Relocation). u.offset == at && is_acting u) (IsRightUse input k) (section_of input k).uses (right.uses k)

pub acting_there : (s : SectionParts) (at : ℕ) → All (λ (u : Relocation). (u.offset == at && is_acting u) ≡ true) (acting_at s at)
unfolding acting_at
acting_there s at = filter_passes (λ (u : Relocation). u.offset == at && is_acting u) s.uses
