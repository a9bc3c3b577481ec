-- The first symbol of each name in a rank, one symbol more, where names have numbers.
use Rattle.std.proofs.Common.{Less, Equal, Greater, ◌≡◌, ℕ, zero, suc, ◌+◌, ◌<◌, ◌==◌, Bool, true, false, ◌&&◌, cond, if◌then◌else◌, Option, Some, None, is_some, List, [], length, get_or, inl, inr, refl, sym, ap, ◌∙◌, arith}
use Rattle.std.specs.Option.{option_or}
use Rattle.std.specs.Cmp.{nat_cmp_is}
use Rattle.std.specs.Ordering.{is_eq, nat_cmp}
use Rattle.std.specs.BTreeMap.{BTreeMap}
use Rattle.std.specs.Str.{bytes_eq}
use Rattle.std.proofs.lemmas.Bool.{cases_Bool, cases_lt, eq-eqb, eqb-true, ne_eqb}
use Rattle.std.proofs.lemmas.List.{get_or-map, get_or_default, length-map}
use Rattle.least.specs.First.{first_below}
use Rattle.least.proofs.Firsts.{first_step}
use Rattle.elf_names.specs.Numbers.{AreApart}
use Rattle.obj_join.specs.declared.rank.Rank.{Rank}
use Rattle.obj_join.specs.declared.rank.Rank.TheVariants.{Strong, Common, Weak, Private}
use Rattle.obj_join.specs.Said.{SymbolSaid}
use Rattle.obj_join.specs.Symbols.{names_of, no_symbol, symbol}
use Rattle.obj_join.specs.Definer.{is_called}
use Rattle.obj_join.specs.Ranked.{AreFirsts, first_ranked, has_rank, looked_up, noted}

is_at_number : (a b : ℕ) → is_eq (nat_cmp a b) ≡ (a == b)
is_at_number a b = elim (cases_lt a b) [
  | inl less ↦ ap is_eq (sym (nat_cmp_is a b Less less)) ∙ sym (ne_eqb a b (omega arith))
  | inr most ↦ elim (cases_lt b a) [
    | inl less ↦ ap is_eq (sym (nat_cmp_is a b Greater less)) ∙ sym (ne_eqb a b (omega arith))
    | inr least ↦ let same : a ≡ b = omega arith in ap is_eq (sym (nat_cmp_is a b Equal same)) ∙ sym (eq-eqb a b same)
  ]
]

passed : (o : Option ℕ) → o ≡ option_or o None
passed None = refl
passed (Some n) = refl

-- a name that is not there is added
pub added : (rank : Rank) (s : SymbolSaid) (n its : ℕ) (found : ℕ → Option ℕ) (name : ℕ) → has_rank rank s ≡ true → found its ≡ None
    → cond (is_eq (nat_cmp its name)) (Some n) (found name) ≡ noted rank s its n (found name) name
added rank s n its found name ranked none = elim (cases_Bool (its == name)) [
  | inl is ↦
      let here : found name ≡ None = ap found (sym (eqb-true its name is)) ∙ none in
      rw (is_at_number its name, here, is, ranked) refl
  | inr other ↦ rw (is_at_number its name, other, ranked) (passed (found name))
]

pub there : (rank : Rank) (s : SymbolSaid) (n its : ℕ) (found : ℕ → Option ℕ) (name : ℕ) → is_some (found its) ≡ true → found name ≡ noted rank s its n (found name) name
there rank s n its found name is = elim (cases_Bool (its == name)) [
  | inl same ↦
      let here : is_some (found name) ≡ true = ap (λ (k : ℕ). is_some (found k)) (sym (eqb-true its name same)) ∙ is in
      some (found name) _ here
  | inr other ↦ other_name (has_rank rank s) (its == name) (found name) other
] where
  some : (f o : Option ℕ) → is_some f ≡ true → f ≡ option_or f o
  some None o is = absurd (cc)
  some (Some n) o is = refl

  other_name : (ranked called : Bool) (o : Option ℕ) → called ≡ false → o ≡ option_or o (if ranked && called then Some n else None)
  other_name true called o not = rw not (passed o)
  other_name false called o not = passed o

pub next_symbol : (rank : Rank) (symbols : List SymbolSaid) (names : List ℕ) (n its : ℕ) (s : SymbolSaid) (name : ℕ) → n < length symbols → s ≡ get_or symbols n s → its ≡ get_or names n 0
    → noted rank s its n (first_ranked rank symbols names name n) name ≡ first_ranked rank symbols names name (n + 1)
next_symbol rank symbols names n its s name below is number =
    let at : s ≡ symbol symbols n = is ∙ get_or_default symbols n s no_symbol below in
    ap (λ (t : SymbolSaid). noted rank t its n (first_ranked rank symbols names name n) name) at
    ∙ ap (λ (k : ℕ). noted rank (symbol symbols n) k n (first_ranked rank symbols names name n) name) number
    ∙ sym (first_step (λ m. has_rank rank (symbol symbols m) && get_or names m 0 == name) n)

first_same : (f g : ℕ → Bool) (n : ℕ) → ((k : ℕ) → k < n → f k ≡ g k) → first_below f n ≡ first_below g n
unfolding first_below
first_same f g zero same = refl
first_same f g (suc n) same = rw (first_same f g n (λ k below. same k (omega arith)), same n (omega arith)) refl

module _ (symbols : List SymbolSaid) (names : List ℕ) (apart : AreApart (names_of symbols) names) where
  count : length (names_of symbols) ≡ length symbols
  count = length-map symbols (λ (s : SymbolSaid). s.name)

  name_at : (n : ℕ) → n < length symbols → get_or (names_of symbols) n [] ≡ (symbol symbols n).name
  name_at n below = get_or-map (λ (s : SymbolSaid). s.name) symbols n no_symbol [] below

  same_called : (m n : ℕ) → m < length symbols → n < length symbols → (get_or names m 0 == get_or names n 0) ≡ is_called (symbol symbols n).name (symbol symbols m)
  same_called m n below_m below_n =
      let m_there : m < length (names_of symbols) = omega (arith, count, below_m) in
      let n_there : n < length (names_of symbols) = omega (arith, count, below_n) in
      sym (apart.each m n m_there n_there)
      ∙ ap (λ (bs : List ℕ). bytes_eq bs (get_or (names_of symbols) n [])) (name_at m below_m)
      ∙ ap (λ (bs : List ℕ). bytes_eq (symbol symbols m).name bs) (name_at n below_n)

  -- what is first by the number of a name is first by the name
  first_named : (rank : Rank) (n : ℕ) → n < length symbols → first_ranked rank symbols names (get_or names n 0) (length symbols)
      ≡ first_below (λ m. has_rank rank (symbol symbols m) && is_called (symbol symbols n).name (symbol symbols m)) (length symbols)
  first_named rank n below =
      first_same _ _ (length symbols) (λ m below_m. ap (λ (b : Bool). has_rank rank (symbol symbols m) && b) (same_called m n below_m below))

  pub are_firsts : (strong common weak private : BTreeMap ℕ ℕ)
      → ((name : ℕ) → looked_up name strong ≡ first_ranked Strong symbols names name (length symbols))
      → ((name : ℕ) → looked_up name common ≡ first_ranked Common symbols names name (length symbols))
      → ((name : ℕ) → looked_up name weak ≡ first_ranked Weak symbols names name (length symbols))
      → ((name : ℕ) → looked_up name private ≡ first_ranked Private symbols names name (length symbols))
      → AreFirsts symbols names strong common weak private
  are_firsts strong common weak private strongs commons weaks privates = record {
    size = apart.size ∙ count;
    strongs = λ n below. strongs _ ∙ first_named Strong n below;
    commons = λ n below. commons _ ∙ first_named Common n below;
    weaks = λ n below. weaks _ ∙ first_named Weak n below;
    privates = λ n below. privates _ ∙ first_named Private n below;
  }

  pub names_counted : length names ≡ length symbols
  names_counted = apart.size ∙ count
