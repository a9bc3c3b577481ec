-- What holds of the stores of a group, and how many of them stand before each.
use Rattle.std.proofs.Common.{◌≡◌, ℕ, zero, suc, ◌+◌, ◌-◌, ◌<◌, ◌≤◌, Bool, true, false, inl, inr, refl, sym, subst, ap, ◌∙◌, arith}
use Rattle.std.specs.Prelude.{not}
use Rattle.std.proofs.lemmas.Bool.{and_from, and_parts, cases_eq, cases_lt, eqb-true, leb-true, ltb-true, not-true, not_from_false}
use Rattle.cfi_map.proofs.Prelude.{Item, AreGroups, Bounds, MOST_APART, MOST_STORES, all_from, base, fits_mask, is_later, is_own_at, is_store, level, may_join, may_share, members_before}

-- these places are a group: the first store has its whole size, and those after it are later members
pub record IsGroup (items : ℕ → Item) (whole : ℕ → Bool) (k n : ℕ) : Type 0 where
  pub stores : (i : ℕ) → i < n → is_store (items (k + i)).kind ≡ true
  pub first : whole k ≡ true
  pub others : (i : ℕ) → 1 ≤ i → i < n → whole (k + i) ≡ false

-- what holds of the stores of a group: they are few, with their own immediates, one base register and offsets that are near, and none but
-- the first may be entered
pub record Grouped (items : ℕ → Item) (bounds : Bounds) (k n : ℕ) : Type 0 where
  pub most : n ≤ MOST_STORES
  pub own : (i : ℕ) → i < n → is_own_at items (k + i) ≡ true
  pub bases : (i j : ℕ) → i < n → j < n → base items (k + i) ≡ base items (k + j)
  pub near : (i j : ℕ) → i < n → j < n → level items (k + i) ≤ level items (k + j) + MOST_APART
  pub free : (i : ℕ) → 1 ≤ i → i < n → bounds.entered (k + i) ≡ false
  pub mask : (i : ℕ) → 1 ≤ i → i < n → fits_mask bounds.short_masks (items k) (items (k + i)) ≡ true

-- what holds at all numbers holds at each
pub all_each : (test : ℕ → Bool) (first n i : ℕ) → all_from test first n ≡ true → i < n → test (first + i) ≡ true
unfolding all_from
all_each test first zero i all below = absurd (omega arith)
all_each test first (suc n) zero all below =
    let here : first + 0 ≡ first = omega arith in
    subst (λ (m : ℕ). test m ≡ true) (sym here) (and_parts (test first) (all_from test (first + 1) n) all).0
all_each test first (suc n) (suc i) all below =
    let here : first + 1 + i ≡ first + suc i = omega arith in
    subst (λ (m : ℕ). test m ≡ true) here (all_each test (first + 1) n i (and_parts (test first) (all_from test (first + 1) n) all).1 (omega arith))

pub all_if : (test : ℕ → Bool) (first n : ℕ) → ((i : ℕ) → i < n → test (first + i) ≡ true) → all_from test first n ≡ true
unfolding all_from
all_if test first zero each = refl
all_if test first (suc n) each =
    let here : first + 0 ≡ first = omega arith in
    and_from (test first) (all_from test (first + 1) n)
    (subst (λ (m : ℕ). test m ≡ true) here (each 0 (omega arith)))
    (all_if test (first + 1) n (λ i below.
    let same : first + suc i ≡ first + 1 + i = omega arith in
    subst (λ (m : ℕ). test m ≡ true) same (each (suc i) (omega arith))))

-- while a loop asks them one after another
module _ (test : ℕ → Bool) (j k : ℕ) (all : Bool) where
  pub all_more : j < k → all ≡ all_from test j (k - j) → test j ≡ true → all ≡ all_from test (j + 1) (k - (j + 1))
  unfolding all_from
  all_more below so_far here =
      let count : k - j ≡ suc (k - (j + 1)) = omega arith in
      so_far ∙ ap (all_from test j) count ∙ (rw here refl)

  pub all_stop : j < k → all ≡ all_from test j (k - j) → test j ≡ false → false ≡ all
  unfolding all_from
  all_stop below so_far here =
      let count : k - j ≡ suc (k - (j + 1)) = omega arith in
      sym (so_far ∙ ap (all_from test j) count ∙ (rw here refl))

  pub all_end : k ≤ j → all ≡ all_from test j (k - j) → true ≡ all
  unfolding all_from
  all_end past so_far =
      let count : k - j ≡ 0 = omega arith in
      sym (so_far ∙ ap (all_from test j) count)

module _ (items : ℕ → Item) (bounds : Bounds) (whole : ℕ → Bool) where
  -- how many stores stand in a group, one place on
  pub none_before : (k : ℕ) → is_store (items k).kind ≡ false → members_before items whole (suc k) ≡ 0
  unfolding members_before
  none_before k other = rw other refl

  pub one_before : (k : ℕ) → is_store (items k).kind ≡ true → whole k ≡ true → members_before items whole (suc k) ≡ 1
  unfolding members_before
  one_before k store first = rw (store, first) refl

  pub more_before : (k : ℕ) → is_store (items k).kind ≡ true → whole k ≡ false → members_before items whole (suc k) ≡ members_before items whole k + 1
  unfolding members_before
  more_before k store later = rw (store, later) refl

  pub none_at_start : members_before items whole 0 ≡ 0
  unfolding members_before
  none_at_start = refl

  pub later_if : (k : ℕ) → is_store (items k).kind ≡ true → whole k ≡ false → is_later items whole k ≡ true
  later_if k store later = and_from _ _ store (not_from_false (whole k) later)

  pub later_parts : (k : ℕ) → is_later items whole k ≡ true → (is_store (items k).kind ≡ true) × (whole k ≡ false)
  later_parts k later =
      let both = and_parts (is_store (items k).kind) (not (whole k)) later in
      (both.0, not-true (whole k) both.1)

  -- a group's stores are counted from its first
  pub counted : (k n : ℕ) → IsGroup items whole k n → (i j : ℕ) → i < n → j ≡ k + i → members_before items whole (suc j) ≡ suc i
  counted k n is zero j below at =
      let here : k + 0 ≡ k = omega arith in
      let same : k ≡ j = omega arith in
      subst (λ (m : ℕ). members_before items whole (suc m) ≡ 1) same
      (one_before k (subst (λ (m : ℕ). is_store (items m).kind ≡ true) here (is.stores 0 (omega arith))) is.first)
  counted k n is (suc i) j below at =
      let before = counted k n is i (k + i) (omega arith) refl in
      let same : suc (k + i) ≡ j = omega arith in
      let last : members_before items whole j ≡ suc i = subst (λ (m : ℕ). members_before items whole m ≡ suc i) same before in
      let step =
      more_before j (subst (λ (m : ℕ). is_store (items m).kind ≡ true) (sym at) (is.stores (suc i) (omega arith)))
      (subst (λ (m : ℕ). whole m ≡ false) (sym at) (is.others (suc i) (omega arith) (omega arith))) in
      omega (arith, step, last)

  -- the parts of a store's test
  pub record Joins (k n : ℕ) : Type 0 where
    pub some : 0 < n
    pub most : n < MOST_STORES
    pub store : is_store (items k).kind ≡ true
    pub free : bounds.entered k ≡ false
    pub own : is_own_at items k ≡ true
    pub mask : fits_mask bounds.short_masks (items (k - n)) (items k) ≡ true
    pub shares : all_from (may_share items (base items k) (level items k)) (k - n) n ≡ true

  pub joins : (k n : ℕ) → may_join items bounds k n ≡ true → Joins k n
  joins k n may =
      let one = and_parts _ _ may in
      let two = and_parts _ _ one.1 in
      let three = and_parts _ _ two.1 in
      let four = and_parts _ _ three.1 in
      let five = and_parts _ _ four.1 in
      let six = and_parts _ _ five.1 in
      record {
        some = ltb-true 0 n one.0;
        most = ltb-true n MOST_STORES two.0;
        store = three.0;
        free = not-true (bounds.entered k) four.0;
        own = five.0;
        mask = six.0;
        shares = six.1;
      }

  -- one mask serves two stores
  pub record Shares (j k : ℕ) : Type 0 where
    pub own : is_own_at items j ≡ true
    pub base_is : base items j ≡ base items k
    pub low : level items j ≤ level items k + MOST_APART
    pub high : level items k ≤ level items j + MOST_APART

  pub shares_parts : (j k : ℕ) → may_share items (base items k) (level items k) j ≡ true → Shares j k
  shares_parts j k may =
      let one = and_parts _ _ may in
      let two = and_parts _ _ one.1 in
      let both = and_parts _ _ two.1 in
      record {
        own = one.0;
        base_is = eqb-true _ _ two.0;
        low = leb-true _ _ both.0;
        high = leb-true _ _ both.1;
      }

  module _ (groups : AreGroups items bounds whole) (k n : ℕ) (is : IsGroup items whole k n) where
    -- each store but the first may join those before it
    later_joins : (i : ℕ) → 1 ≤ i → i < n → Joins (k + i) i
    later_joins i some below =
        let before : members_before items whole (k + i) ≡ i =
        subst (λ (m : ℕ). members_before items whole m ≡ i) (omega arith) (counted k n is (i - 1) (k + (i - 1)) (omega arith) refl ∙ omega arith) in
        joins (k + i) i
        (subst (λ (m : ℕ). may_join items bounds (k + i) m ≡ true) before
        (groups (k + i) (later_if (k + i) (is.stores i below) (is.others i some below))))

    share : (i j : ℕ) → i < j → j < n → Shares (k + i) (k + j)
    share i j less below =
        let all = (later_joins j (omega arith) below).shares in
        let start : k + j - j ≡ k = omega arith in
        let each = all_each (may_share items (base items (k + j)) (level items (k + j))) (k + j - j) j i all less in
        shares_parts (k + i) (k + j) (subst (λ (m : ℕ). may_share items (base items (k + j)) (level items (k + j)) (m + i) ≡ true) start each)

    own : 2 ≤ n → (i : ℕ) → i < n → is_own_at items (k + i) ≡ true
    own two zero below = (share 0 1 (omega arith) (omega arith)).own
    own two (suc i) below = (later_joins (suc i) (omega arith) below).own

    bases : (i j : ℕ) → i < n → j < n → base items (k + i) ≡ base items (k + j)
    bases i j first second = elim (cases_lt i j) [
      | inl less ↦ (share i j less second).base_is
      | inr more ↦ elim (cases_eq i j) [
        | inl same ↦ ap (λ (m : ℕ). base items (k + m)) same
        | inr apart ↦ sym (share j i (omega arith) first).base_is
      ]
    ]

    near : (i j : ℕ) → i < n → j < n → level items (k + i) ≤ level items (k + j) + MOST_APART
    near i j first second = elim (cases_lt i j) [
      | inl less ↦ (share i j less second).low
      | inr more ↦ elim (cases_eq i j) [
        | inl same ↦
            subst (λ (m : ℕ). level items (k + i) ≤ level items (k + m) + MOST_APART) same
            (let x = level items (k + i) in omega arith)
        | inr apart ↦ (share j i (omega arith) first).high
      ]
    ]

    few : 1 ≤ n → n ≤ MOST_STORES
    few some = elim (cases_lt 1 n) [
      | inl more ↦ let last = (later_joins (n - 1) (omega arith) (omega arith)).most in omega arith
      | inr one ↦ omega arith
    ]

    -- so the stores of a group of two or more go behind one mask
    pub grouped : 2 ≤ n → Grouped items bounds k n
    grouped two = record {
      most = few (omega arith);
      own = own two;
      bases = bases;
      near = near;
      free = λ i some below. (later_joins i some below).free;
      mask = λ i some below.
          let start : k + i - i ≡ k = omega arith in
          subst (λ (m : ℕ). fits_mask bounds.short_masks (items m) (items (k + i)) ≡ true) start (later_joins i some below).mask;
    }
