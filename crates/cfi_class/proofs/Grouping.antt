-- Lists of the targets of one number, while they grow.
use Rattle.std.proofs.Common.{◌≡◌, ℕ, ◌+◌, ◌<◌, ◌≤◌, List, [], ◌∷◌, ◌++◌, Option, Some, None, length, get_or, set, replicate, ◌⊎◌, inl, inr, refl, sym, ◌∙◌, ap, subst, length-append, arith}
use Rattle.std.specs.List.{All, Contains}
use Rattle.std.specs.List.Sorted.{IsStrictlyIncreasing}
use Rattle.std.proofs.Math.ListN.{get_or-eq_default}
use Rattle.std.proofs.lemmas.Bool.{cases_lt, cases_eq}
use Rattle.std.proofs.lemmas.List.{length-set, length-replicate, get_or-replicate, get_or_default, get_or-set_same, get_or-set_other, get_or_append_left, get_or_push}
use Rattle.std.proofs.lemmas.List.Elements.{All-from_get_or, Contains-get_or, Contains-append_left, Contains-push, Contains-push_cases}
use Rattle.std.proofs.lemmas.List.Kept.{AllPairs-from_increasing}
use Rattle.cfi_class.specs.Classes.{IsIn}
use Rattle.cfi_class.specs.Passes.{AreGroups}
use Rattle.cfi_class.proofs.Indexes.{one_index, rising_push}
use Rattle.cfi_class.proofs.Sets.{in_none, list_there}

-- the place of a number's list, and a list
abbrev pub place : List (Option ℕ) → ℕ → Option ℕ
place places r = get_or places r None

abbrev pub group : List (List ℕ) → ℕ → List ℕ
group groups c = get_or groups c []

-- the lists of the first i targets
pub record Grouped (targets numbers : List ℕ) (i : ℕ) (places : List (Option ℕ)) (groups : List (List ℕ)) : Type 0 where
  pub all_numbers : length places ≡ length targets
  pub there : (r c : ℕ) → place places r ≡ Some c → c < length groups
  pub placed : (k : ℕ) → k < i → (c : ℕ) × (place places (get_or numbers k 0) ≡ Some c) × IsIn groups c (get_or targets k 0)
  pub only : (c a : ℕ) → IsIn groups c a → (k : ℕ) × (k < i) × (get_or targets k 0 ≡ a) × (place places (get_or numbers k 0) ≡ Some c)
  pub apart : (r s c : ℕ) → place places r ≡ Some c → place places s ≡ Some c → r ≡ s
  pub rising : (c : ℕ) → c < length groups → IsStrictlyIncreasing (group groups c)
  pub some : (c : ℕ) → c < length groups → 0 < length (group groups c)
  pub in_order : (c d : ℕ) → c < d → d < length groups → get_or (group groups c) 0 0 < get_or (group groups d) 0 0

none_at : (n r : ℕ) → place (replicate n None) r ≡ None
none_at n r = elim (cases_lt r n) [
  | inl lt ↦ get_or-replicate n r None None lt
  | inr past ↦
      let nothing : Option ℕ = None in
      let le : length (replicate n nothing) ≤ r = omega (arith, length-replicate n nothing) in
      get_or-eq_default (replicate n nothing) nothing le
]

-- what was read at a number
pub read_place : (places : List (Option ℕ)) (r : ℕ) (read is : Option ℕ) → r < length places → read ≡ get_or places r read → read ≡ is → place places r ≡ is
read_place places r read is lt e same = get_or_default places r None read lt ∙ sym e ∙ same

pub no_groups : (targets numbers : List ℕ) (places : List (Option ℕ)) → places ≡ replicate (length targets) None → Grouped targets numbers 0 places []
no_groups targets numbers places e =
    let none : (r c : ℕ) → place places r ≡ Some c → ⊥ = λ r c is.
    let both : None ≡ Some c = sym (none_at (length targets) r) ∙ ap (λ (xs : List (Option ℕ)). place xs r) (sym e) ∙ is in cc in
    record {
      all_numbers = rw e (length-replicate (length targets) None);
      there = λ r c is. absurd (none r c is);
      placed = λ k lt. absurd (omega arith);
      only = λ c a h. absurd (in_none a h);
      apart = λ r s c is other. absurd (none r c is);
      rising = λ c lt. absurd (omega arith);
      some = λ c lt. absurd (omega arith);
      in_order = λ c d lt within. absurd (omega arith);
    }

-- a member put into one list
pub record IsPut (groups after : List (List ℕ)) (g t : ℕ) : Type 0 where
  pub kept : (c a : ℕ) → IsIn groups c a → IsIn after c a
  pub only : (c a : ℕ) → IsIn after c a → IsIn groups c a ⊎ ((c ≡ g) × (t ≡ a))
  pub new : IsIn after g t

put_more : (groups : List (List ℕ)) (g t : ℕ) → g < length groups → IsPut groups (set groups g (group groups g ++ t ∷ [])) g t
put_more groups g t lt = record {
  kept = λ c a h. elim (cases_eq c g) [
    | inl same ↦
        let old : Contains (group groups g) a = subst (λ (x : ℕ). IsIn groups x a) same h in
        rw (same, get_or-set_same groups g (group groups g ++ t ∷ []) [] lt) (Contains-append_left (group groups g) (t ∷ []) a old)
    | inr differ ↦ rw (get_or-set_other groups g c (group groups g ++ t ∷ []) [] differ) h
  ];
  only = λ c a h. elim (cases_eq c g) [
    | inl same ↦
        let now : Contains (group groups g ++ t ∷ []) a = subst (λ (xs : List ℕ). Contains xs a) (ap (λ (x : ℕ). group (set groups g (group groups g ++ t ∷ [])) x) same ∙ get_or-set_same groups g (group groups g ++ t ∷ []) [] lt) h in
        elim (Contains-push_cases (group groups g) t a now) [
          | inl old ↦ inl (subst (λ (x : ℕ). IsIn groups x a) (sym same) old)
          | inr is ↦ inr (same, is)
        ]
    | inr differ ↦ inl (subst (λ (xs : List ℕ). Contains xs a) (get_or-set_other groups g c (group groups g ++ t ∷ []) [] differ) h)
  ];
  new = rw (get_or-set_same groups g (group groups g ++ t ∷ []) [] lt) (Contains-push (group groups g) t);
}

in_one : (t a : ℕ) → Contains (t ∷ []) a → t ≡ a
in_one t a h = elim (Contains-push_cases [] t a h) [ inl none ↦ absurd (in_none a none) | inr is ↦ is ]

put_new : (groups : List (List ℕ)) (t : ℕ) → IsPut groups (groups ++ (t ∷ []) ∷ []) (length groups) t
put_new groups t = record {
  kept = λ c a h. rw (get_or_append_left groups ((t ∷ []) ∷ []) [] c (list_there groups c a h)) h;
  only = λ c a h. elim (cases_lt c (length groups)) [
    | inl before ↦ inl (subst (λ (xs : List ℕ). Contains xs a) (get_or_append_left groups ((t ∷ []) ∷ []) [] c before) h)
    | inr past ↦
        let is : c ≡ length groups = omega (arith, list_there (groups ++ (t ∷ []) ∷ []) c a h, length-append groups ((t ∷ []) ∷ [])) in
        inr (is, in_one t a (subst (λ (xs : List ℕ). Contains xs a) (ap (λ (x : ℕ). group (groups ++ (t ∷ []) ∷ []) x) is ∙ get_or_push groups (t ∷ []) [] (length groups) refl) h))
  ];
  new = rw (get_or_push groups (t ∷ []) [] (length groups) refl) (Contains-push [] t);
}

-- the members so far lie below the next target
below_next : (targets numbers : List ℕ) (i : ℕ) (places : List (Option ℕ)) (groups : List (List ℕ)) → IsStrictlyIncreasing targets → i < length targets → Grouped targets numbers i places groups → (c a : ℕ) → IsIn groups c a → a < get_or targets i 0
below_next targets numbers i places groups up lt g c a h =
    let p = g.only c a h in
    omega (arith, AllPairs-from_increasing targets up p.0 i 0 p.1 lt, p.2)

-- a target of a number that has a list
pub group_more : (targets numbers : List ℕ) (i : ℕ) (places : List (Option ℕ)) (groups : List (List ℕ)) (g : ℕ) → IsStrictlyIncreasing targets → i < length targets →
    Grouped targets numbers i places groups → place places (get_or numbers i 0) ≡ Some g →
    Grouped targets numbers (i + 1) places (set groups g (group groups g ++ get_or targets i 0 ∷ []))
group_more targets numbers i places groups g up lt so_far e =
    let t = get_or targets i 0 in
    let here : g < length groups = so_far.there (get_or numbers i 0) g e in
    let put = put_more groups g t here in
    let same_length : length (set groups g (group groups g ++ t ∷ [])) ≡ length groups = length-set groups g (group groups g ++ t ∷ []) in
    let low : All (λ (y : ℕ). y < t) (group groups g) = λ k d within. below_next targets numbers i places groups up lt so_far g _ (Contains-get_or (group groups g) k d within) in
    let first : (c : ℕ) → c < length groups → get_or (group (set groups g (group groups g ++ t ∷ [])) c) 0 0 ≡ get_or (group groups c) 0 0 = λ c within. elim (cases_eq c g) [
      | inl same ↦ rw (same, get_or-set_same groups g (group groups g ++ t ∷ []) [] here) (get_or_append_left (group groups g) (t ∷ []) 0 0 (so_far.some g here))
      | inr differ ↦ rw (get_or-set_other groups g c (group groups g ++ t ∷ []) [] differ) refl
    ] in
    record {
      all_numbers = so_far.all_numbers;
      there = λ r c is. rw same_length (so_far.there r c is);
      placed = λ k below. elim (cases_lt k i) [
        | inl before ↦ let p = so_far.placed k before in (p.0, p.1, put.kept p.0 _ p.2)
        | inr last ↦ let is : k ≡ i = omega arith in rw is (g, e, put.new)
      ];
      only = λ c a h. elim (put.only c a h) [
        | inl old ↦ let p = so_far.only c a old in (p.0, omega (arith, p.1), p.2, p.3)
        | inr new ↦ (i, omega arith, new.1, e ∙ ap (λ (x : ℕ). Some x) (sym new.0))
      ];
      apart = so_far.apart;
      rising = λ c within. elim (cases_eq c g) [
        | inl same ↦ rw (same, get_or-set_same groups g (group groups g ++ t ∷ []) [] here) (rising_push (group groups g) t (so_far.rising g here) low)
        | inr differ ↦ rw (get_or-set_other groups g c (group groups g ++ t ∷ []) [] differ) (so_far.rising c (omega (arith, within, same_length)))
      ];
      some = λ c within. elim (cases_eq c g) [
        | inl same ↦ rw (same, get_or-set_same groups g (group groups g ++ t ∷ []) [] here) (omega (arith, length-append (group groups g) (t ∷ [])))
        | inr differ ↦ rw (get_or-set_other groups g c (group groups g ++ t ∷ []) [] differ) (so_far.some c (omega (arith, within, same_length)))
      ];
      in_order = λ c d below within.
          let hd : d < length groups = omega (arith, within, same_length) in
          let hc : c < length groups = omega arith in
          rw (first c hc, first d hd) (so_far.in_order c d below hd);
    }

-- a target of a number that has none yet
pub group_new : (targets numbers : List ℕ) (i : ℕ) (places : List (Option ℕ)) (groups : List (List ℕ)) → IsStrictlyIncreasing targets → i < length targets →
    get_or numbers i 0 < length targets → Grouped targets numbers i places groups → place places (get_or numbers i 0) ≡ None →
    Grouped targets numbers (i + 1) (set places (get_or numbers i 0) (Some (length groups))) (groups ++ (get_or targets i 0 ∷ []) ∷ [])
group_new targets numbers i places groups up lt range so_far e =
    let t = get_or targets i 0 in
    let n = get_or numbers i 0 in
    let g = length groups in
    let put = put_new groups t in
    let more : length (groups ++ (t ∷ []) ∷ []) ≡ g + 1 = omega (arith, length-append groups ((t ∷ []) ∷ [])) in
    let own : place (set places n (Some g)) n ≡ Some g = get_or-set_same places n (Some g) None (omega (arith, so_far.all_numbers)) in
    let other : (r : ℕ) → (r ≡ n → ⊥) → place (set places n (Some g)) r ≡ place places r = λ r differ. get_or-set_other places n r (Some g) None differ in
    -- a number with a list is not the new one
    let old : (r c : ℕ) → place places r ≡ Some c → r ≡ n → ⊥ = λ r c is same.
    let both : None ≡ Some c = sym e ∙ ap (λ (x : ℕ). place places x) (sym same) ∙ is in cc in
    -- the new place is the new number's alone
    let split : (r c : ℕ) → place (set places n (Some g)) r ≡ Some c → ((r ≡ n) × (c ≡ g)) ⊎ (place places r ≡ Some c) = λ r c is. elim (cases_eq r n) [
      | inl same ↦
          let both : Some g ≡ Some c = sym own ∙ ap (λ (x : ℕ). place (set places n (Some g)) x) (sym same) ∙ is in
          let eq : c ≡ g = cc in inl (same, eq)
      | inr differ ↦ inr (sym (other r differ) ∙ is)
    ] in
    record {
      all_numbers = rw length-set so_far.all_numbers;
      there = λ r c is. elim (split r c is) [
        | inl new ↦ omega (arith, new.1, more)
        | inr known ↦ omega (arith, so_far.there r c known, more)
      ];
      placed = λ k below. elim (cases_lt k i) [
        | inl before ↦
            let p = so_far.placed k before in
            (p.0, other _ (old _ p.0 p.1) ∙ p.1, put.kept p.0 _ p.2)
        | inr last ↦ let is : k ≡ i = omega arith in rw is (g, own, put.new)
      ];
      only = λ c a h. elim (put.only c a h) [
        | inl known ↦
            let p = so_far.only c a known in
            (p.0, omega (arith, p.1), p.2, other _ (old _ c p.3) ∙ p.3)
        | inr new ↦ (i, omega arith, new.1, own ∙ ap (λ (x : ℕ). Some x) (sym new.0))
      ];
      apart = λ r s c is also. elim (split r c is) [
        | inl new ↦ elim (split s c also) [
          | inl new_too ↦ new.0 ∙ sym new_too.0
          | inr known ↦ absurd (omega (arith, so_far.there s c known, new.1))
        ]
        | inr known ↦ elim (split s c also) [
          | inl new ↦ absurd (omega (arith, so_far.there r c known, new.1))
          | inr known_too ↦ so_far.apart r s c known known_too
        ]
      ];
      rising = λ c within. elim (cases_lt c g) [
        | inl before ↦ rw (get_or_append_left groups ((t ∷ []) ∷ []) [] c before) (so_far.rising c before)
        | inr last ↦
            let is : c ≡ length groups = omega (arith, within, more) in
            rw (is, get_or_push groups (t ∷ []) [] (length groups) refl) (λ k below. absurd (omega arith))
      ];
      some = λ c within. elim (cases_lt c g) [
        | inl before ↦ rw (get_or_append_left groups ((t ∷ []) ∷ []) [] c before) (so_far.some c before)
        | inr last ↦
            let is : c ≡ length groups = omega (arith, within, more) in
            rw (is, get_or_push groups (t ∷ []) [] (length groups) refl) (omega arith)
      ];
      in_order = λ c d below within. elim (cases_lt d g) [
        | inl before ↦
            let hc : c < length groups = omega arith in
            rw (get_or_append_left groups ((t ∷ []) ∷ []) [] c hc, get_or_append_left groups ((t ∷ []) ∷ []) [] d before) (so_far.in_order c d below before)
        | inr last ↦
            let is : d ≡ length groups = omega (arith, within, more) in
            let hc : c < length groups = omega (arith, is) in
            rw (is, get_or_push groups (t ∷ []) [] (length groups) refl, get_or_append_left groups ((t ∷ []) ∷ []) [] c hc)
            (below_next targets numbers i places groups up lt so_far c _ (Contains-get_or (group groups c) 0 0 (so_far.some c hc)))
      ];
    }

-- the lists of all targets
pub all_groups : (targets numbers : List ℕ) (i : ℕ) (places : List (Option ℕ)) (groups : List (List ℕ)) → IsStrictlyIncreasing targets → i ≡ length targets →
    Grouped targets numbers i places groups → AreGroups targets numbers groups
all_groups targets numbers i places groups up all g =
    let place_of : (c k : ℕ) → k < length targets → IsIn groups c (get_or targets k 0) → place places (get_or numbers k 0) ≡ Some c = λ c k lt h.
    let p = g.only c _ h in
    let same : p.0 ≡ k = one_index targets up p.0 k (omega (arith, p.1, all)) lt p.2 in
    ap (λ (x : ℕ). place places (get_or numbers x 0)) (sym same) ∙ p.3 in
    record {
      found = λ k lt. let p = g.placed k (omega (arith, all)) in (p.0, p.2);
      only = λ a h.
          let p = g.only h.0 a h.1 in
          subst (λ (x : ℕ). Contains targets x) p.2 (Contains-get_or targets p.0 0 (omega (arith, p.1, all)));
      same = λ c d k l hk hl in_c in_d. (
        λ e. let both : Some c ≡ Some d = sym (place_of c k hk in_c) ∙ ap (λ (x : ℕ). place places x) e ∙ place_of d l hl in_d in cc,
        λ e. g.apart _ _ c (place_of c k hk in_c) (place_of d l hl in_d ∙ ap (λ (x : ℕ). Some x) (sym e)),
      );
      rising = All-from_get_or IsStrictlyIncreasing groups [] g.rising;
      some = All-from_get_or (λ (xs : List ℕ). 0 < length xs) groups [] g.some;
      in_order = λ c d default below within.
          rw (get_or_default groups c default [] (omega arith), get_or_default groups d default [] within) (g.in_order c d below within);
    }
