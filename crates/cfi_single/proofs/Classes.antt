-- One list of classes is right: lists that join the same numbers, each class rising and the classes in the order of their least
-- members, are one list.
use Rattle.std.proofs.Common.{◌≡◌, ℕ, zero, suc, ◌<◌, ◌≤◌, List, [], ◌∷◌, length, get_or, refl, subst, arith}
use Rattle.std.specs.List.{All, AllPairs, Contains}
use Rattle.std.specs.List.Sorted.{IsStrictlyIncreasing}
use Rattle.std.proofs.lemmas.List.{get_or_default}
use Rattle.std.proofs.lemmas.List.Elements.{All-head, All-tail, Contains-get_or}
use Rattle.std.proofs.lemmas.List.Kept.{AllPairs-from_increasing}
use Rattle.cfi_single.proofs.Prelude.{AreInOne, IsIn, AreClasses}
use Rattle.cfi_class.proofs.Sets.{list_there}
use Rattle.cfi_flow.proofs.Rising.{rising_same}

-- lists that are apart, each rising and with a member, in the order of their least members
pub record AreOrdered (classes : List (List ℕ)) : Type 0 where
  pub apart : (i j a : ℕ) → IsIn classes i a → IsIn classes j a → i ≡ j
  pub rising : All IsStrictlyIncreasing classes
  pub some : All (λ class. 0 < length class) classes
  pub in_order : AllPairs (λ class next. get_or class 0 0 < get_or next 0 0) classes

-- what the first lists join, the second lists join
abbrev pub JoinsAll : List (List ℕ) → List (List ℕ) → Type 0
JoinsAll a b = (x y : ℕ) → AreInOne a x y → AreInOne b x y

rest_ordered : (c : List ℕ) (a : List (List ℕ)) → AreOrdered (c ∷ a) → AreOrdered a
rest_ordered c a h = record {
  apart = λ i j x p q. let same : suc i ≡ suc j = h.apart (suc i) (suc j) x p q in omega arith;
  rising = All-tail IsStrictlyIncreasing c a h.rising;
  some = All-tail (λ (class : List ℕ). 0 < length class) c a h.some;
  in_order = λ i j d before inside. h.in_order (suc i) (suc j) d (omega arith) (omega arith);
}

head_rises : (c : List ℕ) (a : List (List ℕ)) → AreOrdered (c ∷ a) → IsStrictlyIncreasing c
head_rises c a h = All-head IsStrictlyIncreasing c a h.rising

-- the first member of a rising list is its least
first_least : (xs : List ℕ) → IsStrictlyIncreasing xs → (x i : ℕ) → i < length xs → get_or xs i x ≡ x → get_or xs 0 0 ≤ x
first_least xs rising x zero inside is =
    let same = get_or_default xs 0 0 x inside in
    omega arith
first_least xs rising x (suc i) inside is =
    let less : get_or xs 0 0 < get_or xs (suc i) 0 = AllPairs-from_increasing xs rising 0 (suc i) 0 (omega arith) inside in
    let same = get_or_default xs (suc i) 0 x inside in
    omega arith

-- the first member of the first list is the least of all
all_least : (c : List ℕ) (a : List (List ℕ)) → AreOrdered (c ∷ a) → (x k : ℕ) → IsIn (c ∷ a) k x → get_or c 0 0 ≤ x
all_least c a h x zero p = first_least c (head_rises c a h) x p.0 p.1 p.2
all_least c a h x (suc k) p =
    let inside : suc k < length (c ∷ a) = list_there (c ∷ a) (suc k) x p in
    let less : get_or c 0 0 < get_or (get_or a k []) 0 0 = h.in_order 0 (suc k) [] (omega arith) inside in
    let low = first_least (get_or a k []) (h.rising (suc k) [] inside) x p.0 p.1 p.2 in
    omega arith

has_first : (c : List ℕ) (a : List (List ℕ)) → AreOrdered (c ∷ a) → Contains c (get_or c 0 0)
has_first c a h = Contains-get_or c 0 0 (All-head (λ (class : List ℕ). 0 < length class) c a h.some)

first_below : (c d : List ℕ) (a b : List (List ℕ)) → AreOrdered (c ∷ a) → AreOrdered (d ∷ b) → JoinsAll (c ∷ a) (d ∷ b)
    → get_or d 0 0 ≤ get_or c 0 0
first_below c d a b hc hd joins =
    let first = has_first c a hc in
    let one = joins (get_or c 0 0) (get_or c 0 0) (0, first, first) in
    all_least d b hd (get_or c 0 0) one.0 one.1

-- first lists that share a member have the same members
head_within : (c d : List ℕ) (a b : List (List ℕ)) → AreOrdered (d ∷ b) → JoinsAll (c ∷ a) (d ∷ b) → (x : ℕ) → Contains c x
    → Contains d x → (t : ℕ) → Contains c t → Contains d t
head_within c d a b hd joins x here there t in_c =
    let one = joins x t (0, here, in_c) in
    let same : one.0 ≡ 0 = hd.apart one.0 0 x one.1 there in
    subst (λ (k : ℕ). IsIn (d ∷ b) k t) same one.2

-- what the rest joins is not of the first list
rest_at : (c d : List ℕ) (a b : List (List ℕ)) → AreOrdered (c ∷ a) → ((x : ℕ) → Contains d x → Contains c x) → (x y k j : ℕ)
    → IsIn a k x → IsIn (d ∷ b) j x → IsIn (d ∷ b) j y → AreInOne b x y
rest_at c d a b hc back x y k zero p q r =
    let same : suc k ≡ 0 = hc.apart (suc k) 0 x p (back x q) in
    absurd (omega arith)
rest_at c d a b hc back x y k (suc j) p q r = (j, q, r)

rest_joins : (c d : List ℕ) (a b : List (List ℕ)) → AreOrdered (c ∷ a) → JoinsAll (c ∷ a) (d ∷ b)
    → ((x : ℕ) → Contains d x → Contains c x) → JoinsAll a b
rest_joins c d a b hc joins back x y h =
    let one = joins x y (suc (h.0), h.1, h.2) in
    rest_at c d a b hc back x y h.0 one.0 h.1 one.1 one.2

-- a list that is there joins its first member to itself
joins_none : (d : List ℕ) (b : List (List ℕ)) → AreOrdered (d ∷ b) → JoinsAll (d ∷ b) [] → ⊥
joins_none d b h joins =
    let first = has_first d b h in
    let one = joins (get_or d 0 0) (get_or d 0 0) (0, first, first) in
    let none = list_there [] one.0 (get_or d 0 0) one.1 in
    omega arith

-- ordered lists that join the same numbers are one
pub ordered_same : (a b : List (List ℕ)) → AreOrdered a → AreOrdered b → JoinsAll a b → JoinsAll b a → a ≡ b
ordered_same [] [] ha hb to back = refl
ordered_same [] (d ∷ b) ha hb to back = absurd (joins_none d b hb back)
ordered_same (c ∷ a) [] ha hb to back = absurd (joins_none c a ha to)
ordered_same (c ∷ a) (d ∷ b) ha hb to back =
    let low = first_below c d a b ha hb to in
    let high = first_below d c b a hb ha back in
    let same : get_or d 0 0 ≡ get_or c 0 0 = omega arith in
    let in_c : Contains c (get_or c 0 0) = has_first c a ha in
    let in_d : Contains d (get_or c 0 0) = subst (λ (x : ℕ). Contains d x) same (has_first d b hb) in
    let from : (t : ℕ) → Contains c t → Contains d t = head_within c d a b hb to (get_or c 0 0) in_c in_d in
    let into : (t : ℕ) → Contains d t → Contains c t = head_within d c b a ha back (get_or c 0 0) in_d in_c in
    let head : c ≡ d = rising_same c d (head_rises c a ha) (head_rises d b hb) from into in
    let on = rest_joins c d a b ha to into in
    let off = rest_joins d c b a hb back from in
    let rest : a ≡ b = ordered_same a b (rest_ordered c a ha) (rest_ordered d b hb) on off in
    cc

classes_ordered : (sets classes : List (List ℕ)) → AreClasses sets classes → AreOrdered classes
classes_ordered sets classes h = record { apart = h.apart; rising = h.rising; some = h.some; in_order = h.in_order }

joins_as_sets : (sets a b : List (List ℕ)) → AreClasses sets a → AreClasses sets b → JoinsAll a b
joins_as_sets sets a b ha hb x y one = (hb.joined x y).1 ((ha.joined x y).0 one)

-- the classes of sets are one list
pub classes_unique : (sets a b : List (List ℕ)) → AreClasses sets a → AreClasses sets b → a ≡ b
classes_unique sets a b ha hb =
    ordered_same a b (classes_ordered sets a ha) (classes_ordered sets b hb)
    (joins_as_sets sets a b ha hb) (joins_as_sets sets b a hb ha)
