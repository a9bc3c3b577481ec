-- From numbers and their lists to classes.
use Rattle.std.proofs.Common.{◌≡◌, ◌↔◌, ℕ, ◌<◌, List, length, get_or, inl, inr, refl, sym, ◌∙◌, ap, subst}
use Rattle.std.specs.List.{Contains}
use Rattle.cfi_class.specs.Classes.{IsIn, IsInSome, AreInOne, Joined, here, on}
use Rattle.cfi_class.specs.Passes.{AreGroups, AreNumbers}
use Rattle.cfi_class.proofs.Agreeing.{at_index}
use Rattle.cfi_class.proofs.Sets.{list_there}

pub first_in : (sets : List (List ℕ)) (a b : ℕ) → Joined sets a b → IsInSome sets a
first_in sets a b (here (k, p, q)) = (k, p)
first_in sets a b (on (k, p, q) rest) = (k, p)

last_in : (sets : List (List ℕ)) (a b : ℕ) → Joined sets a b → IsInSome sets b
last_in sets a b (here (k, p, q)) = (k, q)
last_in sets a b (on one rest) = last_in sets _ b rest

-- what the three steps found
module _ (sets : List (List ℕ)) (targets numbers : List ℕ) (groups : List (List ℕ))
    (all : (a : ℕ) → Contains targets a ↔ IsInSome sets a)
    (numbered : AreNumbers sets targets (length sets) numbers)
    (grouped : AreGroups targets numbers groups) where
  index_of : (a : ℕ) → IsInSome sets a → (k : ℕ) × (k < length targets) × (a ≡ get_or targets k 0)
  index_of a h = at_index targets a ((all a).1 h)

  neighbours : (a b : ℕ) (i j : ℕ) → AreInOne sets a b → i < length targets → j < length targets → a ≡ get_or targets i 0 → b ≡ get_or targets j 0 → get_or numbers i 0 ≡ get_or numbers j 0
  neighbours a b i j (k, p, q) hi hj ea eb =
      numbered.joined k i j (list_there sets k a p) hi hj (subst (λ (x : ℕ). IsIn sets k x) ea p) (subst (λ (x : ℕ). IsIn sets k x) eb q)

  -- a chain keeps the number
  one_number : (a b : ℕ) (i j : ℕ) → Joined sets a b → i < length targets → j < length targets → a ≡ get_or targets i 0 → b ≡ get_or targets j 0 → get_or numbers i 0 ≡ get_or numbers j 0
  one_number a b i j (here one) hi hj ea eb = neighbours a b i j one hi hj ea eb
  one_number a b i j (on {b = m} one rest) hi hj ea eb =
      let p = index_of m (first_in sets m b rest) in
      neighbours a m i p.0 one hi p.1 ea p.2 ∙ one_number m b p.0 j rest p.1 hj p.2 eb

  pub members : (a : ℕ) → IsInSome groups a ↔ IsInSome sets a
  members a = (
    λ h. (all a).0 (grouped.only a h),
    λ h. let p = index_of a h in subst (λ (x : ℕ). IsInSome groups x) (sym p.2) (grouped.found p.0 p.1),
  )

  pub apart : (i j a : ℕ) → IsIn groups i a → IsIn groups j a → i ≡ j
  apart i j a p q =
      let k = index_of a ((members a).0 (i, p)) in
      (grouped.same i j k.0 k.0 k.1 k.1 (subst (λ (x : ℕ). IsIn groups i x) k.2 p) (subst (λ (x : ℕ). IsIn groups j x) k.2 q)).0 refl

  chain : (a b : ℕ) → AreInOne groups a b → Joined sets a b
  chain a b (c, p, q) =
      let i = index_of a ((members a).0 (c, p)) in
      let j = index_of b ((members b).0 (c, q)) in
      let same = (grouped.same c c i.0 j.0 i.1 j.1 (subst (λ (x : ℕ). IsIn groups c x) i.2 p) (subst (λ (x : ℕ). IsIn groups c x) j.2 q)).1 refl in
      elim (numbered.only i.0 j.0 i.1 j.1 same) [
        | inl one ↦
            let s = (members a).0 (c, p) in
            let e : a ≡ b = i.2 ∙ ap (λ (k : ℕ). get_or targets k 0) one ∙ sym j.2 in
            here (s.0, s.1, subst (λ (x : ℕ). IsIn sets s.0 x) e s.1)
        | inr joined ↦ subst (λ (x : ℕ). Joined sets x b) (sym i.2) (subst (λ (x : ℕ). Joined sets (get_or targets i.0 0) x) (sym j.2) joined)
      ]

  one_class : (a b : ℕ) → Joined sets a b → AreInOne groups a b
  one_class a b h =
      let i = index_of a (first_in sets a b h) in
      let j = index_of b (last_in sets a b h) in
      let c = (members a).1 (first_in sets a b h) in
      let d = (members b).1 (last_in sets a b h) in
      let same = (grouped.same c.0 d.0 i.0 j.0 i.1 j.1 (subst (λ (x : ℕ). IsIn groups c.0 x) i.2 c.1) (subst (λ (x : ℕ). IsIn groups d.0 x) j.2 d.1)).0 (one_number a b i.0 j.0 h i.1 j.1 i.2 j.2) in
      (c.0, c.1, subst (λ (x : ℕ). IsIn groups x b) (sym same) d.1)

  pub joined : (a b : ℕ) → AreInOne groups a b ↔ Joined sets a b
  joined a b = (chain a b, one_class a b)
