-- Shapes of a list by their places.
use Rattle.std.proofs.Common.{Bool, true, ap, ◌∙◌, ◌≡◌, ℕ, zero, suc, ◌≤◌, ◌⊎◌, inl, inr, refl, List, [], ◌∷◌, ◌++◌, arith}
use Rattle.std.specs.Prelude.{Some, slice_get}
use Rattle.std.proofs.lemmas.Bool.{and_parts, cases_eq}
use Rattle.std.specs.List.{list_all}
use Rattle.cfi_unit.specs.declared.mask.Mask.{Mask}
use Rattle.cfi_unit.specs.declared.mask.Mask.TheVariants.{Shifts, Short, Long}
use Rattle.cfi_unit.specs.declared.pattern.End.TheVariants as E
use Rattle.cfi_unit.specs.Shapes.{Shape, all_stores, each_guarded, each_stores, guarded, shape, stores}
use Rattle.cfi_unit.specs.Opens.{Among}

pub listed : (ss : List Shape) (k : ℕ) (s : Shape) → slice_get ss k ≡ Some s → Among s ss
unfolding Among
listed [] k s e = absurd (cc)
listed (r ∷ ss) zero s e = inl (cc)
listed (r ∷ ss) (suc k) s e = inr (listed ss k s e)

pub among_front : (s : Shape) (front back : List Shape) → Among s front → Among s (front ++ back)
unfolding Among
among_front s [] back a = absurd a
among_front s (r ∷ front) back (inl e) = inl e
among_front s (r ∷ front) back (inr a) = inr (among_front s front back a)

pub among_back : (s : Shape) (front back : List Shape) → Among s back → Among s (front ++ back)
unfolding Among
among_back s [] back a = a
among_back s (r ∷ front) back a = inr (among_back s front back a)

pub among_either : (s : Shape) (front back : List Shape) → Among s (front ++ back) → Among s front ⊎ Among s back
unfolding Among
among_either s [] back a = inr a
among_either s (r ∷ front) back (inl e) = inl (inl e)
among_either s (r ∷ front) back (inr a) = elim (among_either s front back a) [ inl f ↦ inl (inr f) | inr b ↦ inr b ]

-- what a test says of each is so of one
pub each_among : (test : Shape → Bool) (ss : List Shape) (s : Shape) → list_all test ss ≡ true → Among s ss → test s ≡ true
unfolding Among
each_among test [] s all a = absurd a
each_among test (r ∷ ss) s all (inl e) = ap test e ∙ (and_parts (test r) (list_all test ss) all).0
each_among test (r ∷ ss) s all (inr a) = each_among test ss s (and_parts (test r) (list_all test ss) all).1 a

-- the families
abbrev pub STORES : List Shape
STORES = all_stores Shifts ++ all_stores Short ++ all_stores Long

pub stores_listed : (m : Mask) (k n : ℕ) → suc k ≤ n → Among (shape (E.Stores m) (stores m (suc k))) (each_stores m n)
unfolding Among
stores_listed m k zero few = absurd (omega arith)
stores_listed m k (suc n) few =
    elim (cases_eq k n) [ inl same ↦ inl (rw same refl) | inr other ↦ inr (stores_listed m k n (omega arith)) ]

pub guarded_listed : (k n : ℕ) → suc k ≤ n → Among (shape E.Guarded (guarded (suc k))) (each_guarded n)
unfolding Among
guarded_listed k zero few = absurd (omega arith)
guarded_listed k (suc n) few =
    elim (cases_eq k n) [ inl same ↦ inl (rw same refl) | inr other ↦ inr (guarded_listed k n (omega arith)) ]

pub stores_of : (s : Shape) (m : Mask) (n : ℕ) → Among s (each_stores m n) → (k : ℕ) × ((suc k ≤ n) × (s ≡ shape (E.Stores m) (stores m (suc k))))
unfolding Among
stores_of s m zero a = absurd a
stores_of s m (suc n) (inl e) = (n, (omega arith, e))
stores_of s m (suc n) (inr a) = let (k, (few, e)) = stores_of s m n a in (k, (omega arith, e))

pub guarded_of : (s : Shape) (n : ℕ) → Among s (each_guarded n) → (k : ℕ) × ((suc k ≤ n) × (s ≡ shape E.Guarded (guarded (suc k))))
unfolding Among
guarded_of s zero a = absurd a
guarded_of s (suc n) (inl e) = (n, (omega arith, e))
guarded_of s (suc n) (inr a) = let (k, (few, e)) = guarded_of s n a in (k, (omega arith, e))
