-- The targets of a class rise, and a search among them finds each.
use Rattle.std.proofs.Common.{◌≡◌, ◌≢◌, ◌<◌, ◌≤◌, ℕ, zero, suc, ◌==◌, true, false, List, [], ◌∷◌, length, get_or, Option, Some, None, Result, Ok, Err, refl, sym, ap, ◌∙◌, arith, inl, inr}
use Rattle.std.specs.Prelude.{nat_lt, is_ok, IfSome, if◌then◌else◌, option_and_then}
use Rattle.std.specs.List.{list_all}
use Rattle.std.specs.List.Sorted.{IsBinarySearchResult}
use Rattle.std.specs.Ordering.{nat_cmp}
use Rattle.std.proofs.lemmas.Bool.{and_parts, cases_Bool, cases_lt, or_left, or_right, or_from, ltb-true, eq-eqb, ne_eqb}
use Rattle.std.proofs.lemmas.Option.{none-some, same_Some}
use Rattle.rv_word.proofs.Cases.{cases_Option}
use Rattle.std.proofs.lemmas.List.Sorted.{searched}
use Rattle.cfi_graph.specs.declared.line.GraphLine.{GraphLine}
use Rattle.cfi_graph.specs.declared.line.GraphLine.TheVariants.{Calls, Leaf, Class, Site, Edge, Call}
use Rattle.cfi_graph.specs.declared.line.SiteKind.{SiteKind}
use Rattle.cfi_graph.specs.Graph.{ClassLine, class_in, is_rising, targets_rise}
use Rattle.cfi_unit.specs.declared.target_word.TargetWord.{TargetWord}
use Rattle.cfi_rules.specs.Lines.{class_with, is_among, if_serves, or_class, targets_for}

rises_in : (found class : ClassLine) → is_rising nat_lt found.targets ≡ true → ◌≡◌ {A = Option ClassLine} (Some found) (Some class) → is_rising nat_lt class.targets ≡ true
rises_in found class r e = ap (λ (c : ClassLine). is_rising nat_lt c.targets) (sym (same_Some found class e)) ∙ r

line_rises : (line : GraphLine) (class : ClassLine) → targets_rise line ≡ true → class_in line ≡ Some class → is_rising nat_lt class.targets ≡ true
line_rises (Calls numbers) class r e = absurd (none-some class e)
line_rises (Leaf from to) class r e = absurd (none-some class e)
line_rises (Class sort label members) class r e = rises_in (record { sort = sort; label = label; targets = members }) class r e
line_rises (Site address kind label) class r e = absurd (none-some class e)
line_rises (Edge from to) class r e = absurd (none-some class e)
line_rises (Call from to) class r e = absurd (none-some class e)

pub class_rises : (lines : List GraphLine) (l : ℕ) (class : ClassLine) → list_all targets_rise lines ≡ true → class_with lines l ≡ Some class → is_rising nat_lt class.targets ≡ true
unfolding class_with
class_rises [] l class r e = absurd (none-some class e)
class_rises (line ∷ lines) l class r e =
    let parts = and_parts (targets_rise line) _ r in
    elim (cases_Option (class_in line)) [
      | inl none ↦ class_rises lines l class parts.1 (sym (ap (λ o. or_class l o (class_with lines l)) none) ∙ e)
      | inr (found, some) ↦
          let chosen : (if found.label == l then Some found else class_with lines l) ≡ Some class = sym (ap (λ o. or_class l o (class_with lines l)) some) ∙ e in
          elim (cases_Bool (found.label == l)) [
            | inl s ↦ line_rises line class parts.0 (some ∙ rw s at chosen)
            | inr s ↦ class_rises lines l class parts.1 (rw s at chosen)
          ]
    ]

tail_rises : (x : ℕ) (xs : List ℕ) → is_rising nat_lt (x ∷ xs) ≡ true → is_rising nat_lt xs ≡ true
tail_rises x [] r = refl
tail_rises x (y ∷ ys) r = (and_parts _ _ r).1

-- numbers that rise are not below those before them
head_least : (x : ℕ) (xs : List ℕ) → is_rising nat_lt (x ∷ xs) ≡ true → (j : ℕ) → j < length xs → x ≤ get_or xs j 0
head_least x [] r j h = absurd (omega arith)
head_least x (y ∷ ys) r zero h = let less = ltb-true x y (and_parts _ _ r).0 in omega arith
head_least x (y ∷ ys) r (suc j) h =
    let less = ltb-true x y (and_parts _ _ r).0 in
    let more : y ≤ get_or ys j 0 = head_least y ys (tail_rises x (y ∷ ys) r) j (omega arith) in
    omega arith

pub never_falls : (xs : List ℕ) → is_rising nat_lt xs ≡ true → (i j : ℕ) → i ≤ j → j < length xs → get_or xs i 0 ≤ get_or xs j 0
never_falls [] r i j l h = absurd (omega arith)
never_falls (x ∷ xs) r zero zero l h = omega arith
never_falls (x ∷ xs) r zero (suc j) l h = head_least x xs r j (omega arith)
never_falls (x ∷ xs) r (suc i) zero l h = absurd (omega arith)
never_falls (x ∷ xs) r (suc i) (suc j) l h = never_falls xs (tail_rises x xs r) i j (omega arith) (omega arith)

among_at : (a : ℕ) (xs : List ℕ) (i : ℕ) → i < length xs → get_or xs i 0 ≡ a → is_among a xs ≡ true
among_at a [] i h e = absurd (omega arith)
among_at a (x ∷ xs) zero h e = or_left _ _ (eq-eqb x a e)
among_at a (x ∷ xs) (suc i) h e = or_right _ _ (among_at a xs i (omega arith) e)

among_none : (a : ℕ) (xs : List ℕ) → ((i : ℕ) → i < length xs → get_or xs i 0 ≢ a) → is_among a xs ≡ false
among_none a [] h = refl
among_none a (x ∷ xs) h = or_from _ _ (ne_eqb x a (h zero (omega arith))) (among_none a xs (λ i l. h (suc i) (omega arith)))

-- a binary search answers whether a number is among some that rise
pub search_finds : (xs : List ℕ) (a : ℕ) (r : Result ℕ ℕ) → is_rising nat_lt xs ≡ true → IsBinarySearchResult (λ y. nat_cmp y a) xs r → is_ok r ≡ is_among a xs
search_finds xs a (Ok i) rise h =
    let at = searched xs a (Ok i) h (never_falls xs rise) in
    sym (among_at a xs i at.0 at.1)
search_finds xs a (Err i) rise h =
    let apart = searched xs a (Err i) h (never_falls xs rise) in
    sym (among_none a xs (λ k l. elim (cases_lt k i) [
      | inl less ↦ λ e. let b = apart.1 k less in omega arith
      | inr more ↦ λ e. let b = apart.2 k more l in omega arith
    ]))

-- the targets for a transfer, by the class with its label
pub for_class : (lines : List GraphLine) (kind : SiteKind) (which : TargetWord) (l : ℕ) (found : Option ClassLine) → found ≡ class_with lines l → option_and_then (if_serves kind which) found ≡ targets_for lines kind which l
unfolding targets_for
for_class lines kind which l found e = ap (option_and_then (if_serves kind which)) e

-- the targets of a class that is found rise
pub found_rises : (lines : List GraphLine) (l : ℕ) (found : Option ClassLine) → list_all targets_rise lines ≡ true → found ≡ class_with lines l → IfSome found (λ class. is_rising nat_lt class.targets ≡ true)
found_rises lines l None r e = tt
found_rises lines l (Some class) r e = class_rises lines l class r (sym e)
