-- A run by places is walked by units: the places are gone over from the first, and a group is walked where the next place is no later one.
use Rattle.std.proofs.Common.{◌≡◌, ℕ, zero, suc, ◌+◌, ◌≤◌, ◌<◌, inl, inr, Bool, true, false, Option, Some, None, List, [], ◌∷◌, ◌++◌, refl, sym, ap, subst, ◌∙◌, arith}
use Rattle.std.proofs.Math.Nat.{mul-add}
use Rattle.std.proofs.lemmas.Bool.{cases_Bool, cases_lt}
use Rattle.std.proofs.lemmas.Nat.{mul-le}
use Rattle.cfi_runs.proofs.Prelude.{Profile, Memory, GoesAlong, IsWhole, Link, Walked, Own, own_step, OwnRuns, words_along}
use Rattle.cfi_unit.specs.declared.unit.Unit as U
use Rattle.cfi_runs.specs.GroupLaws as law

-- one path, then another
pub paths_join : (p : Profile) (image : Memory) (path more : List U.Unit) (o middle last : Own) → OwnRuns p image path o middle → OwnRuns p image more middle last →
    OwnRuns p image (path ++ more) o last
paths_join p image [] more o middle last same on = subst (λ (x : Own). OwnRuns p image more x last) same on
paths_join p image (unit ∷ path) more o middle last first on =
    (first.0, first.1, paths_join p image path more (own_step p o unit).state middle last first.2 on)

pub words_join : (path more : List U.Unit) → words_along (path ++ more) ≡ words_along path + words_along more
words_join [] more = omega arith
words_join (unit ∷ path) more = let rest = words_join path more in omega arith

module _ (p : Profile) (image : Memory) (most : ℕ) where
  -- no place
  pub stays : (o : Own) → Walked p image most 0 o o
  stays o = record { path = []; few = omega arith; leads = refl }

  -- some places, then more
  pub walks_join : (m n all : ℕ) (o middle last : Own) → m + n ≤ all → Walked p image most m o middle → Walked p image most n middle last →
      Walked p image most all o last
  walks_join m n all o middle last count one two =
      let counted = words_join one.path two.path in
      let first = one.few in
      let second = two.few in
      let both = mul-add most m n in
      let more = mul-le most (m + n) most all (omega arith) count in
      record {
        path = one.path ++ two.path;
        few = omega arith;
        leads = paths_join p image one.path two.path o middle last one.leads two.leads;
      }

module _ (store later : ℕ → Bool) where
  -- behind a place that holds no store stands no later one
  after_other : (k : ℕ) (next : Option ℕ) → store k ≡ false → Link store later (Some k) next → Link store later None next
  after_other k None other link = tt
  after_other k (Some j) other link =
      elim (cases_Bool (later j)) [ inl is ↦ (let has = link.1 is in cc) | inr is_none ↦ is_none ]

  -- behind a store stands the next place, and if it is no later store the group ends
  after_store : (k : ℕ) (next : Option ℕ) → store k ≡ true → Link store later (Some k) next → Link store later None next → later (k + 1) ≡ false
  after_store k None is link free = let other : store k ≡ false = link in cc
  after_store k (Some j) is link free = ap later (sym (link.0 is)) ∙ free

  -- a later store stands behind a store
  before_later : (k j : ℕ) → store k ≡ true → Link store later (Some k) (Some j) → j ≡ k + 1
  before_later k j is link = link.0 is

-- from step j on `count` stores of the group that begins at k are made
record IsBegun (store later : ℕ → Bool) (place : ℕ → Option ℕ) (i j k count : ℕ) : Type 0 where
  here : i ≡ j + suc count
  places : (d : ℕ) → d < suc count → place (j + d) ≡ Some (k + d)
  stores : (d : ℕ) → d < suc count → store (k + d) ≡ true
  first : later k ≡ false
  others : (d : ℕ) → 1 ≤ d → d < suc count → later (k + d) ≡ true

-- after i steps no group has begun, or one has
data SoFar (store later : ℕ → Bool) (place : ℕ → Option ℕ) (WalkedTo : ℕ → Type 0) (i : ℕ) : Type 0 where
  between : Link store later None (place i) → WalkedTo i → SoFar store later place WalkedTo i
  within : (j k count : ℕ) → WalkedTo j → IsBegun store later place i j k count → SoFar store later place WalkedTo i

module _ (p : Profile) (image : Memory) (most : ℕ) (store later : ℕ → Bool) (place : ℕ → Option ℕ) (state : ℕ → Own) (n : ℕ)
    (later_stores : (k : ℕ) → later k ≡ true → store k ≡ true) (along : GoesAlong store later place n)
    (single : law.SinglesWalked p image most store later place state n) (grouped : law.GroupsWalked p image most store later place state n) where
  abbrev WalkedTo : ℕ → Type 0
  WalkedTo i = Walked p image most i (state 0) (state i)

  abbrev Here : ℕ → Type 0
  Here = SoFar store later place WalkedTo

  -- the last of the stores that are made, and what comes then
  last_link : (i j k count : ℕ) → i ≤ n → IsBegun store later place i j k count → Link store later (Some (k + count)) (place i)
  last_link i j k count inside begun =
      let here = begun.here in
      let at = begun.places count (omega arith) in
      subst (λ (x : Option ℕ). Link store later x (place i)) at
      (subst (λ (x : ℕ). Link store later (place (j + count)) (place x)) (omega arith) (along.links (j + count) (omega arith)))

  -- where no later store comes then, the group is walked
  walk_group : (i : ℕ) → i ≤ n → Here i → Link store later None (place i) → WalkedTo i
  walk_group i inside (between free walked) none = walked
  walk_group i inside (within j k count walked begun) none =
      let here = begun.here in
      let past = after_store store later (k + count) (place i) (begun.stores count (omega arith)) (last_link i j k count inside begun) none in
      let e : k + count + 1 ≡ k + suc count = omega arith in
      let whole : IsWhole store later k (suc count) = record {
        some = omega arith;
        stores = begun.stores;
        first = begun.first;
        others = begun.others;
        past = ap later (sym e) ∙ past;
      } in
      let group = grouped j k (suc count) (omega arith) begun.places whole in
      let to_here = subst (λ (x : ℕ). Walked p image most 1 (state j) (state x)) (sym here) group in
      walks_join p image most j 1 i (state 0) (state j) (state i) (omega arith) walked to_here

  -- a group of one store so far
  begin_group : (i k : ℕ) → place i ≡ Some k → store k ≡ true → later k ≡ false → IsBegun store later place (suc i) i k 0
  begin_group i k at is first = record {
    here = omega arith;
    places = λ d below.
        let none : d ≡ 0 = omega arith in
        let e : i ≡ i + d = omega arith in
        let f : k ≡ k + d = omega arith in
        subst (λ (x : ℕ). place (i + d) ≡ Some x) f (subst (λ (x : ℕ). place x ≡ Some k) e at);
    stores = λ d below. let f : k ≡ k + d = omega arith in subst (λ (x : ℕ). store x ≡ true) f is;
    first = first;
    others = λ d some below. absurd (omega arith);
  }

  -- and of one more
  more_stores : (i j k count next : ℕ) → i ≤ n → place i ≡ Some next → later next ≡ true → IsBegun store later place i j k count →
      IsBegun store later place (suc i) j k (suc count)
  more_stores i j k count next inside at is begun =
      let here = begun.here in
      let link = subst (λ (x : Option ℕ). Link store later (Some (k + count)) x) at (last_link i j k count inside begun) in
      let e = before_later store later (k + count) next (begun.stores count (omega arith)) link in
      let f : next ≡ k + suc count = omega arith in
      record {
        here = omega arith;
        places = λ d below.
            elim (cases_lt d (suc count)) [
              | inl before ↦ begun.places d before
              | inr last ↦
                  let g : suc count ≡ d = omega arith in
                  subst (λ (x : ℕ). place (j + x) ≡ Some (k + x)) g
                  (subst (λ (x : ℕ). place x ≡ Some (k + suc count)) here (at ∙ ap (λ (x : ℕ). Some x) f))
            ];
        stores = λ d below.
            elim (cases_lt d (suc count)) [
              | inl before ↦ begun.stores d before
              | inr last ↦ let g : next ≡ k + d = omega arith in subst (λ (x : ℕ). store x ≡ true) g (later_stores next is)
            ];
        first = begun.first;
        others = λ d some below.
            elim (cases_lt d (suc count)) [
              | inl before ↦ begun.others d some before
              | inr last ↦ let g : next ≡ k + d = omega arith in subst (λ (x : ℕ). later x ≡ true) g is
            ];
      }

  -- a later store goes on with the group
  go_on : (i k : ℕ) → i ≤ n → place i ≡ Some k → later k ≡ true → Here i → Here (suc i)
  go_on i k inside at is (between free walked) =
      let none : later k ≡ false = subst (Link store later None) at free in cc
  go_on i k inside at is (within j first count walked begun) = within j first (suc count) walked (more_stores i j first count k inside at is begun)

  -- any other place has a unit of its own or begins a group
  go_past : (i k : ℕ) → i < n → place i ≡ Some k → later k ≡ false → Here i → Here (suc i)
  go_past i k below at none here =
      let walked = walk_group i (omega arith) here (subst (Link store later None) (sym at) none) in
      elim (cases_Bool (store k)) [
        | inl is ↦ within i k 0 walked (begin_group i k at is none)
        | inr other ↦
            between
            (after_other store later k (place (suc i)) other (subst (λ (x : Option ℕ). Link store later x (place (suc i))) at (along.links i below)))
            (walks_join p image most i 1 (suc i) (state 0) (state i) (state (suc i)) (omega arith) walked (single i k below at other))
      ]

  so_far : (i : ℕ) → i ≤ n → Here i
  so_far zero inside = between along.begins (stays p image most (state 0))
  so_far (suc i) inside =
      let (k, at) = along.at i (omega arith) in
      elim (cases_Bool (later k)) [
        | inl is ↦ go_on i k (omega arith) at is (so_far i (omega arith))
        | inr none ↦ go_past i k (omega arith) at none (so_far i (omega arith))
      ]

  pub whole_walked : WalkedTo n
  whole_walked = walk_group n (omega arith) (so_far n (omega arith)) along.ends

pub places_walked : law.PlacesWalked
places_walked p image most store later place state n later_stores along single grouped =
    whole_walked p image most store later place state n later_stores along single grouped
