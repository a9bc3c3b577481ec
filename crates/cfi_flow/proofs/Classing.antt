-- Lists that join the same targets as the sets of the sites have the same classes.
use Rattle.std.proofs.Common.{◌≡◌, ℕ, ◌+◌, ◌<◌, List, [], ◌∷◌, length, map, get_or, Option, Some, None, IfSome, refl, sym, ap, subst, arith, add-one}
use Rattle.std.specs.List.{All, Contains}
use Rattle.std.proofs.lemmas.List.{get_or-map, length-map}
use Rattle.std.proofs.lemmas.List.Elements.{All-contains, All-from_get_or, Contains-get_or}
use Rattle.std.proofs.lemmas.List.Quantifiers.{position-Some}
use Rattle.cfi_class.specs.Classes.{AreInOne, IsInSome, Joined, here, on, class_with, has}
use Rattle.cfi_closed.specs.declared.side.Site.{Site}
use Rattle.cfi_flow.specs.Closing.{AreClasses, class_reached, sets_of, with_class}
use Rattle.cfi_flow.specs.Found.{by_table, first_entry}
use Rattle.cfi_flow.specs.Joins.{JoinAs}
use Rattle.cfi_flow.specs.Raw.{IsThere, RawGraph, no_site}
use Rattle.cfi_flow.specs.Sites.{RawSite}
use Rattle.cfi_class.specs.Tables.{IsTable}
use Rattle.cfi_class.proofs.Chains.{first_in}
use Rattle.cfi_class.proofs.Numbers.{chained}
use Rattle.cfi_class.proofs.Sets.{list_there}

pub joined_along : (s t : List (List ℕ)) → ((a b : ℕ) → AreInOne s a b → Joined t a b) → (a b : ℕ) → Joined s a b → Joined t a b
joined_along s t f a b (here h) = f a b h
joined_along s t f a c (on {b = b} h rest) = chained t a b c (f a b h) (joined_along s t f b c rest)

-- the classes of lists that join the same are those of the sets
pub classes_of : (sets lists classes : List (List ℕ)) → JoinAs sets lists → AreClasses lists classes → AreClasses sets classes
classes_of sets lists classes join c = record {
  joined = λ a b. (
    λ h. joined_along lists sets join.apart a b ((c.joined a b).0 h),
    λ h. (c.joined a b).1 (joined_along sets lists (λ x y g. here (join.whole x y g)) a b h),
  );
  members = λ a. (
    λ h. let at = (c.members a).0 h in first_in sets a a (join.apart a a (at.0, at.1, at.1)),
    λ h. (c.members a).1 (let one = join.whole a a (h.0, h.1, h.1) in (one.0, one.1)),
  );
  apart = c.apart;
  rising = c.rising;
  some = c.some;
  in_order = c.in_order;
}

-- their members are places
pub members_there : (r : RawGraph) → IsThere r → (classes : List (List ℕ)) → ((a : ℕ) → IsInSome classes a → IsInSome (sets_of r.sites) a)
    → All (All (λ (t : ℕ). t < length r.taken)) classes
members_there r there classes among =
    All-from_get_or (All (λ (t : ℕ). t < length r.taken)) classes [] (λ i inside.
    All-from_get_or (λ (t : ℕ). t < length r.taken) (get_or classes i []) 0 (λ k below.
    let a : ℕ = get_or (get_or classes i []) k 0 in
    let h = among a (i, Contains-get_or (get_or classes i []) k 0 below) in
    let inside : h.0 < length r.sites = omega (arith, list_there (sets_of r.sites) h.0 a h.1, length-map r.sites (λ (s : RawSite). s.targets)) in
    let set = get_or-map (λ (s : RawSite). s.targets) r.sites h.0 no_site [] inside in
    All-contains (λ (t : ℕ). t < length r.taken) (get_or r.sites h.0 no_site).targets a (there.targets h.0 no_site inside)
    (subst (λ (xs : List ℕ). Contains xs a) set h.1)))

abbrev site_with_class : RawSite → Option ℕ → Site
site_with_class s class = record { place = s.place; class = class }

-- what a table says of sites
pub by_table_there : (table : List (Option ℕ)) (sites : List RawSite) (places : ℕ) → All (λ (s : RawSite). s.place < places) sites
    → All (λ (s : Site). s.place < places) (map (by_table table) sites)
by_table_there table sites places there i d inside =
    let below : i < length sites = omega (arith, length-map sites (by_table table)) in
    subst (λ (s : Site). s.place < places) (sym (get_or-map (by_table table) sites i no_site d below)) (there i no_site below)

-- what a table of classes has for the first target is the class that has it
first_is : (classes : List (List ℕ)) (places : ℕ) (table : List (Option ℕ)) → IsTable (class_with classes) places table
    → (targets : List ℕ) → All (λ (t : ℕ). t < places) targets → first_entry table targets ≡ class_reached classes targets
first_is classes places table is [] there = refl
first_is classes places table is (t ∷ targets) there = is.each t (there 0 0 (omega arith))

pub closed_by_table : (classes : List (List ℕ)) (places : ℕ) (table : List (Option ℕ)) → IsTable (class_with classes) places table
    → (sites : List RawSite) → All (λ (s : RawSite). All (λ (t : ℕ). t < places) s.targets) sites
    → map (by_table table) sites ≡ map (with_class classes) sites
closed_by_table classes places table is [] there = refl
closed_by_table classes places table is (s ∷ sites) there =
    let first : by_table table s ≡ with_class classes s =
    ap (λ (class : Option ℕ). site_with_class s class) (first_is classes places table is s.targets (there 0 s (omega arith))) in
    let rest = closed_by_table classes places table is sites (λ k d below. rw add-one at (there (k + 1) d (omega arith))) in
    cc

-- a class that is reached is there
found_there : (classes : List (List ℕ)) (t : ℕ) (o : Option ℕ) → class_with classes t ≡ o → IfSome o (λ k. k < length classes)
found_there classes t None e = tt
found_there classes t (Some k) e = (position-Some (has t) classes k [] e).0

class_there : (classes : List (List ℕ)) (targets : List ℕ) → IfSome (class_reached classes targets) (λ k. k < length classes)
class_there classes [] = tt
class_there classes (t ∷ targets) = found_there classes t (class_with classes t) refl

pub reached_there : (classes : List (List ℕ)) (sites : List RawSite) → All (λ (s : Site). IfSome s.class (λ k. k < length classes)) (map (with_class classes) sites)
reached_there classes sites i d inside =
    let below : i < length sites = omega (arith, length-map sites (with_class classes)) in
    subst (λ (s : Site). IfSome s.class (λ k. k < length classes)) (sym (get_or-map (with_class classes) sites i no_site d below))
    (class_there classes (get_or sites i no_site).targets)
