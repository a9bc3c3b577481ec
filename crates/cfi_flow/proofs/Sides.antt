-- The sides of a closed graph, each as it is made of the raw graph.
use Rattle.std.proofs.Common.{◌≡◌, List, [], ◌∷◌, length, map, refl, sym, ap, subst, ◌∙◌}
use Rattle.std.specs.Prelude.{Result, Ok, Err, IfOk, filter}
use Rattle.rv_word.specs.declared.no_memory.NoMemory.{NoMemory}
use Rattle.cfi_graph.specs.declared.line.Sort.{Sort}
use Rattle.cfi_graph.specs.declared.line.Sort.TheVariants.{Both}
use Rattle.cfi_closed.specs.Closed.{IsSideInside, Side, is_of}
use Rattle.cfi_flow.specs.Closing.{AreClasses, IsSide, raw_for, sets_of, with_class}
use Rattle.cfi_flow.specs.Raw.{RawGraph}
use Rattle.cfi_flow.specs.Sites.{RawSite}

-- each computed transfer is one of both kinds
all_of : (sites : List RawSite) → filter (λ (s : RawSite). is_of Both s.kind) sites ≡ sites
all_of [] = refl
all_of (s ∷ sites) = ap (λ (more : List RawSite). s ∷ more) (all_of sites)

-- a side that is closed by the sites of its sort
pub side_own : (raw own : RawGraph) (sort : Sort) (side : Side) → own ≡ raw_for sort raw → side.sort ≡ sort → AreClasses (sets_of own.sites) side.classes →
    side.sites ≡ map (with_class side.classes) own.sites → IsSide raw side
side_own raw own sort side is of classes sites =
    let same : own ≡ raw_for side.sort raw = is ∙ ap (λ (s : Sort). raw_for s raw) (sym of) in
    record {
      classes = subst (λ (r : RawGraph). AreClasses (sets_of r.sites) side.classes) same classes;
      sites = sites ∙ ap (λ (r : RawGraph). map (with_class side.classes) r.sites) same;
    }

pub side_whole : (raw : RawGraph) (side : Side) → side.sort ≡ Both → AreClasses (sets_of raw.sites) side.classes →
    side.sites ≡ map (with_class side.classes) raw.sites → IsSide raw side
side_whole raw side = side_own raw raw Both side (ap (λ (sites : List RawSite). record { sites = sites; taken = raw.taken; calls = raw.calls }) (sym (all_of raw.sites)))

-- what a call gives that closes one
module _ (raw own : RawGraph) (sort : Sort) (own_is : own ≡ raw_for sort raw) where
  pub own_right : (r : Result Side NoMemory) → IfOk r (λ s. s.sort ≡ sort) → IfOk r (λ s. AreClasses (sets_of own.sites) s.classes) →
      IfOk r (λ s. s.sites ≡ map (with_class s.classes) own.sites) → IfOk r (λ s. IsSide raw s)
  own_right (Ok side) of classes sites = side_own raw own sort side own_is of classes sites
  own_right (Err fault) of classes sites = tt

  pub own_inside : (r : Result Side NoMemory) → IfOk r (λ s. IsSideInside (length own.taken) s) → IfOk r (λ s. IsSideInside (length raw.taken) s)
  own_inside r inside = subst (λ (g : RawGraph). IfOk r (λ s. IsSideInside (length g.taken) s)) own_is inside

pub whole_right : (raw : RawGraph) (sort : Sort) (r : Result Side NoMemory) → sort ≡ Both → IfOk r (λ s. s.sort ≡ sort) →
    IfOk r (λ s. AreClasses (sets_of raw.sites) s.classes) → IfOk r (λ s. s.sites ≡ map (with_class s.classes) raw.sites) → IfOk r (λ s. IsSide raw s)
whole_right raw sort (Ok side) both of classes sites = side_whole raw side (of ∙ both) classes sites
whole_right raw sort (Err fault) both of classes sites = tt
