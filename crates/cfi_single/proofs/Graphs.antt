-- One raw graph and one closed graph are right.
use Rattle.std.proofs.Common.{◌≡◌, suc, List, [], ◌∷◌, refl, sym, ap, map, subst, ◌∙◌, arith}
use Rattle.std.specs.List.{All}
use Rattle.cfi_single.proofs.Prelude.{GraphVersion, PolicyParts, Sort, Program, ClosedGraph, Side, AreClasses, IsClosed, IsSide, raw_for, sets_of, with_class, IsRaw, RawGraph}
use Rattle.cfi_single.proofs.Classes.{classes_unique}

-- the side of a sort
side_unique : (raw : RawGraph) (x y : Side) → x.sort ≡ y.sort → IsSide raw x → IsSide raw y → x ≡ y
side_unique raw x y sort hx hy =
    let other : AreClasses (sets_of (raw_for x.sort raw).sites) y.classes =
    subst (λ (s : Sort). AreClasses (sets_of (raw_for s raw).sites) y.classes) (sym sort) hy.classes in
    let classes : x.classes ≡ y.classes = classes_unique (sets_of (raw_for x.sort raw).sites) x.classes y.classes hx.classes other in
    let sites : x.sites ≡ y.sites =
    hx.sites ∙ ap (λ cs. map (with_class cs) (raw_for x.sort raw).sites) classes
    ∙ ap (λ (s : Sort). map (with_class y.classes) (raw_for s raw).sites) sort ∙ sym hy.sites in
    λ i. record { sort = sort i; classes = classes i; sites = sites i }

-- the sides of all sorts
sides_unique : (raw : RawGraph) (xs ys : List Side) → map (λ (s : Side). s.sort) xs ≡ map (λ (s : Side). s.sort) ys → All (IsSide raw) xs → All (IsSide raw) ys → xs ≡ ys
sides_unique raw [] [] sorts hx hy = refl
sides_unique raw [] (y ∷ ys) sorts hx hy = absurd (cc)
sides_unique raw (x ∷ xs) [] sorts hx hy = absurd (cc)
sides_unique raw (x ∷ xs) (y ∷ ys) sorts hx hy =
    let first : x.sort ≡ y.sort = cc in
    let rest : map (λ (s : Side). s.sort) xs ≡ map (λ (s : Side). s.sort) ys = cc in
    let one = side_unique raw x y first (hx 0 x (omega arith)) (hy 0 y (omega arith)) in
    let others = sides_unique raw xs ys rest (λ k d below. hx (suc k) d (omega (arith, below))) (λ k d below. hy (suc k) d (omega (arith, below))) in
    ap (λ (s : Side). s ∷ xs) one ∙ ap (λ (ss : List Side). y ∷ ss) others

-- the closed graph of a raw one, for a version of graphs
pub closed_unique : (version : GraphVersion) (raw : RawGraph) (c d : ClosedGraph) → IsClosed version raw c → IsClosed version raw d → c ≡ d
closed_unique version raw c d hc hd =
    let of : c.version ≡ d.version = hc.version_is ∙ sym hd.version_is in
    let sides : c.sides ≡ d.sides = sides_unique raw c.sides d.sides (hc.sorts ∙ sym hd.sorts) hc.sides hd.sides in
    let taken : c.taken ≡ d.taken = hc.taken ∙ sym hd.taken in
    let calls : c.calls ≡ d.calls = hc.calls ∙ sym hd.calls in
    λ i. record { version = of i; sides = sides i; taken = taken i; calls = calls i }

-- the raw graph of a program under a policy
pub raw_unique : (program : Program) (policy : PolicyParts) (r s : RawGraph) → IsRaw program policy r
    → IsRaw program policy s → r ≡ s
raw_unique program policy r s hr hs =
    let sites : r.sites ≡ s.sites = hr.sites ∙ sym hs.sites in
    let taken : r.taken ≡ s.taken = hr.taken ∙ sym hs.taken in
    let calls : r.calls ≡ s.calls = hr.calls ∙ sym hs.calls in
    λ i. record { sites = sites i; taken = taken i; calls = calls i }
