-- Sites that are kept with the indexes of their lists or with spans, as they grow by one.
use Rattle.std.proofs.Common.{◌≡◌, ℕ, ◌+◌, ◌<◌, Bool, List, [], ◌∷◌, ◌++◌, length, map, get_or, Option, IfSome, inl, inr, refl, sym, ap, subst, ◌∙◌, arith, add-one}
use Rattle.std.specs.Prelude.{filter}
use Rattle.std.specs.List.{All, slice_get}
use Rattle.std.proofs.Math.ListN.{get_or-append}
use Rattle.std.proofs.Math.Seq.{get_or-append_seam}
use Rattle.std.proofs.lemmas.Bool.{cases_Bool}
use Rattle.std.proofs.lemmas.List.Elements.{All-filter}
use Rattle.std.proofs.lemmas.List.{get_or-map, length-map, map-append}
use Rattle.cfi_graph.specs.declared.line.SiteKind.{SiteKind}
use Rattle.cfi_graph.specs.declared.line.Sort.{Sort}
use Rattle.cfi_closed.specs.Closed.{is_of}
use Rattle.cfi_flow.specs.declared.draw.Aim.{Aim}
use Rattle.cfi_flow.specs.declared.draw.Aim.TheVariants as aim
use Rattle.cfi_flow.specs.declared.draw.Drawing.{Drawing}
use Rattle.cfi_flow.specs.declared.draw.KeptSite.{KeptSite}
use Rattle.cfi_flow.specs.Kept.{AreKept, IsAimed, no_kept, raw_site, site_with, sites_of, targets_of}
use Rattle.cfi_flow.specs.Closing.{sets_of}
use Rattle.cfi_flow.specs.Raw.{IsThere, no_site}
use Rattle.cfi_flow.specs.Sites.{RawSite}
use Rattle.cfi_flow.proofs.Listing.{below_all}

abbrev pub kept : ℕ → SiteKind → Aim → KeptSite
kept place kind a = record { place = place; kind = kind; aim = a }

-- a list that comes later changes no site
target_stays : (lists : List (List ℕ)) (more : List ℕ) (taken begun : List Bool) (a : Aim) → IsAimed (length lists) a
    → targets_of (lists ++ more ∷ []) taken begun a ≡ targets_of lists taken begun a
target_stays lists more taken begun (aim.Listed j) h = get_or-append lists (more ∷ []) [] j h
target_stays lists more taken begun (aim.Open span) h = refl

sites_stay : (lists : List (List ℕ)) (more : List ℕ) (taken begun : List Bool) (sites : List KeptSite)
    → All (λ (s : KeptSite). IsAimed (length lists) s.aim) sites
    → map (raw_site (lists ++ more ∷ []) taken begun) sites ≡ map (raw_site lists taken begun) sites
sites_stay lists more taken begun [] there = refl
sites_stay lists more taken begun (s ∷ sites) there =
    let same : raw_site (lists ++ more ∷ []) taken begun s ≡ raw_site lists taken begun s =
    ap (λ (ts : List ℕ). site_with s.place s.kind ts) (target_stays lists more taken begun s.aim (there 0 s (omega arith))) in
    let rest = sites_stay lists more taken begun sites (λ k d below. rw add-one at (there (k + 1) d (omega arith))) in
    cc

module _ (d n : Drawing) (is : AreKept d) (place : ℕ) (kind : SiteKind) (here : place < length d.taken.items)
    (taken : n.taken.items ≡ d.taken.items) (begun : n.begun.items ≡ d.begun.items) where
  -- a site with a list of its own
  pub listed_sites : (targets : List ℕ) → n.lists.items ≡ d.lists.items ++ targets ∷ []
      → n.sites.items ≡ d.sites.items ++ kept place kind (aim.Listed (length d.lists.items)) ∷ []
      → sites_of n ≡ sites_of d ++ site_with place kind targets ∷ []
  listed_sites targets lists sites =
      rw (sites, lists, taken, begun)
      (map-append (raw_site (d.lists.items ++ targets ∷ []) d.taken.items d.begun.items) d.sites.items (kept place kind (aim.Listed (length d.lists.items)) ∷ [])
      ∙ ap (λ (xs : List RawSite). xs ++ site_with place kind (get_or (d.lists.items ++ targets ∷ []) (length d.lists.items) []) ∷ [])
      (sites_stay d.lists.items targets d.taken.items d.begun.items d.sites.items is.aims)
      ∙ ap (λ (ts : List ℕ). sites_of d ++ site_with place kind ts ∷ []) (get_or-append_seam d.lists.items targets [] []))

-- targets are places
aimed_there : (lists : List (List ℕ)) (taken begun : List Bool) (a : Aim) → IsAimed (length lists) a → All (All (λ (t : ℕ). t < length taken)) lists
    → All (λ (t : ℕ). t < length taken) (targets_of lists taken begun a)
aimed_there lists taken begun (aim.Listed j) there all = all j [] there
aimed_there lists taken begun (aim.Open span) there all = below_all (λ (t : ℕ). t < length taken) _ (length taken) (λ k less holds. less)

pub there : (d : Drawing) (calls : Option (List ℕ)) → AreKept d → IsThere (record { sites = sites_of d; taken = d.taken.items; calls = calls })
there d calls is =
    let raw : KeptSite → RawSite = raw_site d.lists.items d.taken.items d.begun.items in
    record {
      sites = λ i e inside.
          let below : i < length d.sites.items = omega (arith, length-map d.sites.items raw) in
          subst (λ (s : RawSite). s.place < length d.taken.items) (sym (get_or-map raw d.sites.items i no_kept e below)) (is.places i no_kept below);
      targets = λ i e inside.
          let below : i < length d.sites.items = omega (arith, length-map d.sites.items raw) in
          subst (λ (s : RawSite). All (λ (t : ℕ). t < length d.taken.items) s.targets) (sym (get_or-map raw d.sites.items i no_kept e below))
          (aimed_there d.lists.items d.taken.items d.begun.items (get_or d.sites.items i no_kept).aim (is.aims i no_kept below) is.lists);
    }

-- the set of a site
pub set_of_site : (d : Drawing) (k : ℕ) → k < length d.sites.items
    → get_or (sets_of (sites_of d)) k [] ≡ targets_of d.lists.items d.taken.items d.begun.items (get_or d.sites.items k no_kept).aim
set_of_site d k below =
    let raw : KeptSite → RawSite = raw_site d.lists.items d.taken.items d.begun.items in
    get_or-map (λ (s : RawSite). s.targets) (sites_of d) k no_site [] (omega (arith, length-map d.sites.items raw))
    ∙ ap (λ (s : RawSite). s.targets) (get_or-map raw d.sites.items k no_kept no_site below)

pub sets_many : (d : Drawing) → length (sets_of (sites_of d)) ≡ length d.sites.items
sets_many d = length-map (sites_of d) (λ (s : RawSite). s.targets) ∙ length-map d.sites.items (raw_site d.lists.items d.taken.items d.begun.items)

first_bound : (xs : List ℕ) (n : ℕ) → All (λ (t : ℕ). t < n) xs → (o : Option ℕ) → o ≡ slice_get xs 0 → IfSome o (λ t. t < n)
first_bound [] n all o is = subst (λ (p : Option ℕ). IfSome p (λ t. t < n)) (sym is) tt
first_bound (x ∷ xs) n all o is = subst (λ (p : Option ℕ). IfSome p (λ t. t < n)) (sym is) (all 0 0 (omega arith))

-- the first target of a site is a place
pub first_there : (d : Drawing) → AreKept d → (a : Aim) → IsAimed (length d.lists.items) a → (n : ℕ) → length d.taken.items ≡ n → (o : Option ℕ)
    → o ≡ slice_get (targets_of d.lists.items d.taken.items d.begun.items a) 0 → IfSome o (λ t. t < n)
first_there d is a aimed n many o first =
    subst (λ (m : ℕ). IfSome o (λ t. t < m)) many
    (first_bound _ (length d.taken.items) (aimed_there d.lists.items d.taken.items d.begun.items a aimed is.lists) o first)

-- the sites of a sort alone
abbrev pub kept_for : Sort → List KeptSite → List KeptSite
kept_for sort sites = filter (λ (s : KeptSite). is_of sort s.kind) sites

filtered : (lists : List (List ℕ)) (taken begun : List Bool) (sort : Sort) (sites : List KeptSite) →
    map (raw_site lists taken begun) (kept_for sort sites) ≡ filter (λ (s : RawSite). is_of sort s.kind) (map (raw_site lists taken begun) sites)
filtered lists taken begun sort [] = refl
filtered lists taken begun sort (s ∷ sites) = elim (cases_Bool (is_of sort s.kind)) [
  | inl own ↦ rw own (ap (λ (more : List RawSite). raw_site lists taken begun s ∷ more) (filtered lists taken begun sort sites))
  | inr other ↦ rw other (filtered lists taken begun sort sites)
]

module _ (d n : Drawing) (sort : Sort) (sites : n.sites.items ≡ kept_for sort d.sites.items) (lists : n.lists.items ≡ d.lists.items)
    (taken : n.taken.items ≡ d.taken.items) (begun : n.begun.items ≡ d.begun.items) where
  pub sites_for : sites_of n ≡ filter (λ (s : RawSite). is_of sort s.kind) (sites_of d)
  sites_for =
      ap (λ (ls : List (List ℕ)). map (raw_site ls n.taken.items n.begun.items) n.sites.items) lists
      ∙ ap (λ (ts : List Bool). map (raw_site d.lists.items ts n.begun.items) n.sites.items) taken
      ∙ ap (λ (bs : List Bool). map (raw_site d.lists.items d.taken.items bs) n.sites.items) begun
      ∙ ap (map (raw_site d.lists.items d.taken.items d.begun.items)) sites
      ∙ filtered d.lists.items d.taken.items d.begun.items sort d.sites.items

  pub kept_sites : AreKept d → AreKept n
  kept_sites is = record {
    places = subst (All (λ (s : KeptSite). s.place < length n.taken.items)) (sym sites)
        (subst (λ (ts : List Bool). All (λ (s : KeptSite). s.place < length ts) (kept_for sort d.sites.items)) (sym taken)
        (All-filter (λ (s : KeptSite). is_of sort s.kind) (λ (s : KeptSite). s.place < length d.taken.items) d.sites.items is.places));
    aims = subst (All (λ (s : KeptSite). IsAimed (length n.lists.items) s.aim)) (sym sites)
        (subst (λ (ls : List (List ℕ)). All (λ (s : KeptSite). IsAimed (length ls) s.aim) (kept_for sort d.sites.items)) (sym lists)
        (All-filter (λ (s : KeptSite). is_of sort s.kind) (λ (s : KeptSite). IsAimed (length d.lists.items) s.aim) d.sites.items is.aims));
    lists = subst (All (All (λ (t : ℕ). t < length n.taken.items))) (sym lists)
        (subst (λ (ts : List Bool). All (All (λ (t : ℕ). t < length ts)) d.lists.items) (sym taken) is.lists);
    begun = ap length begun ∙ is.begun ∙ sym (ap length taken);
  }
