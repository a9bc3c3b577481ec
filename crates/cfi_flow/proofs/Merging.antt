-- Lists that join what the sets of sites join, site by site.
use Rattle.std.proofs.Common.{◌≡◌, ◌==◌, not, ◌⊎◌, ℕ, ◌+◌, ◌<◌, ◌≤◌, Bool, true, false, ◌&&◌, ◌||◌, List, [], ◌∷◌, ◌++◌, length, get_or, Option, Some, inl, inr, sym, ap, subst, ◌∙◌, arith}
use Rattle.std.specs.List.{Contains}
use Rattle.std.proofs.Math.ListN.{get_or-append}
use Rattle.std.proofs.Math.Seq.{get_or-append_seam}
use Rattle.std.proofs.lemmas.Bool.{and_from, and_parts, cases_lt, or_cases, or_left, or_right}
use Rattle.std.proofs.lemmas.List.{get_or_default, length-append}
use Rattle.std.proofs.lemmas.List.Elements.{Contains-append_cases, Contains-append_left}
use Rattle.cfi_class.specs.Classes.{AreInOne, IsIn, Joined, here}
use Rattle.cfi_class.proofs.Numbers.{chained}
use Rattle.cfi_class.proofs.Sets.{list_there}
use Rattle.cfi_flow.specs.declared.span.Span.{Span}
use Rattle.cfi_flow.specs.Below.{where_below}
use Rattle.cfi_flow.specs.Joins.{AreJoining, JoinAs}
use Rattle.cfi_flow.specs.Kept.{is_open, mark_at, open_targets}
use Rattle.cfi_flow.specs.Pointed.{is_start}
use Rattle.cfi_flow.specs.Spans.{in_span}
use Rattle.cfi_flow.proofs.Pointing.{found}
use Rattle.cfi_flow.proofs.Rising.{below_found}
use Rattle.cfi_flow.proofs.Spanning.{in_parts, in_yes}

-- a list behind others
old_in : (lists : List (List ℕ)) (xs : List ℕ) (a b : ℕ) → AreInOne lists a b → AreInOne (lists ++ xs ∷ []) a b
old_in lists xs a b h =
    let same = get_or-append lists (xs ∷ []) [] h.0 (list_there lists h.0 a h.1) in
    (h.0, subst (λ (ys : List ℕ). Contains ys a) (sym same) h.1, subst (λ (ys : List ℕ). Contains ys b) (sym same) h.2)

new_in : (lists : List (List ℕ)) (xs : List ℕ) (a b : ℕ) → Contains xs a → Contains xs b → AreInOne (lists ++ xs ∷ []) a b
new_in lists xs a b p q =
    let same = get_or-append_seam lists xs [] [] in
    (length lists, subst (λ (ys : List ℕ). Contains ys a) (sym same) p, subst (λ (ys : List ℕ). Contains ys b) (sym same) q)

in_more : (lists : List (List ℕ)) (xs : List ℕ) (a b : ℕ) → AreInOne (lists ++ xs ∷ []) a b → AreInOne lists a b ⊎ (Contains xs a × Contains xs b)
in_more lists xs a b h =
    let k : ℕ = h.0 in
    elim (cases_lt k (length lists)) [
      | inl less ↦
          let same = get_or-append lists (xs ∷ []) [] k less in
          inl (k, subst (λ (ys : List ℕ). Contains ys a) same h.1, subst (λ (ys : List ℕ). Contains ys b) same h.2)
      | inr more ↦
          let last : k ≡ length lists = omega (arith, list_there (lists ++ xs ∷ []) k a h.1, length-append lists (xs ∷ [])) in
          let same = ap (λ (n : ℕ). get_or (lists ++ xs ∷ []) n []) last ∙ get_or-append_seam lists xs [] [] in
          inr (subst (λ (ys : List ℕ). Contains ys a) same h.1, subst (λ (ys : List ℕ). Contains ys b) same h.2)
    ]

abbrev Has : List (List ℕ) → List ℕ → ℕ → ℕ → Type 0
Has lists group a b = AreInOne lists a b ⊎ (Contains group a × Contains group b)

module _ (sets : List (List ℕ)) (taken begun : List Bool) (k : ℕ) (lists : List (List ℕ)) (group : List ℕ) (last : Option Span)
    (is : AreJoining sets taken begun k lists group last) where
  -- what is kept of the sites before, and what joins the site with index k
  whole_more : (ls : List (List ℕ)) (xs : List ℕ) → ((a b : ℕ) → Has lists group a b → Has ls xs a b)
      → ((a b : ℕ) → IsIn sets k a → IsIn sets k b → Has ls xs a b)
      → (i a b : ℕ) → i < k + 1 → IsIn sets i a → IsIn sets i b → Has ls xs a b
  whole_more ls xs keeps has i a b less p q = elim (cases_lt i k) [
    | inl before ↦ keeps a b (is.whole i a b before p q)
    | inr after ↦
        let same : i ≡ k = omega arith in
        has a b (subst (λ (m : ℕ). IsIn sets m a) same p) (subst (λ (m : ℕ). IsIn sets m b) same q)
  ]

  pub list_more : (list : List ℕ) → get_or sets k [] ≡ list → AreJoining sets taken begun (k + 1) (lists ++ list ∷ []) group last
  list_more list at =
      let to_set : (a : ℕ) → Contains list a → IsIn sets k a = λ a h. subst (λ (xs : List ℕ). Contains xs a) (sym at) h in
      let from_set : (a : ℕ) → IsIn sets k a → Contains list a = λ a h. subst (λ (xs : List ℕ). Contains xs a) at h in
      record {
        apart = λ a b h. elim (in_more lists list a b h) [
          | inl old ↦ is.apart a b old
          | inr new ↦ here (k, to_set a new.0, to_set b new.1)
        ];
        one = is.one;
        whole = whole_more (lists ++ list ∷ []) group
            (λ a b h. elim h [ inl old ↦ inl (old_in lists list a b old) | inr two ↦ inr two ])
            (λ a b p q. inl (new_in lists list a b (from_set a p) (from_set b q)));
        latest = is.latest;
      }

  -- a new list of all that is open to a site
  pub new_more : (s : Span) (xs : List ℕ) → get_or sets k [] ≡ open_targets taken begun s
      → ((t : ℕ) → Contains xs t → Contains (open_targets taken begun s) t) → ((t : ℕ) → Contains (open_targets taken begun s) t → Contains xs t)
      → AreJoining sets taken begun (k + 1) (lists ++ group ∷ []) xs (Some s)
  new_more s xs at to back =
      let to_set : (a : ℕ) → Contains xs a → IsIn sets k a = λ a h. subst (λ (ys : List ℕ). Contains ys a) (sym at) (to a h) in
      let from_set : (a : ℕ) → IsIn sets k a → Contains xs a = λ a h. back a (subst (λ (ys : List ℕ). Contains ys a) at h) in
      record {
        apart = λ a b h. elim (in_more lists group a b h) [
          | inl old ↦ is.apart a b old
          | inr two ↦ is.one a b two.0 two.1
        ];
        one = λ a b p q. here (k, to_set a p, to_set b q);
        whole = whole_more (lists ++ group ∷ []) xs
            (λ a b h. elim h [ inl old ↦ inl (old_in lists group a b old) | inr two ↦ inl (new_in lists group a b two.0 two.1) ])
            (λ a b p q. inr (from_set a p, from_set b q));
        latest = back;
      }

  -- what is new of a site, where the list has a target of it
  pub grown_more : (s : Span) (more : List ℕ) (t : ℕ) → get_or sets k [] ≡ open_targets taken begun s
      → Contains group t → Contains (open_targets taken begun s) t
      → ((u : ℕ) → Contains more u → Contains (open_targets taken begun s) u)
      → ((u : ℕ) → Contains (open_targets taken begun s) u → Contains (group ++ more) u)
      → AreJoining sets taken begun (k + 1) lists (group ++ more) (Some s)
  grown_more s more t at in_group in_site to back =
      let to_set : (a : ℕ) → Contains (open_targets taken begun s) a → IsIn sets k a = λ a h. subst (λ (ys : List ℕ). Contains ys a) (sym at) h in
      let from_set : (a : ℕ) → IsIn sets k a → Contains (group ++ more) a = λ a h. back a (subst (λ (ys : List ℕ). Contains ys a) at h) in
      let by_site : (a b : ℕ) → Contains (open_targets taken begun s) a → Contains (open_targets taken begun s) b → Joined sets a b =
      λ a b p q. here (k, to_set a p, to_set b q) in
      record {
        apart = is.apart;
        one = λ a b p q. elim (Contains-append_cases group more a p) [
          | inl old_a ↦ elim (Contains-append_cases group more b q) [
            | inl old_b ↦ is.one a b old_a old_b
            | inr new_b ↦ chained sets a t b (is.one a t old_a in_group) (by_site t b in_site (to b new_b))
          ]
          | inr new_a ↦ elim (Contains-append_cases group more b q) [
            | inl old_b ↦ chained sets a t b (by_site a t (to a new_a) in_site) (is.one t b in_group old_b)
            | inr new_b ↦ by_site a b (to a new_a) (to b new_b)
          ]
        ];
        whole = whole_more lists (group ++ more)
            (λ a b h. elim h [ inl old ↦ inl old | inr two ↦ inr (Contains-append_left group more a two.0, Contains-append_left group more b two.1) ])
            (λ a b p q. inr (from_set a p, from_set b q));
        latest = back;
      }

  -- a site whose targets the list has
  pub same_more : ((u : ℕ) → IsIn sets k u → Contains group u) → AreJoining sets taken begun (k + 1) lists group last
  same_more there = record {
    apart = is.apart;
    one = is.one;
    whole = whole_more lists group (λ a b h. h) (λ a b p q. inr (there a p, there b q));
    latest = is.latest;
  }

pub all_joined : (sets : List (List ℕ)) (taken begun : List Bool) (lists : List (List ℕ)) (group : List ℕ) (last : Option Span)
    → AreJoining sets taken begun (length sets) lists group last → JoinAs sets (lists ++ group ∷ [])
all_joined sets taken begun lists group last is = record {
  apart = λ a b h. elim (in_more lists group a b h) [
    | inl old ↦ is.apart a b old
    | inr two ↦ is.one a b two.0 two.1
  ];
  whole = λ a b h. elim (is.whole h.0 a b (list_there sets h.0 a h.1) h.1 h.2) [
    | inl old ↦ old_in lists group a b old
    | inr two ↦ new_in lists group a b two.0 two.1
  ];
}

-- what is open to a site
pub open_in : (taken begun : List Bool) (s : Span) (t : ℕ) → Contains (open_targets taken begun s) t
    → (t < length taken) × (mark_at taken t ≡ true) × ((mark_at begun t || in_span s t) ≡ true)
open_in taken begun s t h =
    let of = found (is_open taken begun s) (length taken) t h in
    let parts = and_parts (mark_at taken t) (mark_at begun t || in_span s t) of.1 in
    (of.0, parts.0, parts.1)

pub open_from : (taken begun : List Bool) (s : Span) (t : ℕ) → t < length taken → mark_at taken t ≡ true → (mark_at begun t || in_span s t) ≡ true
    → Contains (open_targets taken begun s) t
open_from taken begun s t below marked one = below_found (is_open taken begun s) (length taken) t below (and_from _ _ marked one)

module _ (taken begun : List Bool) where
  abbrev pub starts : List ℕ
  starts = where_below (is_start taken begun) (length taken)

  abbrev pub inside : Span → List ℕ
  inside s = where_below (λ t. mark_at taken t && in_span s t) (length taken)

  pub start_open : (s : Span) (t : ℕ) → Contains starts t → Contains (open_targets taken begun s) t
  start_open s t h =
      let of = found (is_start taken begun) (length taken) t h in
      let parts = and_parts (mark_at taken t) (mark_at begun t) of.1 in
      open_from taken begun s t of.0 parts.0 (or_left (mark_at begun t) (in_span s t) parts.1)

  -- what is open to a site past what was open to the one before it
  pub inside_open : (r s : Span) → ((t : ℕ) → in_span r t ≡ true → in_span s t ≡ true) → (t : ℕ) → Contains (inside r) t → Contains (open_targets taken begun s) t
  inside_open r s less t h =
      let of = found (λ u. mark_at taken u && in_span r u) (length taken) t h in
      let parts = and_parts (mark_at taken t) (in_span r t) of.1 in
      open_from taken begun s t of.0 parts.0 (or_right (mark_at begun t) (in_span s t) (less t parts.1))

  pub open_cases : (s : Span) (t : ℕ) → Contains (open_targets taken begun s) t → Contains starts t ⊎ Contains (inside s) t
  open_cases s t h =
      let of = open_in taken begun s t h in
      elim (or_cases (mark_at begun t) (in_span s t) of.2) [
        | inl begins ↦ inl (below_found (is_start taken begun) (length taken) t of.0 (and_from _ _ of.1 begins))
        | inr spans ↦ inr (below_found (λ u. mark_at taken u && in_span s u) (length taken) t of.0 (and_from _ _ of.1 spans))
      ]

  -- of what is open to a site, each is open to the one before it or past its end
  pub open_past : (l s r : Span) → l.from ≤ s.from → ((t : ℕ) → s.from ≤ t → l.to ≤ t → r.from ≤ t) → r.to ≡ s.to
      → (t : ℕ) → Contains (open_targets taken begun s) t → Contains (open_targets taken begun l) t ⊎ Contains (inside r) t
  open_past l s r order least end t h = elim (open_cases s t h) [
    | inl start ↦ inl (start_open l t start)
    | inr spans ↦
        let of = found (λ u. mark_at taken u && in_span s u) (length taken) t spans in
        let parts = and_parts (mark_at taken t) (in_span s t) of.1 in
        let at = in_parts s t parts.1 in
        let low : s.from ≤ t = at.0 in
        let high : t < s.to = at.1 in
        elim (cases_lt t l.to) [
          | inl before ↦ inl (open_from taken begun l t of.0 parts.0 (or_right (mark_at begun t) (in_span l t) (in_yes l t (omega arith) before)))
          | inr after ↦ inr (below_found (λ u. mark_at taken u && in_span r u) (length taken) t of.0 (and_from _ _ parts.0 (in_yes r t (least t low after) (omega arith))))
        ]
  ]

  -- a place in what two spans have in common
  pub common_open : (l s c : Span) → l.from ≤ s.from → c.from ≡ s.from → ((t : ℕ) → t < c.to → (t < s.to) × (t < l.to))
      → (t : ℕ) → Contains (inside c) t → Contains (open_targets taken begun l) t × Contains (open_targets taken begun s) t
  common_open l s c order from to t h = (
    inside_open c l (λ u e. let at = in_parts c u e in let low : c.from ≤ u = at.0 in in_yes l u (omega arith) (to u at.1).1) t h,
    inside_open c s (λ u e. let at = in_parts c u e in let low : c.from ≤ u = at.0 in in_yes s u (omega arith) (to u at.1).0) t h,
  )

  pub empty_open : (l s : Span) → s.to ≤ s.from → (t : ℕ) → Contains (open_targets taken begun s) t → Contains (open_targets taken begun l) t
  empty_open l s none t h = elim (open_cases s t h) [
    | inl start ↦ start_open l t start
    | inr spans ↦
        let of = found (λ u. mark_at taken u && in_span s u) (length taken) t spans in
        let at = in_parts s t (and_parts (mark_at taken t) (in_span s t) of.1).1 in
        let low : s.from ≤ t = at.0 in
        let high : t < s.to = at.1 in
        absurd (omega arith)
  ]

pub some_member : (xs : List ℕ) → 0 < length xs → (t : ℕ) × Contains xs t
some_member xs some = (get_or xs 0 0, (0, some, get_or_default xs 0 (get_or xs 0 0) 0 some))

pub not_empty : (xs : List ℕ) (b : Bool) → b ≡ (length xs == 0) → not b ≡ true → 0 < length xs
not_empty [] b is more = let both : false ≡ true = sym (ap not is) ∙ more in absurd (cc)
not_empty (x ∷ xs) b is more = omega arith
