-- The drawing of a program's sites, place by place.
use Rattle.std.proofs.Common.{◌≡◌, ℕ, ◌+◌, ◌<◌, Bool, false, ◌&&◌, ◌||◌, List, [], ◌∷◌, ◌++◌, length, get_or, Option, Some, None, refl, sym, ap, ◌∙◌, add-one}
use Rattle.std.proofs.lemmas.List.{append-nil, get_or-map, length-map}
use Rattle.std.proofs.lemmas.List.Quantifiers.{position-Some}
use Rattle.std.proofs.lemmas.Option.{slice_get-get_or}
use Rattle.std.proofs.Math.Bool.{or-false}
use Rattle.obj_program.specs.declared.item.Item.{Item}
use Rattle.obj_program.specs.Program.{Program, count, item_of, no_item}
use Rattle.cfi_graph.specs.declared.line.SiteKind.{SiteKind}
use Rattle.cfi_graph.specs.declared.line.SiteKind.TheVariants as site
use Rattle.cfi_policy.specs.declared.policy.PolicyLine.{PolicyLine}
use Rattle.cfi_flow.specs.declared.draw.Drawing.{Drawing}
use Rattle.cfi_flow.specs.declared.span.Span.{Span}
use Rattle.cfi_flow.specs.Drawn.{IsDrawn, IsOf, line_for}
use Rattle.cfi_flow.specs.Below.{where_below}
use Rattle.cfi_flow.specs.Kept.{mark_at, open_targets, site_with, sites_of}
use Rattle.cfi_flow.specs.Policy.{allowed, names_site, no_line, targets_by, targets_under}
use Rattle.cfi_flow.specs.Sites.{RawSite, is_function, reached, may_reach, site_at, site_kind, sites_below}
use Rattle.cfi_flow.specs.Spans.{goes_inside, in_span}
use Rattle.cfi_class.proofs.Finding.{find_none, find_some}
use Rattle.cfi_flow.proofs.Listing.{below_same}

module _ (program : Program) (lines : List PolicyLine) (k : ℕ) where
  pub by_line : (kind : SiteKind) (j : ℕ) → Some j ≡ line_for program lines k → allowed program (get_or lines j no_line) ≡ targets_under program lines kind k
  by_line kind j e =
      let inside = (position-Some (names_site program k) lines j no_line (sym e)).0 in
      sym (ap (targets_by program kind k) (find_some (names_site program k) lines j (sym e) ∙ slice_get-get_or lines j no_line inside))

  pub line_there : (j : ℕ) → Some j ≡ line_for program lines k → j < length lines
  line_there j e = (position-Some (names_site program k) lines j no_line (sym e)).0

  pub by_none : (kind : SiteKind) → None ≡ line_for program lines k → reached program kind k ≡ targets_under program lines kind k
  by_none kind e = sym (ap (targets_by program kind k) (find_none (names_site program k) lines (sym e)))

one_reached : (program : Program) (kind : SiteKind) (k t : ℕ)
    → ((item_of program t).taken && (is_function program (item_of program t) || goes_inside program kind k t)) ≡ may_reach program kind (item_of program k) (item_of program t)
one_reached program site.Call k t = ap (λ (b : Bool). (item_of program t).taken && b) (or-false (is_function program (item_of program t)))
one_reached program site.Jump k t = refl

-- what a site may go to that has no line
pub opened : (program : Program) (drawing : Drawing) (kind : SiteKind) (k : ℕ) (span : Span) → IsOf program drawing
    → ((t : ℕ) → t < count program → in_span span t ≡ goes_inside program kind k t)
    → open_targets drawing.taken.items drawing.begun.items span ≡ reached program kind k
opened program drawing kind k span of inside =
    let many : length drawing.taken.items ≡ count program = ap length of.taken ∙ length-map program.items (λ (i : Item). i.taken) in
    ap (where_below (λ t. mark_at drawing.taken.items t && (mark_at drawing.begun.items t || in_span span t))) many
    ∙ below_same _ _ (count program) (λ t below.
    let taken : mark_at drawing.taken.items t ≡ (item_of program t).taken =
    ap (λ (marks : List Bool). mark_at marks t) of.taken ∙ get_or-map (λ (i : Item). i.taken) program.items t no_item false below in
    ap (λ (b : Bool). b && (mark_at drawing.begun.items t || in_span span t)) taken
    ∙ ap (λ (b : Bool). (item_of program t).taken && (b || in_span span t)) (of.begun.each t below)
    ∙ ap (λ (b : Bool). (item_of program t).taken && (is_function program (item_of program t) || b)) (inside t below)
    ∙ one_reached program kind k t)

-- one place more
pub step : (program : Program) (given : SiteKind → ℕ → List ℕ) (k : ℕ) (o : Option SiteKind) → site_kind (item_of program k).kind ≡ o
    → sites_below program given (k + 1) ≡ sites_below program given k ++ site_at given k o
unfolding sites_below
step program given k o e = rw (add-one, e) refl

pub drawn_site : (program : Program) (lines : List PolicyLine) (k : ℕ) (kind : SiteKind) (old new : Drawing) → IsDrawn program lines k old
    → site_kind (item_of program k).kind ≡ Some kind
    → sites_of new ≡ sites_of old ++ site_with k kind (targets_under program lines kind k) ∷ []
    → IsOf program new → IsDrawn program lines (k + 1) new
drawn_site program lines k kind old new drawn is sites of = record {
  sites = sites
      ∙ ap (λ (xs : List RawSite). xs ++ site_with k kind (targets_under program lines kind k) ∷ []) drawn.sites
      ∙ sym (step program (targets_under program lines) k (Some kind) is);
  of = of;
}

pub drawn_none : (program : Program) (lines : List PolicyLine) (k : ℕ) (drawing : Drawing) → IsDrawn program lines k drawing
    → site_kind (item_of program k).kind ≡ None → IsDrawn program lines (k + 1) drawing
drawn_none program lines k drawing drawn is = record {
  sites = drawn.sites ∙ sym (append-nil _) ∙ sym (step program (targets_under program lines) k None is);
  of = drawn.of;
}

pub drawn_first : (program : Program) (lines : List PolicyLine) (drawing : Drawing) → sites_of drawing ≡ [] → IsOf program drawing
    → IsDrawn program lines 0 drawing
unfolding sites_below
drawn_first program lines drawing none of = record { sites = none; of = of }
