-- Words of private contracts: spans of places, and how far the functions reach that cover a place.
use Rattle.std.specs.Prelude.{◌≡◌, ℕ, ◌+◌, ◌<◌, ◌≤◌, nat_lt, nat_le, Bool, false, ◌==◌, ◌&&◌, List, length, slice_index, take}
use Rattle.std.specs.List.{list_any}
use Rattle.obj_input.specs.declared.parts.Func.{Func}
use Rattle.obj_program.specs.Program.{Program, count, item_of}
use Rattle.cfi_graph.specs.declared.line.SiteKind.{SiteKind}
use Rattle.cfi_graph.specs.declared.line.SiteKind.TheVariants as site
use Rattle.cfi_flow.specs.declared.span.Span.{Span}
use Rattle.cfi_flow.specs.Sites.{are_in_one, covers}

abbrev pub in_span : Span → ℕ → Bool
in_span s t = nat_le s.from t && nat_lt t s.to

-- some span has both places
abbrev pub are_in_span : List Span → ℕ → ℕ → Bool
are_in_span spans a b = list_any (λ s. in_span s a && in_span s b) spans

-- spans that have two places where these functions cover both
abbrev pub AreSpans : Program → List Func → List Span → Type 0
AreSpans program funcs spans =
    (a b : ℕ) → a < count program → b < count program →
    are_in_span spans a b ≡ list_any (λ f. covers (item_of program a) f && covers (item_of program b) f) funcs

-- a span begins at a place and ends past another
abbrev pub begins_past : ℕ → ℕ → Span → Bool
begins_past k t s = s.from == k && nat_lt t s.to

-- of each place the farthest end of the spans that begin there
pub record AreEnds (places : ℕ) (spans : List Span) (ends : List ℕ) : Type 0 where
  pub size : length ends ≡ places
  pub each : (k t : ℕ) → k < places → nat_lt t (slice_index ends k) ≡ list_any (begins_past k t) spans

abbrev pub IsRising : List ℕ → Type 0
IsRising xs = (i j : ℕ) → i ≤ j → j < length xs → slice_index xs i ≤ slice_index xs j

-- of each number the greatest up to it
pub record AreFarthest (ends farthest : List ℕ) : Type 0 where
  pub size : length farthest ≡ length ends
  pub each : (k t : ℕ) → k < length ends → nat_lt t (slice_index farthest k) ≡ list_any (nat_lt t) (take (k + 1) ends)
  pub rising : IsRising farthest

-- of each place how far the functions reach that cover it, or begin before it
pub record IsReach (program : Program) (reach : List ℕ) : Type 0 where
  pub size : length reach ≡ count program
  pub rising : IsRising reach
  pub each : (a b : ℕ) → a ≤ b → b < count program → nat_lt b (slice_index reach a) ≡ are_in_one program (item_of program a) (item_of program b)

-- where a site of a kind may go inside the functions that cover it
abbrev pub goes_inside : Program → SiteKind → ℕ → ℕ → Bool
goes_inside program site.Call k t = false
goes_inside program site.Jump k t = are_in_one program (item_of program k) (item_of program t)

-- the same of the first i numbers, with the greatest of them
pub record IsSoFar (ends : List ℕ) (i end : ℕ) (farthest : List ℕ) : Type 0 where
  pub size : length farthest ≡ i
  pub each : (k t : ℕ) → k < i → nat_lt t (slice_index farthest k) ≡ list_any (nat_lt t) (take (k + 1) ends)
  pub top : (t : ℕ) → nat_lt t end ≡ list_any (nat_lt t) (take i ends)
  pub rising : IsRising farthest
  pub most : (k : ℕ) → k < i → slice_index farthest k ≤ end

-- the first i numbers are raised to the greatest up to each, and the others are left
pub record IsRaised (ends : List ℕ) (i end : ℕ) (now : List ℕ) : Type 0 where
  pub so_far : IsSoFar ends i end (take i now)
  pub size : length now ≡ length ends
  pub left : (k : ℕ) → i ≤ k → slice_index now k ≡ slice_index ends k
