-- Lines of a policy: which are wrong, told by a table of the lines before them.
use Rattle.std.proofs.Common.{◌≡◌, ◌==◌, ℕ, ◌+◌, ◌<◌, Bool, true, false, not, ◌&&◌, ◌||◌, if◌then◌else◌, List, length, take, Option, Some, None, option_and_then, inl, inr, refl, sym, ap, subst, ◌∙◌}
use Rattle.std.specs.Option.{is_none, is_some}
use Rattle.std.proofs.lemmas.Bool.{cases_Bool}
use Rattle.std.proofs.lemmas.List.Quantifiers.{position-Some}
use Rattle.least.specs.First.{first_below}
use Rattle.least.proofs.Firsts.{first_found}
use Rattle.obj_program.specs.Program.{Program, count, is_end, item_of, is_spot, no_item, place_of}
use Rattle.cfi_policy.specs.declared.policy.PlaceName.{PlaceName}
use Rattle.cfi_policy.specs.declared.policy.PolicyLine.{PolicyLine}
use Rattle.cfi_flow.specs.Drawn.{free_site, line_for, site_if_free}
use Rattle.cfi_flow.specs.Policy.{if_instruction, instruction_at, is_free_site, is_number, is_wrong_line, line_of, misses_target, names_site, no_line, place_named, wrong_from}
use Rattle.cfi_flow.specs.Sites.{site_kind}
use Rattle.cfi_class.specs.Tables.{IsTable, entry, noted}
use Rattle.cfi_class.proofs.Finding.{more_noted}
use Rattle.obj_input.specs.Names.{find_spot}

-- what is named is a place
if_there : (program : Program) (o : Option ℕ) (k : ℕ) → ((j : ℕ) → o ≡ Some j → j < count program)
    → option_and_then (if_instruction program) o ≡ Some k → k < count program
if_there program None k there e = absurd (cc)
if_there program (Some j) k there e = elim (cases_Bool (is_end (item_of program j).kind)) [
  | inl ends ↦ let no : None ≡ Some k = rw ends at e in absurd (cc)
  | inr stays ↦
      let is : Some j ≡ Some k = rw stays at e in
      let same : j ≡ k = cc in
      subst (λ (n : ℕ). n < count program) same (there j refl)
]

pub instruction_there : (program : Program) (spot : ℕ × ℕ) (k : ℕ) → instruction_at program spot ≡ Some k → k < count program
instruction_there program spot k e =
    if_there program (place_of program.items spot.0 spot.1) k
    (λ j is. (position-Some (is_spot spot.0 spot.1) program.items j no_item is).0) e

from_there : (program : Program) (distance : ℕ) (o : Option (ℕ × ℕ)) (k : ℕ)
    → option_and_then (λ (spot : ℕ × ℕ). instruction_at program (spot.0, spot.1 + distance)) o ≡ Some k → k < count program
from_there program distance None k e = absurd (cc)
from_there program distance (Some spot) k e = instruction_there program (spot.0, spot.1 + distance) k e

pub named_there : (program : Program) (name : PlaceName) (k : ℕ) → place_named program name ≡ Some k → k < count program
unfolding place_named
named_there program name k e = from_there program name.offset (find_spot program.names name.symbol) k e

negated : (w b : Bool) → not w ≡ b → w ≡ not b
negated true b e = ap not e
negated false b e = ap not e

de_morgan : (f m : Bool) → (f && not m) ≡ not (not f || m)
de_morgan true true = refl
de_morgan true false = refl
de_morgan false true = refl
de_morgan false false = refl

if_some : (b : Bool) (i : ℕ) → is_some (if b then Some i else None) ≡ b
if_some true i = refl
if_some false i = refl

module _ (program : Program) (lines : List PolicyLine) (j : ℕ) (table : List (Option ℕ)) (is : IsTable (line_for program (take j lines)) (count program) table) (line : PolicyLine) where
  judged : (o : Option ℕ) → ((i : ℕ) → o ≡ Some i → i < count program)
      → is_some (option_and_then (site_if_free program table line) o) ≡ not (not (is_free_site program lines j o) || misses_target program line)
  judged None there = refl
  judged (Some i) there =
      if_some (is_some (site_kind (item_of program i).kind) && is_none (entry table i) && not (misses_target program line)) i
      ∙ ap (λ (e : Option ℕ). is_some (site_kind (item_of program i).kind) && is_none e && not (misses_target program line)) (is.each i (there i refl))
      ∙ de_morgan (is_free_site program lines j (Some i)) (misses_target program line)

  same_place : (o : Option ℕ) (k : ℕ) → option_and_then (site_if_free program table line) o ≡ Some k → o ≡ Some k
  same_place None k e = e
  same_place (Some i) k e = elim (cases_Bool (is_some (site_kind (item_of program i).kind) && is_none (entry table i) && not (misses_target program line))) [
    | inl holds ↦ rw holds at e
    | inr fails ↦ let no : None ≡ Some k = rw fails at e in absurd (cc)
  ]

  module _ (at : line_of lines j ≡ line) where
    wrong_is : is_some (free_site program table line) ≡ not (is_wrong_line program lines j)
    wrong_is =
        judged (place_named program line.site) (λ i. named_there program line.site i)
        ∙ ap (λ (l : PolicyLine). not (not (is_free_site program lines j (place_named program l.site)) || misses_target program l)) (sym at)

    pub is_right : (k : ℕ) → free_site program table line ≡ Some k → is_wrong_line program lines j ≡ false
    is_right k e = negated (is_wrong_line program lines j) true (sym wrong_is ∙ ap is_some e)

    pub is_wrong : free_site program table line ≡ None → is_wrong_line program lines j ≡ true
    is_wrong e = negated (is_wrong_line program lines j) false (sym wrong_is ∙ ap is_some e)

    -- the table with one line more
    pub more_lines : (k : ℕ) (new : List (Option ℕ)) → j < length lines → free_site program table line ≡ Some k → length new ≡ length table
        → ((i : ℕ) → entry new i ≡ noted (entry table i) (k == i) j) → IsTable (line_for program (take (j + 1) lines)) (count program) new
    more_lines k new below e same each =
        let place = same_place (place_named program line.site) k e in
        more_noted (names_site program) lines (count program) j no_line table new below is same
        (λ i. each i ∙ ap (λ (b : Bool). noted (entry table i) b j)
        (ap (is_number i) (sym place) ∙ ap (λ (l : PolicyLine). names_site program i l) (sym at)))

pub wrong_at : (first : ℕ) (program : Program) (lines : List PolicyLine) (j : ℕ) → j < length lines → first_below (is_wrong_line program lines) j ≡ None
    → is_wrong_line program lines j ≡ true → wrong_from first program lines ≡ Some (j + first)
unfolding wrong_from
wrong_at first program lines j below none wrong = rw (first_found (is_wrong_line program lines) j (length lines) below none wrong) refl

pub none_wrong : (first : ℕ) (program : Program) (lines : List PolicyLine) (j : ℕ) → j ≡ length lines → first_below (is_wrong_line program lines) j ≡ None
    → wrong_from first program lines ≡ None
unfolding wrong_from
none_wrong first program lines j all none = rw (← all, none) refl
