-- Which places have words before their units, under graphs of any version: targets of classes, and entries that are no leaves. What computed
-- calls reach is both. No place in a leaf has any, and none that only the place before it leads to.
use Rattle.std.proofs.Common.{◌≡◌, ℕ, ◌+◌, ◌*◌, inl, inr, Bool, true, false, List, [], ◌∷◌, Option, refl, sym, ap, ◌∙◌}
use Rattle.std.specs.Prelude.{◌==◌, ◌||◌, not, if◌then◌else◌, slice_index_or}
use Rattle.std.specs.List.{list_any}
use Rattle.std.proofs.lemmas.Bool.{and_from, and_left, and_parts, and_right, false_from_ne_true, not-true, not_from_false, not_from_true, or_cases, or_left, or_parts, or_right, true≢false}
use Rattle.cfi_writer.proofs.Prelude.{GraphVersion, OneLabel, TwoLabels, CalleeSaves, Item, Program, count, is_end, item_of, Side, is_of, is_target, is_target_of, Entered, aims_at, call_target, if_kind, is_call, is_call_target, is_called, is_entry, serves_calls, enters, lead_size, lead_words, begins, in_leaf, is_leaf, is_spoilt_by, is_direct_target, is_entered}
use Rattle.cfi_graph.specs.declared.line.SiteKind.TheVariants as site
use Rattle.cfi_leads.proofs.Ends.{entry_begins}
use Rattle.cfi_leads.proofs.Tables.{head_of_first}

-- where one test implies another, so it does of some of a list
any_of : {A : Type 0} (p q : A → Bool) → ((x : A) → p x ≡ true → q x ≡ true) → (xs : List A) → list_any p xs ≡ true → list_any q xs ≡ true
any_of p q each [] some = absurd (cc)
any_of p q each (x ∷ xs) some =
    elim (or_cases (p x) (list_any p xs) some) [
      | inl here ↦ or_left (q x) (list_any q xs) (each x here)
      | inr later ↦ or_right (q x) (list_any q xs) (any_of p q each xs later)
    ]

-- a target of computed calls is a class's target
pub call_targets : (sides : List Side) (k : ℕ) → is_call_target sides k ≡ true → is_target sides k ≡ true
call_targets sides k =
    any_of (serves_calls k) (is_target_of k) (λ side serves. (and_parts (is_of side.sort site.Call) (is_target_of k side) serves).1) sides

pub no_call_target : (sides : List Side) (k : ℕ) → is_target sides k ≡ false → is_call_target sides k ≡ false
no_call_target sides k none = false_from_ne_true (is_call_target sides k) (λ serves. true≢false (sym (call_targets sides k serves) ∙ none))

-- and what a direct call goes to is a direct target
aims_if : (b : Bool) (k : ℕ) (o : Option ℕ) → aims_at k (if_kind b o) ≡ true → aims_at k o ≡ true
aims_if true k o aims = aims
aims_if false k o aims = absurd (cc)

pub called_direct : (program : Program) (k : ℕ) → is_called program k ≡ true → is_direct_target program k ≡ true
called_direct program k =
    any_of (λ (i : Item). aims_at k (call_target i)) (λ (i : Item). aims_at k i.target) (λ i. aims_if (is_call i.kind) k i.target) program.items

-- so entries may be entered
pub entry_entered : (of : Entered) (k : ℕ) → is_entry of k ≡ true → is_entered of.program of.closed of.entry k ≡ true
entry_entered of k entry =
    let target = is_target of.closed.sides k in
    let taken = slice_index_or of.closed.taken k false in
    let direct = is_direct_target of.program k in
    elim (or_cases (k == of.entry) (is_called of.program k || is_call_target of.closed.sides k) entry) [
      | inl first ↦ or_left (k == of.entry) (direct || (target || taken)) first
      | inr reached ↦
          or_right (k == of.entry) (direct || (target || taken)) (
          elim (or_cases (is_called of.program k) (is_call_target of.closed.sides k) reached) [
            | inl called ↦ or_left direct (target || taken) (called_direct of.program k called)
            | inr serves ↦ or_right direct (target || taken) (or_left target taken (call_targets of.closed.sides k serves))
          ]
          )
    ]

-- what computed calls reach saves their sites
pub call_enters : (of : Entered) (k : ℕ) → is_call_target of.closed.sides k ≡ true → enters of k ≡ true
call_enters of k serves =
    let entry : is_entry of k ≡ true = or_right (k == of.entry) _ (or_right (is_called of.program k) (is_call_target of.closed.sides k) serves) in
    let other : is_leaf of k ≡ false =
    and_right (is_entry of k) _
    (and_left (not (is_target of.closed.sides k)) (not (is_spoilt_by of k (count of.program))) (not_from_true (is_target of.closed.sides k) (call_targets of.closed.sides k serves))) in
    and_from (is_entry of k) (not (is_leaf of k)) entry (not_from_false (is_leaf of k) other)

-- no words stand before what is no target and saves no site
none_by : (target saves calls : Bool) → target ≡ false → saves ≡ false → calls ≡ false → (if target then 1 else 0) + (if saves then 6 else 0) + (if calls then 1 else 0) ≡ 0
none_by false false false target saves calls = refl
none_by true saves calls is_target is_entry are_calls = absurd (cc)
none_by false true calls is_target is_entry are_calls = absurd (cc)
none_by false false true is_target is_entry are_calls = absurd (cc)

no_words : (version : GraphVersion) (of : Entered) (k : ℕ) → is_target of.closed.sides k ≡ false → enters of k ≡ false → lead_words version of k ≡ 0
no_words OneLabel of k none passed = rw none refl
no_words TwoLabels of k none passed = rw none refl
no_words CalleeSaves of k none passed =
    none_by (is_target of.closed.sides k) (enters of k) (is_call_target of.closed.sides k) none passed (no_call_target of.closed.sides k none)

pub no_lead : (of : Entered) (k : ℕ) → is_target of.closed.sides k ≡ false → enters of k ≡ false → lead_size of k ≡ 0
no_lead of k none passed = ap (λ (n : ℕ). 4 * n) (no_words of.closed.version of k none passed)

-- nor before what is not entered
pub unentered_lead : (of : Entered) (k : ℕ) → is_entered of.program of.closed of.entry k ≡ false → lead_size of k ≡ 0
unentered_lead of k none =
    let first = or_parts (k == of.entry) _ none in
    let direct = or_parts (is_direct_target of.program k) _ first.1 in
    let target = or_parts (is_target of.closed.sides k) (slice_index_or of.closed.taken k false) direct.1 in
    let other : is_entry of k ≡ false = false_from_ne_true (is_entry of k) (λ entry. true≢false (sym (entry_entered of k entry) ∙ none)) in
    no_lead of k target.0 (and_left (is_entry of k) (not (is_leaf of k)) other)

-- a piece begins at each target of a class
pub target_begins : (of : Entered) (k : ℕ) → is_target of.closed.sides k ≡ true → begins of k ≡ true
target_begins of k target =
    or_right (is_end (item_of of.program k).kind) (is_entry of k || is_target of.closed.sides k) (or_right (is_entry of k) (is_target of.closed.sides k) target)

-- a leaf begins with no class's target
pub leaf_untargeted : (of : Entered) (e : ℕ) → is_leaf of e ≡ true → is_target of.closed.sides e ≡ false
leaf_untargeted of e leaf =
    let inside = (and_parts (is_entry of e) _ leaf).1 in
    not-true (is_target of.closed.sides e) (and_parts (not (is_target of.closed.sides e)) (not (is_spoilt_by of e (count of.program))) inside).0

-- so in a leaf no place is a class's target, and none saves a site
pub in_leaf_untargeted : (of : Entered) (k : ℕ) → in_leaf of k ≡ true → is_target of.closed.sides k ≡ false
in_leaf_untargeted of k inside =
    false_from_ne_true (is_target of.closed.sides k)
    (λ target.
    let leaf : is_leaf of k ≡ true = ap (is_leaf of) (sym (head_of_first of k (target_begins of k target))) ∙ inside in
    true≢false (sym target ∙ leaf_untargeted of k leaf))

pub in_leaf_passed : (of : Entered) (k : ℕ) → in_leaf of k ≡ true → enters of k ≡ false
in_leaf_passed of k inside =
    false_from_ne_true (enters of k)
    (λ saves.
    let both = and_parts (is_entry of k) (not (is_leaf of k)) saves in
    let leaf : is_leaf of k ≡ true = ap (is_leaf of) (sym (head_of_first of k (entry_begins of k both.0))) ∙ inside in
    true≢false (sym leaf ∙ not-true (is_leaf of k) both.1))

pub leaf_unled : (of : Entered) (k : ℕ) → in_leaf of k ≡ true → lead_size of k ≡ 0
leaf_unled of k inside = no_lead of k (in_leaf_untargeted of k inside) (in_leaf_passed of k inside)
