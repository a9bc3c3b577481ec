-- Where pieces begin and end, and which of them are leaves.
use Rattle.std.proofs.Common.{◌≡◌, ◌==◌, ℕ, zero, suc, ◌+◌, ◌-◌, ◌<◌, ◌≤◌, Bool, true, false, Option, inl, inr, refl, sym, ap, ◌∙◌, arith}
use Rattle.std.specs.Prelude.{◌&&◌, ◌||◌, if◌then◌else◌, not}
use Rattle.std.proofs.lemmas.Bool.{and_from, and_parts, both_ways, cases_Bool, cases_eq, cases_lt, cond-false, cond-true, cond_both, eq-eqb, eqb-false, eqb-true, false_from_ne_true, ne_eqb, not-true, or_left, or_parts, or_right}
use Rattle.rv_instr.specs.declared.instr.Instr.{Instr}
use Rattle.rv_code.specs.Decode.{decoded}
use Rattle.obj_input.specs.declared.item_kind.ItemKind.{ItemKind}
use Rattle.obj_input.specs.declared.item_kind.ItemKind.TheVariants as is
use Rattle.obj_program.specs.MapFit.{EndsLast}
use Rattle.obj_program.specs.Program.{count, is_end, item_of}
use Rattle.cfi_closed.specs.Closed.{is_target}
use Rattle.cfi_leads.specs.Entered.{Entered}
use Rattle.cfi_leads.specs.Entries.{is_entry}
use Rattle.cfi_leads.specs.Leaves.{begins, head, in_leaf, is_in, is_leaf, is_spoilt_by, leaf_end, may_stand, next_piece, spoils, spoils_inside, stands_in_leaf}
use Rattle.cfi_leads.proofs.Tables.{head_before, head_of_first}

-- the next piece from a place on
pub next_here : (of : Entered) (k n : ℕ) → begins of k ≡ true → next_piece of k n ≡ k
unfolding next_piece
next_here of k zero first = refl
next_here of k (suc n) first = cond-true (begins of k) k (next_piece of (k + 1) n) first

pub next_on : (of : Entered) (k n : ℕ) → begins of k ≡ false → next_piece of k (suc n) ≡ next_piece of (k + 1) n
unfolding next_piece
next_on of k n none = cond-false (begins of k) k (next_piece of (k + 1) n) none

pub next_last : (of : Entered) (k : ℕ) → next_piece of k 0 ≡ k
unfolding next_piece
next_last of k = refl

pub next_from : (of : Entered) (k n : ℕ) → k ≤ next_piece of k n
unfolding next_piece
next_from of k zero = omega arith
next_from of k (suc n) =
    cond_both (begins of k) k (next_piece of (k + 1) n) (λ (t : ℕ). k ≤ t) (λ e. omega arith) (λ e. let past = next_from of (k + 1) n in omega arith)

pub next_most : (of : Entered) (k n : ℕ) → next_piece of k n ≤ k + n
unfolding next_piece
next_most of k zero = omega arith
next_most of k (suc n) =
    cond_both (begins of k) k (next_piece of (k + 1) n) (λ (t : ℕ). t ≤ k + suc n) (λ e. omega arith)
    (λ e. let most = next_most of (k + 1) n in omega arith)

-- it is none behind a place at which one begins
pub next_before : (of : Entered) (k n t : ℕ) → k ≤ t → t < k + n → begins of t ≡ true → next_piece of k n ≤ t
unfolding next_piece
next_before of k zero t from before first = absurd (omega arith)
next_before of k (suc n) t from before first =
    cond_both (begins of k) k (next_piece of (k + 1) n) (λ (m : ℕ). m ≤ t) (λ e. from)
    (λ none. elim (cases_eq k t) [
      | inl same ↦ absurd (both_ways (begins of t) (ap (begins of) (sym same) ∙ none) first)
      | inr apart ↦ next_before of (k + 1) n t (omega (arith, apart)) (omega arith) first
    ])

-- one begins at an entry
pub entry_begins : (of : Entered) (k : ℕ) → is_entry of k ≡ true → begins of k ≡ true
entry_begins of k entry =
    or_right (is_end (item_of of.program k).kind) (is_entry of k || is_target of.closed.sides k) (or_left (is_entry of k) (is_target of.closed.sides k) entry)

-- and nowhere else than at places with which their own piece begins
head_goes_on : (of : Entered) (k : ℕ) → begins of (suc k) ≡ false → head of (suc k) ≡ head of k
unfolding head
head_goes_on of k none = cond-false (begins of (suc k)) (suc k) (head of k) none

apart_at : (of : Entered) (k : ℕ) → 0 < k → begins of k ≡ false → head of k ≡ k → ⊥
apart_at of zero behind none same = omega arith
apart_at of (suc k) behind none same =
    let before = head_before of k in
    let go_on = head_goes_on of k none in
    omega arith

pub begins_where : (of : Entered) (k : ℕ) → 0 < k → (head of k == k) ≡ begins of k
begins_where of k behind = elim (cases_Bool (begins of k)) [
  | inl first ↦ eq-eqb (head of k) k (head_of_first of k first) ∙ sym first
  | inr none ↦ ne_eqb (head of k) k (apart_at of k behind none) ∙ sym none
]

-- so does a leaf, which a place in a leaf then begins
no_entry : (of : Entered) (k : ℕ) → (head of k == k) ≡ false → is_entry of k ≡ false
no_entry of k apart =
    false_from_ne_true (is_entry of k) (λ entry. eqb-false (head of k) k apart (head_of_first of k (entry_begins of k entry)))

pub leaf_apart : (of : Entered) (k : ℕ) → (head of k == k) ≡ false → is_leaf of k ≡ false
leaf_apart of k apart =
    ap (λ (b : Bool). b && (not (is_target of.closed.sides k) && not (is_spoilt_by of k (count of.program)))) (no_entry of k apart)

pub leaf_here : (of : Entered) (k : ℕ) → (head of k == k) ≡ true → in_leaf of k ≡ is_leaf of k
leaf_here of k same = ap (is_leaf of) (eqb-true (head of k) k same)

-- what is not spoilt is spoilt by none of the places
pub not_spoilt : (of : Entered) (e n k : ℕ) → k < n → is_spoilt_by of e n ≡ false → spoils of e k ≡ false
unfolding is_spoilt_by
not_spoilt of e zero k below none = absurd (omega arith)
not_spoilt of e (suc n) k below none =
    let parts = or_parts (is_spoilt_by of e n) (spoils of e n) none in
    elim (cases_eq k n) [
      | inl same ↦ ap (spoils of e) same ∙ parts.1
      | inr apart ↦ not_spoilt of e n k (omega (arith, apart)) parts.0
    ]

pub record IsLeaf (of : Entered) (e : ℕ) : Type 0 where
  pub entry : is_entry of e ≡ true
  pub own : is_target of.closed.sides e ≡ false
  pub whole : (k : ℕ) → k < count of.program → spoils of e k ≡ false

pub leaf_parts : (of : Entered) (e : ℕ) → is_leaf of e ≡ true → IsLeaf of e
leaf_parts of e leaf =
    let first = and_parts (is_entry of e) _ leaf in
    let rest = and_parts (not (is_target of.closed.sides e)) (not (is_spoilt_by of e (count of.program))) first.1 in
    record {
      entry = first.0;
      own = not-true (is_target of.closed.sides e) rest.0;
      whole = λ k below. not_spoilt of e (count of.program) k below (not-true (is_spoilt_by of e (count of.program)) rest.1);
    }

-- each of its places may stand there
pub stands : (of : Entered) (e k : ℕ) → is_leaf of e ≡ true → k < count of.program → head of k ≡ e → stands_in_leaf (item_of of.program k) ≡ true
stands of e k leaf below here = elim (cases_Bool (stands_in_leaf (item_of of.program k))) [
  | inl yes_it_may ↦ yes_it_may
  | inr none ↦
      let spoilt : (is_in of e k && spoils_inside of k) ≡ true =
      and_from (is_in of e k) (spoils_inside of k) (eq-eqb (head of k) e here) (or_left (not (stands_in_leaf (item_of of.program k))) _ (ap not none)) in
      absurd (both_ways (is_in of e k && spoils_inside of k) (or_parts (is_in of e k && spoils_inside of k) _ ((leaf_parts of e leaf).whole k below)).0 spoilt)
]

no_end : (kind : ItemKind) (instr : Option Instr) → is_end kind ≡ true → may_stand kind instr ≡ false
no_end is.End instr ends = refl
no_end is.Plain instr ends = absurd (cc)
no_end is.Gate instr ends = refl
no_end is.Store instr ends = absurd (cc)
no_end is.System instr ends = absurd (cc)
no_end is.Branch instr ends = absurd (cc)
no_end is.Jump instr ends = absurd (cc)
no_end is.Call instr ends = refl
no_end is.Return instr ends = absurd (cc)
no_end is.Ijump instr ends = refl
no_end is.Icall instr ends = refl

-- so a leaf does not begin with a section's end, and where the program ends with one, it ends before that
pub leaf_end_before : (of : Entered) (e : ℕ) → e < count of.program → EndsLast of.program → is_leaf of e ≡ true → leaf_end of e < count of.program
leaf_end_before of e below last leaf =
    let ends : is_end (item_of of.program (count of.program - 1)).kind ≡ true = last (omega arith) in
    elim (cases_eq e (count of.program - 1)) [
      | inl same ↦
          let mine = stands of e e leaf below (head_of_first of e (entry_begins of e (leaf_parts of e leaf).entry)) in
          let other : stands_in_leaf (item_of of.program e) ≡ false =
          no_end (item_of of.program e).kind (decoded (item_of of.program e).word) (ap (λ (k : ℕ). is_end (item_of of.program k).kind) same ∙ ends) in
          absurd (both_ways (stands_in_leaf (item_of of.program e)) other mine)
      | inr apart ↦
          let before =
          next_before of (e + 1) (count of.program - (e + 1)) (count of.program - 1) (omega (arith, apart)) (omega (arith, apart)) (or_left _ _ ends) in
          omega arith
    ]
