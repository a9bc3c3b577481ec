-- Tables of flags and of heads, while a loop makes them.
use Rattle.std.proofs.Common.{◌≡◌, ℕ, zero, suc, ◌+◌, ◌<◌, ◌≤◌, Bool, true, false, List, [], ◌∷◌, ◌++◌, length, get_or, inl, inr, refl, sym, ap, subst, ◌∙◌, arith}
use Rattle.std.specs.Prelude.{not, ◌&&◌, ◌||◌, if◌then◌else◌}
use Rattle.std.proofs.lemmas.Bool.{cases_lt, cond_both, or_left, or_right}
use Rattle.std.proofs.lemmas.List.{get_or_append_left, get_or_push, length_push}
use Rattle.obj_program.specs.Program.{count, is_end, item_of}
use Rattle.cfi_closed.specs.Closed.{is_target}
use Rattle.cfi_leads.specs.Entered.{Entered}
use Rattle.cfi_leads.specs.Entries.{is_entry}
use Rattle.cfi_leads.specs.Leads.{enters}
use Rattle.cfi_leads.specs.Leaves.{begins, head, in_leaf, is_leaf}
use Rattle.cfi_leads.specs.Marks.{AreFlags, AreHeads}

pub no_flags : (test : ℕ → Bool) (flags : List Bool) → flags ≡ [] → AreFlags test 0 flags
no_flags test flags is = record { counted = ap length is; each = λ k below. absurd (omega arith) }

pub one_more_flag : (test : ℕ → Bool) (k : ℕ) (b : Bool) (flags more : List Bool) → AreFlags test k flags → b ≡ test k → more ≡ flags ++ b ∷ [] → AreFlags test (k + 1) more
one_more_flag test k b flags more so_far is grown = record {
  counted = ap length grown ∙ length_push flags b ∙ ap (λ (n : ℕ). n + 1) so_far.counted;
  each = λ j below. elim (cases_lt j k) [
    | inl less ↦
        ap (λ (l : List Bool). get_or l j false) grown ∙ get_or_append_left flags (b ∷ []) false j (let size = so_far.counted in omega arith)
        ∙ so_far.each j less
    | inr more_or_same ↦
        let here : k ≡ j = omega arith in
        subst (λ (n : ℕ). get_or more n false ≡ test n) here
        (ap (λ (l : List Bool). get_or l k false) grown ∙ get_or_push flags b false k so_far.counted ∙ is)
  ];
}

pub all_flags : (test : ℕ → Bool) (k n : ℕ) (flags : List Bool) → n ≡ k → AreFlags test k flags → AreFlags test n flags
all_flags test k n flags same made = subst (λ (m : ℕ). AreFlags test m flags) (sym same) made

-- where the pieces of the first k places begin, and that of the last of these
pub record AreHeadsTo (of : Entered) (k : ℕ) (heads : List ℕ) (last : ℕ) : Type 0 where
  pub counted : length heads ≡ k
  pub each : (j : ℕ) → j < k → get_or heads j 0 ≡ head of j
  pub none : k ≡ 0 → last ≡ 0
  pub some : (j : ℕ) → k ≡ suc j → last ≡ head of j

pub no_heads : (of : Entered) (heads : List ℕ) → heads ≡ [] → AreHeadsTo of 0 heads 0
no_heads of heads is = record {
  counted = ap length is;
  each = λ k below. absurd (omega arith);
  none = λ e. refl;
  some = λ j e. absurd (omega (arith, e));
}

-- the head of a place, by the one before it
head_here : (of : Entered) (k : ℕ) (heads : List ℕ) (last : ℕ) → AreHeadsTo of k heads last → head of k ≡ (if begins of k then k else last)
unfolding head
head_here of zero heads last so_far = cond_both (begins of 0) 0 last (λ (n : ℕ). 0 ≡ n) (λ e. refl) (λ e. sym (so_far.none refl))
head_here of (suc k) heads last so_far = ap (λ (n : ℕ). if begins of (suc k) then suc k else n) (sym (so_far.some k refl))

pub one_more_head : (of : Entered) (k : ℕ) (heads more : List ℕ) (last now : ℕ) → AreHeadsTo of k heads last →
    now ≡ (if begins of k then k else last) → more ≡ heads ++ now ∷ [] → AreHeadsTo of (k + 1) more now
one_more_head of k heads more last now so_far is grown =
    let here : now ≡ head of k = is ∙ sym (head_here of k heads last so_far) in
    record {
      counted = ap length grown ∙ length_push heads now ∙ ap (λ (n : ℕ). n + 1) so_far.counted;
      each = λ j below. elim (cases_lt j k) [
        | inl less ↦
            ap (λ (l : List ℕ). get_or l j 0) grown ∙ get_or_append_left heads (now ∷ []) 0 j (let size = so_far.counted in omega arith)
            ∙ so_far.each j less
        | inr more_or_same ↦
            let same : k ≡ j = omega arith in
            subst (λ (n : ℕ). get_or more n 0 ≡ head of n) same
            (ap (λ (l : List ℕ). get_or l k 0) grown ∙ get_or_push heads now 0 k so_far.counted ∙ here)
      ];
      none = λ e. absurd (omega (arith, e));
      some = λ j e. here ∙ ap (head of) (omega (arith, e));
    }

pub all_heads : (of : Entered) (k : ℕ) (heads : List ℕ) (last : ℕ) → count of.program ≡ k → AreHeadsTo of k heads last → AreHeads of heads
all_heads of k heads last same made = record { counted = made.counted ∙ sym same; each = λ j below. made.each j (omega arith) }

-- a piece begins at or before each of its places
pub head_before : (of : Entered) (k : ℕ) → head of k ≤ k
unfolding head
head_before of zero = omega arith
head_before of (suc k) =
    cond_both (begins of (suc k)) (suc k) (head of k) (λ (n : ℕ). n ≤ suc k) (λ e. omega arith) (λ e. omega (arith, head_before of k))

-- and where one begins it begins with that place
pub head_of_first : (of : Entered) (k : ℕ) → begins of k ≡ true → head of k ≡ k
unfolding head
head_of_first of zero first = refl
head_of_first of (suc k) first = rw first refl

-- an entry is in a leaf where one begins with it
pub entry_in_leaf : (of : Entered) (k : ℕ) → is_entry of k ≡ true → in_leaf of k ≡ is_leaf of k
entry_in_leaf of k entry =
    ap (is_leaf of)
    (head_of_first of k
    (or_right (is_end (item_of of.program k).kind) (is_entry of k || is_target of.closed.sides k) (or_left (is_entry of k) (is_target of.closed.sides k) entry)))

-- so what saves a site stands before an entry that is in no leaf, and before no other place
pub enters_at : (of : Entered) (k : ℕ) (inside : Bool) → is_entry of k ≡ true → inside ≡ in_leaf of k → not inside ≡ enters of k
enters_at of k inside entry is = ap not (is ∙ entry_in_leaf of k entry) ∙ sym (ap (λ (b : Bool). b && not (is_leaf of k)) entry)

pub enters_not : (of : Entered) (k : ℕ) → is_entry of k ≡ false → false ≡ enters of k
enters_not of k none = sym (ap (λ (b : Bool). b && not (is_leaf of k)) none)
