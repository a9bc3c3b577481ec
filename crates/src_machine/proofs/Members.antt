-- How many stores the group has that ends right before a place, while the lines of a map are gone over from the first on.
use Rattle.std.proofs.Common.{◌≡◌, ℕ, suc, ◌-◌, ◌<◌, ◌≤◌, nat_lt, Bool, false, List, length, None, sym, ap, ◌∙◌, arith}
use Rattle.std.specs.Prelude.{◌&&◌, not}
use Rattle.std.proofs.lemmas.Bool.{and_parts, lt-ltb, ltb-true, not-false}
use Rattle.src_machine.proofs.Prelude.{first_below, Form, MapLine, Item, count, item_of, Entered, members_after, members_before, has_whole, is_right, is_wrong, stores_before}
use Rattle.least.proofs.Firsts.{first_none}
use Rattle.cfi_map.proofs.Greedy.{before_most, members_step}

none_first : (items : ℕ → Item) (whole : ℕ → Bool) (k : ℕ) → k ≡ 0 → 0 ≡ members_before items whole k
unfolding members_before
none_first items whole k is = sym (ap (members_before items whole) is)

module _ (of : Entered) (lines : List MapLine) (j before : ℕ) (are : before ≡ stores_before of lines (j - 1)) where
  pub few_before : before ≤ j - 1
  few_before = let most = before_most (item_of of.program) (has_whole of lines) (j - 1) in omega (arith, most, are)

  pub next_before : (after : ℕ) → 0 < j → after ≡ members_after (item_of of.program (j - 1)).kind (has_whole of lines (j - 1)) before →
      after ≡ stores_before of lines j
  next_before after some is =
      let next : suc (j - 1) ≡ j = omega arith in
      is ∙ ap (members_after (item_of of.program (j - 1)).kind (has_whole of lines (j - 1))) are
      ∙ sym (members_step (item_of of.program) (has_whole of lines) (j - 1)) ∙ ap (stores_before of lines) next

pub none_at_first : (of : Entered) (lines : List MapLine) → 0 ≡ stores_before of lines (0 - 1)
none_at_first of lines = none_first (item_of of.program) (has_whole of lines) (0 - 1) (omega arith)

-- where no line is wrong so far the one before stands for a place
pub place_there : (form : Form) (of : Entered) (lines : List MapLine) (j : ℕ) → first_below (is_wrong form of lines) j ≡ None → j ≤ length lines → 0 < j →
    j - 1 < count of.program
place_there form of lines j none within some =
    let right = first_none (is_wrong form of lines) j (j - 1) none (omega arith) in
    let inside = lt-ltb (j - 1) (length lines) (omega arith) in
    let both : not (nat_lt (j - 1) (count of.program) && is_right form of lines (j - 1)) ≡ false = rw inside at right in
    ltb-true _ _ (and_parts (nat_lt (j - 1) (count of.program)) (is_right form of lines (j - 1)) (not-false _ both)).0
