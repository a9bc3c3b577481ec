-- Sizes of leads and of units. Where callers save the sites of calls that of a unit is by its kind. In each version a target has a word before
-- its unit, a later store has one word, and the first store of a group the words of its mask too.
use Rattle.std.proofs.Common.{◌≡◌, ℕ, ◌+◌, ◌*◌, ◌≤◌, Bool, true, false, List, [], ◌∷◌, length, Option, refl, arith}
use Rattle.cfi_writer.proofs.Prelude.{GraphVersion, OneLabel, TwoLabels, CalleeSaves, ItemKind, Item, has_leaves, Side, is_target, Entered, lead_size, lead_words, words_of_entry, words_of_sides, in_leaf, is_short, is_store, is_ecall, kind_size, lean_size, size_by, size_of, Shifts, mask_words, mask_by}
use Rattle.obj_input.specs.declared.item_kind.ItemKind.TheVariants as is

size_plain : (version : GraphVersion) (calls : Option (List ℕ)) (inside : Bool) (item : Item) (whole : Bool) → has_leaves version ≡ false →
    size_by version calls inside item whole ≡ kind_size calls item.kind (is_ecall item) whole
size_plain OneLabel calls inside item whole plain = refl
size_plain TwoLabels calls inside item whole plain = refl
size_plain CalleeSaves calls inside item whole plain = absurd (cc)

-- in each version a target has a word before its unit
sides_some : (sides : List Side) (k : ℕ) → is_target sides k ≡ true → 1 ≤ length sides
sides_some [] k target = absurd (cc)
sides_some (side ∷ sides) k target = omega arith

side_words : (of : Entered) (k : ℕ) → is_target of.closed.sides k ≡ true → 1 ≤ words_of_sides of k
side_words of k target = rw target (sides_some of.closed.sides k target)

entry_words : (of : Entered) (k : ℕ) → is_target of.closed.sides k ≡ true → 1 ≤ words_of_entry of k
entry_words of k target = rw target (omega arith)

words_some : (version : GraphVersion) (of : Entered) (k : ℕ) → is_target of.closed.sides k ≡ true → 1 ≤ lead_words version of k
words_some OneLabel of k target = side_words of k target
words_some TwoLabels of k target = side_words of k target
words_some CalleeSaves of k target = entry_words of k target

pub lead_some : (of : Entered) (k : ℕ) → is_target of.closed.sides k ≡ true → 4 ≤ lead_size of k
lead_some of k target = let some = words_some of.closed.version of k target in omega arith

-- in each version a later store has one word
later_kind : (calls : Option (List ℕ)) (kind : ItemKind) (ecall whole : Bool) → is_store kind ≡ true → whole ≡ false → kind_size calls kind ecall whole ≡ 4
later_kind calls is.Store ecall whole store less = rw less refl
later_kind calls other ecall whole store less = absurd (cc)

later_lean : (calls : Option (List ℕ)) (kind : ItemKind) (ecall short inside whole : Bool) → is_store kind ≡ true → whole ≡ false →
    lean_size calls kind ecall short inside whole ≡ 4
later_lean calls is.Store ecall short inside whole store less = rw less refl
later_lean calls other ecall short inside whole store less = absurd (cc)

later_by : (version : GraphVersion) (calls : Option (List ℕ)) (inside : Bool) (item : Item) (whole : Bool) → is_store item.kind ≡ true → whole ≡ false →
    size_by version calls inside item whole ≡ 4
later_by OneLabel calls inside item whole store less = later_kind calls item.kind (is_ecall item) whole store less
later_by TwoLabels calls inside item whole store less = later_kind calls item.kind (is_ecall item) whole store less
later_by CalleeSaves calls inside item whole store less = later_lean calls item.kind (is_ecall item) (is_short item) inside whole store less

pub size_later : (of : Entered) (k : ℕ) (item : Item) (whole : Bool) → is_store item.kind ≡ true → whole ≡ false → size_of of k item whole ≡ 4
size_later of k item whole store less = later_by of.closed.version of.closed.calls (in_leaf of k) item whole store less

-- and the first of a group has those of its mask too
first_kind : (calls : Option (List ℕ)) (kind : ItemKind) (ecall whole : Bool) → is_store kind ≡ true → whole ≡ true →
    kind_size calls kind ecall whole ≡ 4 * (mask_words Shifts + 1)
first_kind calls is.Store ecall whole store is_whole = rw is_whole refl
first_kind calls other ecall whole store is_whole = absurd (cc)

first_lean : (calls : Option (List ℕ)) (kind : ItemKind) (ecall short inside whole : Bool) → is_store kind ≡ true → whole ≡ true →
    lean_size calls kind ecall short inside whole ≡ 4 * (mask_words (mask_by CalleeSaves short) + 1)
first_lean calls is.Store ecall true inside whole store is_whole = rw is_whole refl
first_lean calls is.Store ecall false inside whole store is_whole = rw is_whole refl
first_lean calls other ecall short inside whole store is_whole = absurd (cc)

first_by : (version : GraphVersion) (calls : Option (List ℕ)) (inside : Bool) (item : Item) (whole : Bool) → is_store item.kind ≡ true → whole ≡ true →
    size_by version calls inside item whole ≡ 4 * (mask_words (mask_by version (is_short item)) + 1)
first_by OneLabel calls inside item whole store is_whole = first_kind calls item.kind (is_ecall item) whole store is_whole
first_by TwoLabels calls inside item whole store is_whole = first_kind calls item.kind (is_ecall item) whole store is_whole
first_by CalleeSaves calls inside item whole store is_whole = first_lean calls item.kind (is_ecall item) (is_short item) inside whole store is_whole

pub size_first : (of : Entered) (k : ℕ) (item : Item) (whole : Bool) → is_store item.kind ≡ true → whole ≡ true →
    size_of of k item whole ≡ 4 * (mask_words (mask_by of.closed.version (is_short item)) + 1)
size_first of k item whole store is_whole = first_by of.closed.version of.closed.calls (in_leaf of k) item whole store is_whole
