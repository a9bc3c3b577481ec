-- How many gates and words a placement has, which word stands at a place, its words while a loop makes them.
use Rattle.std.proofs.Common.{◌≡◌, ℕ, suc, ◌+◌, ◌<◌, ◌≤◌, Bool, List, [], ◌∷◌, ◌++◌, length, get_or, drop, drop-cons, refl, sym, ap, ◌∙◌, add-one, append_assoc}
use Rattle.std.proofs.lemmas.List.{append-nil, drop_all}
use Rattle.cfi_map.proofs.Prelude.{Form, Item, count, Entered, lead_size, ProgramAtMap, entered_in, word, words_at, IsMapped, AreGates, words_from}

pub as_many_gates : (of : Entered) (whole : List Bool) (k at : ℕ) (items : List Item) (gates : List ℕ)
    → AreGates of whole k at items gates → length gates ≡ length items
unfolding AreGates
as_many_gates of whole k at [] [] are = refl
as_many_gates of whole k at [] (gate ∷ gates) are = absurd are
as_many_gates of whole k at (item ∷ items) [] are = absurd are
as_many_gates of whole k at (item ∷ items) (gate ∷ gates) are = ap suc (as_many_gates of whole (k + 1) _ items gates are.1)

pub as_many_words : (of : Entered) (k : ℕ) (gates : List ℕ) → length (words_from of k gates) ≡ length gates
unfolding words_from
as_many_words of k [] = refl
as_many_words of k (gate ∷ gates) = ap suc (as_many_words of (k + 1) gates)

-- of a program at a map there is a word for each place
pub words_counted : (layout : ProgramAtMap) → length layout.gates ≡ count layout.program → length (words_at layout) ≡ count layout.program
words_counted layout counted = as_many_words (entered_in layout) 0 layout.gates ∙ counted

pub words_kept : (form : Form) (layout : ProgramAtMap) (words : List ℕ) → IsMapped form layout words → length (words_at layout) ≡ count layout.program
words_kept form layout words is = words_counted layout is.counted

pub drop_step : {X : Type 0} (xs : List X) (k : ℕ) (d : X) → k < length xs → drop k xs ≡ get_or xs k d ∷ drop (k + 1) xs
drop_step xs k d lt = rw (add-one, drop-cons xs k d) refl

pub words_more : (of : Entered) (k : ℕ) (gates made all : List ℕ) (word : ℕ) → k < length gates →
    word ≡ get_or gates k 0 + lead_size of k →
    made ++ words_from of k (drop k gates) ≡ all → (made ++ word ∷ []) ++ words_from of (k + 1) (drop (k + 1) gates) ≡ all
unfolding words_from
words_more of k gates made all word lt is so_far = rw (append_assoc, is) (rw (drop_step gates k 0 lt) at so_far)

pub words_end : (of : Entered) (k : ℕ) (gates made all : List ℕ) → length gates ≤ k →
    made ++ words_from of k (drop k gates) ≡ all → made ≡ all
unfolding words_from
words_end of k gates made all past so_far = sym (append-nil made) ∙ (rw (drop_all k gates past) at so_far)
