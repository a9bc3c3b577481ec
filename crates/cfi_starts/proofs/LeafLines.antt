-- The leaves of a graph: where the one stands in which an address lies, and what any leaf has that begins there.
use Rattle.std.proofs.Common.{◌≡◌, ◌<◌, ◌≤◌, inl, inr, ℕ, zero, suc, ◌+◌, ◌==◌, not, Bool, true, false, List, [], ◌∷◌, length, map, Some, None, refl, sym, ap, ◌∙◌, arith}
use Rattle.std.specs.Prelude.{slice_get, nat_le, nat_lt, ◌&&◌, ◌||◌}
use Rattle.std.specs.List.{list_all, list_any}
use Rattle.std.proofs.lemmas.Bool.{and_from, and_parts, cases_Bool, cases_order, eqb-true, false_from_ne_true, false≢true, le-leb, leb-true, lt-ltb, ltb-true}
use Rattle.std.proofs.lemmas.Option.{same_Some, slice_get_within}
use Rattle.std.proofs.Math.Bool.{or-false}
use Rattle.cfi_graph.specs.declared.line.GraphLine.{GraphLine}
use Rattle.cfi_graph.specs.declared.line.GraphLine.TheVariants.{Calls, Leaf, Class, Site, Edge, Call}
use Rattle.rv_image.specs.MemoryMap.{Profile}
use Rattle.rv_word.proofs.Cases.{cases_Option}
use Rattle.cfi_graph.specs.Graph.{GraphParts, IsGraph, is_rising, key_below, key_of, targets_rise}
use Rattle.cfi_scan.specs.Pieces.{Listed}
use Rattle.cfi_pending.specs.Kinds as kinds
use Rattle.cfi_pending.specs.Kinds.{begins_at, in_leaf, leaf_of}
use Rattle.cfi_rules.specs.Lines.{holds_of, leaves_in}
use Rattle.cfi_rules.proofs.LineOrder.{head_below, pair_below, tail_rising}
use Rattle.cfi_starts.specs.Entries.{is_whole, lacks_end_at}
use Rattle.cfi_starts.specs.Leaves.{ArePast, is_past, leaf_in}

pub none_of : {A : Type 0} (f : A → Bool) (xs : List A) → ((i : ℕ) (x : A) → slice_get xs i ≡ Some x → f x ≡ false) → list_any f xs ≡ false
none_of f [] none = refl
none_of f (x ∷ xs) none = rw (none zero x refl) (none_of f xs (λ i y e. none (suc i) y e))

abbrev leaf : ℕ → ℕ → kinds.Leaf
leaf from to = record { from = from; to = to }

-- an address outside of a leaf
past_out : (a from to : ℕ) → to ≤ a → in_leaf a (leaf from to) ≡ false
past_out a from to past = false_from_ne_true _ (λ e. let below : a < to = ltb-true a to (and_parts (nat_le from a) _ e).1 in omega arith)

before_out : (a from to : ℕ) → a < from → in_leaf a (leaf from to) ≡ false
before_out a from to before = false_from_ne_true _ (λ e. let low : from ≤ a = leb-true from a (and_parts (nat_le from a) _ e).0 in omega arith)

out_none : (a from to : ℕ) → in_leaf a (leaf from to) ≡ false → leaf_in a (Leaf from to) ≡ None
out_none a from to out = rw out refl

-- lines before one that is past are past
pub past_before : (a : ℕ) (x y : GraphLine) → key_below (key_of x) (key_of y) ≡ true → is_past a y ≡ true → is_past a x ≡ true
past_before a (Calls numbers) y below past = refl
past_before a x (Calls numbers) below past = absurd (no_head x below)
  where
    no_head : (x : GraphLine) → key_below (key_of x) (key_of (Calls numbers)) ≡ true → ⊥
    no_head (Calls ns) e = false≢true e
    no_head (Leaf from to) e = false≢true e
    no_head (Class sort label targets) e = false≢true e
    no_head (Site address kind label) e = false≢true e
    no_head (Edge from to) e = false≢true e
    no_head (Call from to) e = false≢true e
past_before a (Leaf from to) (Leaf next end) below past =
    let parts = and_parts (nat_le to next) _ below in
    let apart = leb-true to next parts.0 in
    let some = ltb-true next end parts.1 in
    let done = leb-true end a past in
    le-leb to a (omega arith)
past_before a (Class sort label targets) (Leaf next end) below past = absurd (false≢true below)
past_before a (Site address kind label) (Leaf next end) below past = absurd (false≢true below)
past_before a (Edge from to) (Leaf next end) below past = absurd (false≢true below)
past_before a (Call from to) (Leaf next end) below past = absurd (false≢true below)
past_before a x (Class sort label targets) below past = absurd (false≢true past)
past_before a x (Site address kind label) below past = absurd (false≢true past)
past_before a x (Edge from to) below past = absurd (false≢true past)
past_before a x (Call from to) below past = absurd (false≢true past)

-- in no leaf whose line is past the address lies, nor in one whose line stands behind one that is not
past_none : (a : ℕ) (x : GraphLine) → is_past a x ≡ true → leaf_in a x ≡ None
past_none a (Calls numbers) past = refl
past_none a (Leaf from to) past = out_none a from to (past_out a from to (leb-true to a past))
past_none a (Class sort label targets) past = refl
past_none a (Site address kind label) past = refl
past_none a (Edge from to) past = refl
past_none a (Call from to) past = refl

behind_none : (a : ℕ) (x y : GraphLine) → key_below (key_of x) (key_of y) ≡ true → is_past a x ≡ false → leaf_in a y ≡ None
behind_none a (Calls numbers) y below here = absurd (false≢true (sym here))
behind_none a (Leaf from to) (Leaf next end) below here =
    let apart : to ≤ next = leb-true to next (and_parts (nat_le to next) _ below).0 in
    out_none a next end (elim (cases_order a to) [
      | inl same ↦ absurd (false≢true (sym here ∙ le-leb to a (omega arith)))
      | inr (inl less) ↦ before_out a next end (omega arith)
      | inr (inr more) ↦ absurd (false≢true (sym here ∙ le-leb to a (omega arith)))
    ])
behind_none a (Class sort label targets) (Leaf next end) below here = absurd (false≢true below)
behind_none a (Site address kind label) (Leaf next end) below here = absurd (false≢true below)
behind_none a (Edge from to) (Leaf next end) below here = absurd (false≢true below)
behind_none a (Call from to) (Leaf next end) below here = absurd (false≢true below)
behind_none a x (Calls numbers) below here = refl
behind_none a x (Class sort label targets) below here = refl
behind_none a x (Site address kind label) below here = refl
behind_none a x (Edge from to) below here = refl
behind_none a x (Call from to) below here = refl

-- where no line has the leaf, there is none
pub no_leaf : (lines : List GraphLine) (a : ℕ) → ((i : ℕ) (line : GraphLine) → slice_get lines i ≡ Some line → leaf_in a line ≡ None) → leaf_of (leaves_in lines) a ≡ None
unfolding leaves_in
no_leaf [] a none = refl
no_leaf (Leaf from to ∷ lines) a none =
    elim (cases_Bool (in_leaf a (leaf from to))) [
      | inl inside ↦
          let is : Some (leaf from to) ≡ None = rw inside at (none zero (Leaf from to) refl) in
          absurd (cc)
      | inr out ↦ rw out (no_leaf lines a (λ i line e. none (suc i) line e))
    ]
no_leaf (Calls numbers ∷ lines) a none = no_leaf lines a (λ i line e. none (suc i) line e)
no_leaf (Class sort label targets ∷ lines) a none = no_leaf lines a (λ i line e. none (suc i) line e)
no_leaf (Site address kind label ∷ lines) a none = no_leaf lines a (λ i line e. none (suc i) line e)
no_leaf (Edge from to ∷ lines) a none = no_leaf lines a (λ i line e. none (suc i) line e)
no_leaf (Call from to ∷ lines) a none = no_leaf lines a (λ i line e. none (suc i) line e)

-- a leaf in which it lies is the one
pub leaf_there : (lines : List GraphLine) (a from to : ℕ) → is_rising key_below (map key_of lines) ≡ true → (i : ℕ) → slice_get lines i ≡ Some (Leaf from to) → in_leaf a (leaf from to) ≡ true → leaf_of (leaves_in lines) a ≡ Some (leaf from to)
unfolding leaves_in
leaf_there [] a from to r i e inside = absurd (cc)
leaf_there (Leaf first end ∷ lines) a from to r zero e inside =
    let one : Leaf first end ≡ Leaf from to = same_Some _ _ e in
    let starts : first ≡ from = cc in
    let ends : end ≡ to = cc in
    rw (starts, ends, inside) refl
leaf_there (Leaf first end ∷ lines) a from to r (suc i) e inside =
    let apart : end ≤ from = leb-true end from (and_parts (nat_le end from) _ (head_below (Leaf first end) lines r i (Leaf from to) e)).0 in
    let low : from ≤ a = leb-true from a (and_parts (nat_le from a) _ inside).0 in
    rw (past_out a first end (omega arith)) (leaf_there lines a from to (tail_rising (Leaf first end) lines r) i e inside)
leaf_there (Calls numbers ∷ lines) a from to r zero e inside = absurd (cc)
leaf_there (Calls numbers ∷ lines) a from to r (suc i) e inside = leaf_there lines a from to (tail_rising (Calls numbers) lines r) i e inside
leaf_there (Class sort label targets ∷ lines) a from to r zero e inside = absurd (cc)
leaf_there (Class sort label targets ∷ lines) a from to r (suc i) e inside = leaf_there lines a from to (tail_rising (Class sort label targets) lines r) i e inside
leaf_there (Site address kind label ∷ lines) a from to r zero e inside = absurd (cc)
leaf_there (Site address kind label ∷ lines) a from to r (suc i) e inside = leaf_there lines a from to (tail_rising (Site address kind label) lines r) i e inside
leaf_there (Edge first end ∷ lines) a from to r zero e inside = absurd (cc)
leaf_there (Edge first end ∷ lines) a from to r (suc i) e inside = leaf_there lines a from to (tail_rising (Edge first end) lines r) i e inside
leaf_there (Call first end ∷ lines) a from to r zero e inside = absurd (cc)
leaf_there (Call first end ∷ lines) a from to r (suc i) e inside = leaf_there lines a from to (tail_rising (Call first end) lines r) i e inside

-- up to a line that is past all are
pub past_to : (lines : List GraphLine) → is_rising key_below (map key_of lines) ≡ true → (a m : ℕ) (line : GraphLine) → slice_get lines m ≡ Some line → is_past a line ≡ true →
    (i : ℕ) (x : GraphLine) → i < m + 1 → slice_get lines i ≡ Some x → is_past a x ≡ true
past_to lines r a m line here past i x below e =
    elim (cases_order i m) [
      | inl same ↦ ap (is_past a) (same_Some x line (sym e ∙ ap (slice_get lines) same ∙ here)) ∙ past
      | inr (inl less) ↦ past_before a x line (pair_below lines r i m x line less e here) past
      | inr (inr more) ↦ absurd (omega arith)
    ]

-- the same of the line before a place, where there is one
pub past_behind : (lines : List GraphLine) → is_rising key_below (map key_of lines) ≡ true → (a m : ℕ) → holds_of (slice_get lines m) (is_past a) ≡ true → ArePast lines (m + 1) a
past_behind lines r a m past i x below e = elim (cases_Option (slice_get lines m)) [
  | inl none ↦ let no : false ≡ true = rw none at past in absurd (false≢true no)
  | inr (line, here) ↦ past_to lines r a m line here (rw here at past) i x below e
]

-- a test that does not hold
pub was_false : {found test : Bool} → found ≡ test → not found ≡ true → test ≡ false
was_false {found = true} e passed = absurd (false≢true passed)
was_false {found = false} e passed = sym e

-- one line more, and for a later address
pub past_more : (lines : List GraphLine) (a m : ℕ) (line : GraphLine) → ArePast lines m a → slice_get lines m ≡ Some line → is_past a line ≡ true → ArePast lines (m + 1) a
past_more lines a m line before here past i x below e =
    elim (cases_order i m) [
      | inl same ↦ ap (is_past a) (same_Some x line (sym e ∙ ap (slice_get lines) same ∙ here)) ∙ past
      | inr (inl less) ↦ before i x less e
      | inr (inr more) ↦ absurd (omega arith)
    ]

past_for : (a b : ℕ) (x : GraphLine) → a ≤ b → is_past a x ≡ true → is_past b x ≡ true
past_for a b (Calls numbers) later past = refl
past_for a b (Leaf from to) later past = let done = leb-true to a past in le-leb to b (omega arith)
past_for a b (Class sort label targets) later past = past
past_for a b (Site address kind label) later past = past
past_for a b (Edge from to) later past = past
past_for a b (Call from to) later past = past

pub past_later : (lines : List GraphLine) (count a b : ℕ) → a ≤ b → ArePast lines count a → ArePast lines count b
past_later lines count a b later before i x below e = past_for a b x later (before i x below e)

pub none_past : (lines : List GraphLine) (a : ℕ) → ArePast lines 0 a
none_past lines a i x below e = absurd (omega arith)

-- the one line that is left
module _ (lines : List GraphLine) (a low : ℕ) (before : ArePast lines low a) where
  -- past all lines
  pub all_past : length lines ≤ low → None ≡ leaf_of (leaves_in lines) a
  all_past all =
      sym (no_leaf lines a (λ i line e.
      let within : i < length lines = slice_get_within lines i line e in
      past_none a line (before i line (omega arith) e)))

  module _ (rising : is_rising key_below (map key_of lines) ≡ true) (line : GraphLine) (here : slice_get lines low ≡ Some line) (not_past : is_past a line ≡ false) where
    others : leaf_in a line ≡ None → leaf_of (leaves_in lines) a ≡ None
    others none =
        no_leaf lines a (λ i other e.
        elim (cases_order i low) [
          | inl same ↦ ap (leaf_in a) (same_Some other line (sym e ∙ ap (slice_get lines) same ∙ here)) ∙ none
          | inr (inl less) ↦ past_none a other (before i other less e)
          | inr (inr more) ↦ behind_none a line other (pair_below lines rising low i line other more here e) not_past
        ])

    pub is_here : leaf_in a line ≡ leaf_of (leaves_in lines) a
    is_here = by line refl
      where
        by : (l : GraphLine) → l ≡ line → leaf_in a l ≡ leaf_of (leaves_in lines) a
        by (Calls numbers) e = sym (others (ap (leaf_in a) (sym e)))
        by (Leaf from to) e =
            elim (cases_Bool (in_leaf a (leaf from to))) [
              | inl inside ↦ rw inside (sym (leaf_there lines a from to rising low (here ∙ ap Some (sym e)) inside))
              | inr out ↦ out_none a from to out ∙ sym (others (ap (leaf_in a) (sym e) ∙ out_none a from to out))
            ]
        by (Class sort label targets) e = sym (others (ap (leaf_in a) (sym e)))
        by (Site address kind label) e = sym (others (ap (leaf_in a) (sym e)))
        by (Edge from to) e = sym (others (ap (leaf_in a) (sym e)))
        by (Call from to) e = sym (others (ap (leaf_in a) (sym e)))

-- each leaf ends past where it begins, and those behind it begin no sooner
unfoldable pub AreApart : List kinds.Leaf → Type 0
AreApart [] = Unit {0}
AreApart (l ∷ ls) = (l.from < l.to) × (((i : ℕ) (other : kinds.Leaf) → slice_get ls i ≡ Some other → l.to ≤ other.from) × AreApart ls)

-- the line of a leaf
leaf_line : (lines : List GraphLine) (i : ℕ) (l : kinds.Leaf) → slice_get (leaves_in lines) i ≡ Some l → (j : ℕ) × (slice_get lines j ≡ Some (Leaf l.from l.to))
unfolding leaves_in
leaf_line [] i l e = absurd (cc)
leaf_line (Leaf from to ∷ lines) zero l e = (zero, ap (λ (x : kinds.Leaf). Some (Leaf x.from x.to)) (same_Some (leaf from to) l e))
leaf_line (Leaf from to ∷ lines) (suc i) l e = let later = leaf_line lines i l e in (suc later.0, later.1)
leaf_line (Calls numbers ∷ lines) i l e = let later = leaf_line lines i l e in (suc later.0, later.1)
leaf_line (Class sort label targets ∷ lines) i l e = let later = leaf_line lines i l e in (suc later.0, later.1)
leaf_line (Site address kind label ∷ lines) i l e = let later = leaf_line lines i l e in (suc later.0, later.1)
leaf_line (Edge from to ∷ lines) i l e = let later = leaf_line lines i l e in (suc later.0, later.1)
leaf_line (Call from to ∷ lines) i l e = let later = leaf_line lines i l e in (suc later.0, later.1)

pub are_apart : (lines : List GraphLine) → is_rising key_below (map key_of lines) ≡ true → list_all targets_rise lines ≡ true → AreApart (leaves_in lines)
unfolding leaves_in AreApart
are_apart [] r t = tt
are_apart (Leaf from to ∷ lines) r t = (
  ltb-true from to (and_parts (nat_lt from to) _ t).0,
  (
    λ i other e.
        let line = leaf_line lines i other e in
        leb-true to other.from (and_parts (nat_le to other.from) _ (head_below (Leaf from to) lines r line.0 (Leaf other.from other.to) line.1)).0,
    are_apart lines (tail_rising (Leaf from to) lines r) (and_parts (nat_lt from to) _ t).1,
  ),
)
are_apart (Calls numbers ∷ lines) r t = are_apart lines (tail_rising (Calls numbers) lines r) (and_parts (targets_rise (Calls numbers)) _ t).1
are_apart (Class sort label targets ∷ lines) r t = are_apart lines (tail_rising (Class sort label targets) lines r) (and_parts (targets_rise (Class sort label targets)) _ t).1
are_apart (Site address kind label ∷ lines) r t = are_apart lines (tail_rising (Site address kind label) lines r) (and_parts (targets_rise (Site address kind label)) _ t).1
are_apart (Edge from to ∷ lines) r t = are_apart lines (tail_rising (Edge from to) lines r) (and_parts (targets_rise (Edge from to)) _ t).1
are_apart (Call from to ∷ lines) r t = are_apart lines (tail_rising (Call from to) lines r) (and_parts (targets_rise (Call from to)) _ t).1

-- what any leaf has that begins at an address has the one in which the address lies
pub any_begun : (f : kinds.Leaf → Bool) (a : ℕ) (ls : List kinds.Leaf) → AreApart ls → ((l : kinds.Leaf) → f l ≡ true → l.from ≡ a) → list_any f ls ≡ holds_of (leaf_of ls a) f
unfolding AreApart
any_begun f a [] apart begins = refl
any_begun f a (l ∷ ls) (some, (later, rest)) begins =
    elim (cases_Bool (in_leaf a l)) [
      | inl inside ↦
          let high : a < l.to = ltb-true a l.to (and_parts (nat_le l.from a) _ inside).1 in
          rw (inside, none_of f ls (λ i x e. false_from_ne_true (f x) (λ t. let at = begins x t in let no = later i x e in absurd (omega arith)))) (or-false (f l))
      | inr out ↦
          let no : f l ≡ false = false_from_ne_true (f l) (λ t.
          let at = begins l t in
          false≢true (sym out ∙ and_from _ _ (le-leb l.from a (omega arith)) (lt-ltb a l.to (omega arith)))) in
          rw (out, no) (any_begun f a ls rest begins)
    ]

-- a leaf that begins at an address and lacks an end is the one in which the address lies
abbrev pub lacks_here : Profile → Listed → ℕ → kinds.Leaf → Bool
lacks_here p t a l = (l.from == a) && not (is_whole p t l.from l.to)

lines_leaves : (p : Profile) (t : Listed) (a : ℕ) (lines : List GraphLine) → list_any (lacks_end_at p t a) lines ≡ list_any (lacks_here p t a) (leaves_in lines)
unfolding leaves_in
lines_leaves p t a [] = refl
lines_leaves p t a (Leaf from to ∷ lines) = ap (λ b. lacks_here p t a (leaf from to) || b) (lines_leaves p t a lines)
lines_leaves p t a (Calls numbers ∷ lines) = lines_leaves p t a lines
lines_leaves p t a (Class sort label targets ∷ lines) = lines_leaves p t a lines
lines_leaves p t a (Site address kind label ∷ lines) = lines_leaves p t a lines
lines_leaves p t a (Edge from to ∷ lines) = lines_leaves p t a lines
lines_leaves p t a (Call from to ∷ lines) = lines_leaves p t a lines

pub ends_here : (p : Profile) (t : Listed) (a : ℕ) (graph : GraphParts) → IsGraph graph → holds_of (leaf_of (leaves_in graph.lines) a) (lacks_here p t a) ≡ list_any (lacks_end_at p t a) graph.lines
ends_here p t a graph g =
    sym (any_begun (lacks_here p t a) a (leaves_in graph.lines) (are_apart graph.lines g.order g.targets) (λ l e. eqb-true l.from a (and_parts (l.from == a) _ e).0))
    ∙ sym (lines_leaves p t a graph.lines)

pub begins_here : (a : ℕ) (graph : GraphParts) → IsGraph graph → holds_of (leaf_of (leaves_in graph.lines) a) (begins_at a) ≡ list_any (begins_at a) (leaves_in graph.lines)
begins_here a graph g =
    sym (any_begun (begins_at a) a (leaves_in graph.lines) (are_apart graph.lines g.order g.targets) (λ l e. eqb-true l.from a (and_parts (l.from == a) _ e).0))
