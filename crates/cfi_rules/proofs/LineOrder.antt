-- Lines whose keys rise: a key stands at one place, and the line with a key is found by it.
use Rattle.std.proofs.Common.{◌≡◌, ◌≢◌, ◌<◌, ℕ, zero, suc, ◌==◌, true, false, List, [], ◌∷◌, map, Some, None, refl, sym, ap, ◌∙◌, arith, inl, inr}
use Rattle.std.specs.Prelude.{slice_get, option_and_then, nat_le, nat_lt, if◌then◌else◌}
use Rattle.std.proofs.lemmas.Bool.{and_from, and_parts, cases_Bool, cases_order, leb-true, ltb-true, ltb-false, eqb-true, eq-eqb, false≢true}
use Rattle.std.proofs.lemmas.Option.{same_Some}
use Rattle.cfi_graph.specs.declared.line.GraphLine.{GraphLine}
use Rattle.cfi_graph.specs.declared.line.GraphLine.TheVariants.{Calls, Leaf, Class, Site, Edge, Call}
use Rattle.cfi_graph.specs.declared.line.Sort.{Sort}
use Rattle.cfi_graph.specs.declared.line.Key.{Key}
use Rattle.cfi_graph.specs.declared.line.Key.TheVariants.{Head, Range, Label, Address}
use Rattle.cfi_graph.specs.Graph.{class_in, is_rising, key_below, key_of}
use Rattle.cfi_graph.proofs.Rising.{key_transitive}
use Rattle.cfi_rules.specs.Lines.{is_range, same_key, line_with, line_at, class_with}

pub below_self : (k : Key) → key_below k k ≡ true → ⊥
below_self Head e = absurd (false≢true e)
below_self (Range a b) e =
    let p = and_parts (nat_le b a) (nat_lt a b) e in
    let back = leb-true b a p.0 in
    let on = ltb-true a b p.1 in
    omega arith
below_self (Label a) e = let h : a < a = ltb-true a a e in omega arith
below_self (Address a) e = let h : a < a = ltb-true a a e in omega arith

pub same_from : (j k : Key) → j ≡ k → same_key j k ≡ true
same_from Head Head e = refl
same_from Head (Range a b) e = cc
same_from Head (Label b) e = cc
same_from Head (Address b) e = cc
same_from (Range a b) Head e = cc
same_from (Range a b) (Range c d) e = and_from (a == c) (b == d) (eq-eqb a c (cc)) (eq-eqb b d (cc))
same_from (Range a b) (Label c) e = cc
same_from (Range a b) (Address c) e = cc
same_from (Label a) Head e = cc
same_from (Label a) (Range b c) e = cc
same_from (Address a) (Range b c) e = cc
same_from (Address a) Head e = cc
same_from (Label a) (Label b) e = eq-eqb a b (cc)
same_from (Label a) (Address b) e = cc
same_from (Address a) (Label b) e = cc
same_from (Address a) (Address b) e = eq-eqb a b (cc)

pub same_gives : (j k : Key) → same_key j k ≡ true → j ≡ k
same_gives Head Head e = refl
same_gives Head (Range a b) e = absurd (false≢true e)
same_gives Head (Label b) e = absurd (false≢true e)
same_gives Head (Address b) e = absurd (false≢true e)
same_gives (Range a b) Head e = absurd (false≢true e)
same_gives (Range a b) (Range c d) e =
    let p = and_parts (a == c) (b == d) e in
    let first = eqb-true a c p.0 in
    let second = eqb-true b d p.1 in
    ap (λ (x : ℕ). Range x b) first ∙ ap (Range c) second
same_gives (Range a b) (Label c) e = absurd (false≢true e)
same_gives (Range a b) (Address c) e = absurd (false≢true e)
same_gives (Label a) Head e = absurd (false≢true e)
same_gives (Label a) (Range b c) e = absurd (false≢true e)
same_gives (Address a) (Range b c) e = absurd (false≢true e)
same_gives (Address a) Head e = absurd (false≢true e)
same_gives (Label a) (Label b) e = ap Label (eqb-true a b e)
same_gives (Label a) (Address b) e = absurd (false≢true e)
same_gives (Address a) (Label b) e = absurd (false≢true e)
same_gives (Address a) (Address b) e = ap Address (eqb-true a b e)

-- keys of which neither is below the other are the same, but for ranges that overlap
pub same_unless : (j k : Key) → is_range k ≡ false → key_below j k ≡ false → key_below k j ≡ false → j ≡ k
same_unless Head Head exact e f = refl
same_unless Head (Label b) exact e f = absurd (false≢true (sym e))
same_unless Head (Address b) exact e f = absurd (false≢true (sym e))
same_unless j (Range b c) exact e f = absurd (false≢true (sym exact))
same_unless (Range a b) Head exact e f = absurd (false≢true (sym f))
same_unless (Range a b) (Label c) exact e f = absurd (false≢true (sym e))
same_unless (Range a b) (Address c) exact e f = absurd (false≢true (sym e))
same_unless (Label a) Head exact e f = absurd (false≢true (sym f))
same_unless (Address a) Head exact e f = absurd (false≢true (sym f))
same_unless (Label a) (Label b) exact e f = ap Label (omega (arith, ltb-false a b e, ltb-false b a f))
same_unless (Label a) (Address b) exact e f = absurd (false≢true (sym e))
same_unless (Address a) (Label b) exact e f = absurd (false≢true (sym f))
same_unless (Address a) (Address b) exact e f = ap Address (omega (arith, ltb-false a b e, ltb-false b a f))

-- each line's key is below those of the lines after it
pub head_below : (x : GraphLine) (lines : List GraphLine) → is_rising key_below (map key_of (x ∷ lines)) ≡ true → (i : ℕ) (y : GraphLine) → slice_get lines i ≡ Some y → key_below (key_of x) (key_of y) ≡ true
head_below x [] r i y e = cc
head_below x (z ∷ lines) r zero y e =
    ap (λ w. key_below (key_of x) (key_of w)) (sym (same_Some z y e)) ∙ (and_parts _ _ r).0
head_below x (z ∷ lines) r (suc i) y e =
    key_transitive (key_of x) (key_of z) (key_of y) (and_parts _ _ r).0 (head_below z lines (and_parts _ _ r).1 i y e)

pub tail_rising : (x : GraphLine) (lines : List GraphLine) → is_rising key_below (map key_of (x ∷ lines)) ≡ true → is_rising key_below (map key_of lines) ≡ true
tail_rising x [] r = refl
tail_rising x (z ∷ lines) r = (and_parts _ _ r).1

pub pair_below : (lines : List GraphLine) → is_rising key_below (map key_of lines) ≡ true → (i j : ℕ) (x y : GraphLine) → i < j → slice_get lines i ≡ Some x → slice_get lines j ≡ Some y → key_below (key_of x) (key_of y) ≡ true
pair_below [] r i j x y l e f = cc
pair_below (z ∷ lines) r i zero x y l e f = absurd (omega arith)
pair_below (z ∷ lines) r zero (suc j) x y l e f =
    ap (λ w. key_below (key_of w) (key_of y)) (sym (same_Some z x e)) ∙ head_below z lines r j y f
pair_below (z ∷ lines) r (suc i) (suc j) x y l e f = pair_below lines (tail_rising z lines r) i j x y (omega arith) e f

-- the line at a place is the one with its key
pub with_key : (lines : List GraphLine) (key : Key) → is_rising key_below (map key_of lines) ≡ true → (i : ℕ) (x : GraphLine) → slice_get lines i ≡ Some x → key_of x ≡ key → line_with lines key ≡ Some x
unfolding line_with
with_key [] key r i x e k = cc
with_key (z ∷ lines) key r zero x e k =
    let s : same_key (key_of z) key ≡ true = same_from (key_of z) key (ap key_of (same_Some z x e) ∙ k) in
    rw s e
with_key (z ∷ lines) key r (suc i) x e k =
    elim (cases_Bool (same_key (key_of z) key)) [
      | inl s ↦ absurd (below_self key (ap (λ w. key_below key w) (sym k) ∙ ap (λ w. key_below w (key_of x)) (sym (same_gives _ _ s)) ∙ head_below z lines r i x e))
      | inr s ↦ rw s (with_key lines key (tail_rising z lines r) i x e k)
    ]

-- no line has a key that no place has
pub without_key : (lines : List GraphLine) (key : Key) → ((i : ℕ) (x : GraphLine) → slice_get lines i ≡ Some x → key_of x ≢ key) → line_with lines key ≡ None
unfolding line_with
without_key [] key h = refl
without_key (z ∷ lines) key h =
    elim (cases_Bool (same_key (key_of z) key)) [
      | inl s ↦ absurd (h zero z refl (same_gives _ _ s))
      | inr s ↦ rw s (without_key lines key (λ i x e. h (suc i) x e))
    ]

-- a line with a key that the middle line's key is below stands after the middle
pub after_middle : (lines : List GraphLine) (key : Key) (m : ℕ) (x : GraphLine) → is_rising key_below (map key_of lines) ≡ true → slice_get lines m ≡ Some x → key_below (key_of x) key ≡ true → (i : ℕ) (y : GraphLine) → slice_get lines i ≡ Some y → key_of y ≡ key → m < i
after_middle lines key m x r e b i y f k =
    elim (cases_order i m) [
      | inl same ↦
          let there : slice_get lines m ≡ Some y = ap (slice_get lines) (sym same) ∙ f in
          let one : x ≡ y = same_Some x y (sym e ∙ there) in
          absurd (below_self key (ap (λ w. key_below w key) (sym k ∙ ap key_of (sym one)) ∙ b))
      | inr (inl less) ↦
          absurd (below_self key (key_transitive key (key_of x) key (ap (λ w. key_below w (key_of x)) (sym k) ∙ pair_below lines r i m y x less f e) b))
      | inr (inr more) ↦ more
    ]

-- and one whose key is below the middle line's stands before it
pub before_middle : (lines : List GraphLine) (key : Key) (m : ℕ) (x : GraphLine) → is_rising key_below (map key_of lines) ≡ true → slice_get lines m ≡ Some x → key_below key (key_of x) ≡ true → (i : ℕ) (y : GraphLine) → slice_get lines i ≡ Some y → key_of y ≡ key → i < m
before_middle lines key m x r e b i y f k =
    elim (cases_order i m) [
      | inl same ↦
          let there : slice_get lines m ≡ Some y = ap (slice_get lines) (sym same) ∙ f in
          let one : x ≡ y = same_Some x y (sym e ∙ there) in
          absurd (below_self key (ap (key_below key) (sym k ∙ ap key_of (sym one)) ∙ b))
      | inr (inl less) ↦ less
      | inr (inr more) ↦
          absurd (below_self key (key_transitive key (key_of x) key b (ap (key_below (key_of x)) (sym k) ∙ pair_below lines r m i x y more e f)))
    ]

-- the line at an address is the one with that key
pub line_at-with : (lines : List GraphLine) (a : ℕ) → line_at lines a ≡ line_with lines (Address a)
unfolding line_at line_with
line_at-with [] a = refl
line_at-with (Calls numbers ∷ lines) a = line_at-with lines a
line_at-with (Leaf from to ∷ lines) a = line_at-with lines a
line_at-with (Class sort label targets ∷ lines) a = line_at-with lines a
line_at-with (Site address kind label ∷ lines) a = ap (λ w. if address == a then Some (Site address kind label) else w) (line_at-with lines a)
line_at-with (Edge from to ∷ lines) a = ap (λ w. if from == a then Some (Edge from to) else w) (line_at-with lines a)
line_at-with (Call from to ∷ lines) a = ap (λ w. if from == a then Some (Call from to) else w) (line_at-with lines a)

-- the class with a label is that of the line with that key
class_or : (sort : Sort) (label : ℕ) (targets : List ℕ) (line : GraphLine) (lines : List GraphLine) (l : ℕ) →
    class_in line ≡ Some (record { sort = sort; label = label; targets = targets }) → key_of line ≡ Label label →
    class_with lines l ≡ option_and_then class_in (line_with lines (Label l)) → class_with (line ∷ lines) l ≡ option_and_then class_in (line_with (line ∷ lines) (Label l))
unfolding class_with line_with
class_or sort label targets line lines l is key rest =
    elim (cases_Bool (label == l)) [
      | inl s ↦ rw (key, s, is, s) refl
      | inr s ↦ rw (key, s, is, s) rest
    ]

pub class_with-with : (lines : List GraphLine) (l : ℕ) → class_with lines l ≡ option_and_then class_in (line_with lines (Label l))
unfolding class_with line_with
class_with-with [] l = refl
class_with-with (Calls numbers ∷ lines) l = class_with-with lines l
class_with-with (Leaf from to ∷ lines) l = class_with-with lines l
class_with-with (Class sort label targets ∷ lines) l = class_or sort label targets (Class sort label targets) lines l refl refl (class_with-with lines l)
class_with-with (Site address kind label ∷ lines) l = class_with-with lines l
class_with-with (Edge from to ∷ lines) l = class_with-with lines l
class_with-with (Call from to ∷ lines) l = class_with-with lines l
