-- The first lines of a legal map are legal for as many first places, so a map has no wrong line where it is legal, and else one first.
use Rattle.std.proofs.Common.{◌≡◌, ℕ, zero, suc, ◌+◌, ◌<◌, ◌≤◌, Bool, true, false, List, [], ◌∷◌, length, map, take, get_or, inl, inr, refl, sym, ap, subst, ◌∙◌, arith}
use Rattle.std.proofs.lemmas.Bool.{cases_eq, cases_lt}
use Rattle.std.proofs.lemmas.List.{get_or-take, get_or_past, length-take, take-map}
use Rattle.src_machine.proofs.Prelude.{profile_for, Form, MapParts, MapLine, Item, Program, item_of, no_item, ClosedGraph, Entered, entered_at, lead_size, AreGroups, Bounds, bounds_in, AreLegal, IsLegalMap, gates_of, BeginsLegal, IsWrongLine, AreGates, whole_at, size_of, BeginsAsLegal, OneIsFirst, WrongIsNotLegal}
use Rattle.cfi_map.proofs.GroupFacts.{later_parts}
use Rattle.cfi_map.proofs.GroupsAgree.{groups_alike, store_below}

first_gates : (of : Entered) (whole : List Bool) (k at : ℕ) (items : List Item) (gates : List ℕ) (n : ℕ)
    → AreGates of whole k at items gates → AreGates of whole k at (take n items) (take n gates)
unfolding AreGates
first_gates of whole k at items gates zero are = tt
first_gates of whole k at [] [] (suc n) are = tt
first_gates of whole k at [] (gate ∷ gates) (suc n) are = absurd are
first_gates of whole k at (item ∷ items) [] (suc n) are = absurd are
first_gates of whole k at (item ∷ items) (gate ∷ gates) (suc n) are = (are.0, first_gates of whole (k + 1) _ items gates n are.1)

first_first : {A : Type 0} (xs : List A) (n m : ℕ) → n ≤ m → take n (take m xs) ≡ take n xs
first_first xs zero m below = refl
first_first [] (suc n) zero below = absurd (omega arith)
first_first [] (suc n) (suc m) below = refl
first_first (x ∷ xs) (suc n) zero below = absurd (omega arith)
first_first (x ∷ xs) (suc n) (suc m) below = ap (λ (ys : List _). x ∷ ys) (first_first xs n m (omega arith))

-- the first lines of a program
first_groups : (items : List Item) (bounds : Bounds) (whole : List Bool) (n : ℕ)
    → AreGroups (λ k. get_or items k no_item) bounds (whole_at whole) → AreGroups (λ k. get_or (take n items) k no_item) bounds (whole_at whole)
first_groups items bounds whole n groups =
    let taken : ℕ → Item = λ k. get_or (take n items) k no_item in
    groups_alike (λ k. get_or items k no_item) taken bounds (whole_at whole) (whole_at whole) n groups
    (λ k later.
    let there = store_below (take n items) k (later_parts taken bounds (whole_at whole) k later).0 in
    let size = length-take n items in
    omega arith)
    (λ j below. sym (get_or-take n items j no_item below)) (λ j below. refl)

first_legal : (of : Entered) (items : List Item) (g : MapParts) (n : ℕ) → AreLegal of items g →
    AreLegal of (take n items) (record g { lines = take n g.lines })
first_legal of items g n legal = record {
  sections = sym (take-map (λ (l : MapLine). l.section) n g.lines) ∙ ap (take n) legal.sections ∙ take-map (λ (i : Item). i.section) n items;
  offsets = sym (take-map (λ (l : MapLine). l.offset) n g.lines) ∙ ap (take n) legal.offsets ∙ take-map (λ (i : Item). i.offset) n items;
  gates = (
    legal.gates.0,
    subst (λ (gates : List ℕ). AreGates of legal.gates.0 0 (profile_for g.form).units_from (take n items) gates) (take-map (λ (l : MapLine). l.gate) n g.lines)
        (first_gates of legal.gates.0 0 (profile_for g.form).units_from items (gates_of g.lines) n legal.gates.1),
    first_groups items (bounds_in of) legal.gates.0 n legal.gates.2,
  );
}

begins_first : (program : Program) (closed : ClosedGraph) (entry : ℕ) (g : MapParts) (n : ℕ) → IsLegalMap program closed entry g →
    BeginsLegal program closed entry g n
begins_first program closed entry g n legal = first_legal (entered_at program closed entry) program.items g n legal

begins_less : (program : Program) (closed : ClosedGraph) (entry : ℕ) (g : MapParts) (n m : ℕ) → n ≤ m → BeginsLegal program closed entry g m →
    BeginsLegal program closed entry g n
begins_less program closed entry g n m below legal =
    let of = entered_at program closed entry in
    let first = first_legal of (take m program.items) (record g { lines = take m g.lines }) n legal in
    subst (λ (items : List Item). AreLegal of items (record g { lines = take n g.lines })) (first_first program.items n m below)
    (subst (λ (ls : List MapLine). AreLegal of (take n (take m program.items)) (record g { lines = ls })) (first_first g.lines n m below) first)

pub wrong_is_not_legal : WrongIsNotLegal
wrong_is_not_legal program closed entry g number wrong legal = wrong.wrong (begins_first program closed entry g (wrong.index + 1) legal)

-- what is right before one line is right before all that come earlier
not_before : (program : Program) (closed : ClosedGraph) (entry : ℕ) (g : MapParts) (a b : ℕ) → IsWrongLine program closed entry g a →
    IsWrongLine program closed entry g b → a < b → ⊥
not_before program closed entry g a b one other less =
    let here = one.numbered in
    let there = other.numbered in
    one.wrong (begins_less program closed entry g (one.index + 1) other.index (omega arith) other.before)

pub one_is_first : OneIsFirst
one_is_first program closed entry g a b one other = elim (cases_lt a b) [
  | inl less ↦ absurd (not_before program closed entry g a b one other less)
  | inr more ↦ elim (cases_eq a b) [
    | inl same ↦ same
    | inr apart ↦ absurd (not_before program closed entry g b a other one (omega arith))
  ]
]

-- the lines of a placement with these branches long
unfoldable lines_at : Entered → List Bool → ℕ → ℕ → List Item → List MapLine
lines_at of whole k at [] = []
lines_at of whole k at (item ∷ items) =
    record { gate = at; section = item.section; offset = item.offset }
    ∷ lines_at of whole (k + 1) (at + lead_size of k + size_of of k item (whole_at whole k)) items

gates_at : (of : Entered) (whole : List Bool) (k at : ℕ) (items : List Item) → AreGates of whole k at items (gates_of (lines_at of whole k at items))
unfolding lines_at AreGates
gates_at of whole k at [] = tt
gates_at of whole k at (item ∷ items) = (refl, gates_at of whole (k + 1) (at + lead_size of k + size_of of k item (whole_at whole k)) items)

sections_at : (of : Entered) (whole : List Bool) (k at : ℕ) (items : List Item) →
    map (λ (l : MapLine). l.section) (lines_at of whole k at items) ≡ map (λ (i : Item). i.section) items
unfolding lines_at
sections_at of whole k at [] = refl
sections_at of whole k at (item ∷ items) =
    ap (λ (ns : List ℕ). item.section ∷ ns) (sections_at of whole (k + 1) (at + lead_size of k + size_of of k item (whole_at whole k)) items)

offsets_at : (of : Entered) (whole : List Bool) (k at : ℕ) (items : List Item) →
    map (λ (l : MapLine). l.offset) (lines_at of whole k at items) ≡ map (λ (i : Item). i.offset) items
unfolding lines_at
offsets_at of whole k at [] = refl
offsets_at of whole k at (item ∷ items) =
    ap (λ (ns : List ℕ). item.offset ∷ ns) (offsets_at of whole (k + 1) (at + lead_size of k + size_of of k item (whole_at whole k)) items)

heads : (a b : ℕ) (xs ys : List ℕ) → a ∷ xs ≡ b ∷ ys → (a ≡ b) × (xs ≡ ys)
heads a b xs ys e = (cc, cc)

one_line : (line : MapLine) (item : Item) (at : ℕ) → line.gate ≡ at → line.section ≡ item.section → line.offset ≡ item.offset →
    line ≡ record { gate = at; section = item.section; offset = item.offset }
one_line line item at gate section offset =
    ap (λ (g : ℕ). record line { gate = g }) gate ∙ ap (λ (s : ℕ). record line { gate = at; section = s }) section
    ∙ ap (λ (o : ℕ). record line { gate = at; section = item.section; offset = o }) offset

same_lines : (of : Entered) (whole : List Bool) (k at : ℕ) (items : List Item) (lines : List MapLine) (n : ℕ) →
    AreGates of whole k at (take n items) (gates_of (take n lines)) →
    map (λ (l : MapLine). l.section) (take n lines) ≡ map (λ (i : Item). i.section) (take n items) →
    map (λ (l : MapLine). l.offset) (take n lines) ≡ map (λ (i : Item). i.offset) (take n items) →
    take n lines ≡ take n (lines_at of whole k at items)
unfolding lines_at AreGates
same_lines of whole k at items lines zero are sections offsets = refl
same_lines of whole k at [] [] (suc n) are sections offsets = refl
same_lines of whole k at [] (line ∷ lines) (suc n) are sections offsets = absurd are
same_lines of whole k at (item ∷ items) [] (suc n) are sections offsets = absurd are
same_lines of whole k at (item ∷ items) (line ∷ lines) (suc n) are sections offsets =
    let s = heads line.section item.section _ _ sections in
    let o = heads line.offset item.offset _ _ offsets in
    ap (λ (l : MapLine). l ∷ take n lines) (one_line line item at are.0 s.0 o.0)
    ∙ ap (λ (ls : List MapLine). record { gate = at; section = item.section; offset = item.offset } ∷ ls)
    (same_lines of whole (k + 1) (at + lead_size of k + size_of of k item (whole_at whole k)) items lines n are.1 s.1 o.1)

-- a placement's gates are those of any flags that are the same at its places
gates_alike : (of : Entered) (whole other : List Bool) (k at : ℕ) (items : List Item) (gates : List ℕ)
    → ((i : ℕ) → i < length items → whole_at whole (k + i) ≡ whole_at other (k + i)) → AreGates of whole k at items gates → AreGates of other k at items gates
unfolding AreGates
gates_alike of whole other k at [] [] same are = tt
gates_alike of whole other k at [] (gate ∷ gates) same are = absurd are
gates_alike of whole other k at (item ∷ items) [] same are = absurd are
gates_alike of whole other k at (item ∷ items) (gate ∷ gates) same are =
    let plus : k + 0 ≡ k = omega arith in
    let here : whole_at whole k ≡ whole_at other k = subst (λ (j : ℕ). whole_at whole j ≡ whole_at other j) plus (same 0 (omega arith)) in (
      are.0,
      gates_alike of whole other (k + 1) (at + lead_size of k + size_of of k item (whole_at other k)) items gates
          (λ i below.
          let next : k + suc i ≡ k + 1 + i = omega arith in
          subst (λ (j : ℕ). whole_at whole j ≡ whole_at other j) next (same (suc i) (omega arith)))
          (subst (λ (b : Bool). AreGates of whole (k + 1) (at + lead_size of k + size_of of k item b) items gates) here are.1),
    )

-- a legal beginning goes on to a legal map: behind it each unit has its whole size
module _ (program : Program) (closed : ClosedGraph) (entry : ℕ) (g : MapParts) (n : ℕ) (begins : BeginsLegal program closed entry g n) where
  abbrev from : ℕ
  from = (profile_for g.form).units_from

  abbrev of_here : Entered
  of_here = entered_at program closed entry

  abbrev flags : List Bool
  flags = take n begins.gates.0

  abbrev whole_map : MapParts
  whole_map = record { form = g.form; lines = lines_at of_here flags 0 from program.items }

  same_flags : (j : ℕ) → j < n → whole_at begins.gates.0 j ≡ whole_at flags j
  same_flags j below = sym (get_or-take n begins.gates.0 j true below)

  flags_groups : AreGroups (item_of program) (bounds_in of_here) (whole_at flags)
  flags_groups =
      groups_alike (λ k. get_or (take n program.items) k no_item) (item_of program) (bounds_in of_here) (whole_at begins.gates.0) (whole_at flags) n begins.gates.2
      (λ k later. elim (cases_lt k n) [
        | inl below ↦ below
        | inr past ↦
            let size = length-take n begins.gates.0 in
            let none : whole_at flags k ≡ true = get_or_past flags k true (omega arith) in
            let short = (later_parts (item_of program) (bounds_in of_here) (whole_at flags) k later).1 in
            let wrong : true ≡ false = sym none ∙ short in
            absurd (cc)
      ])
      (λ j below. get_or-take n program.items j no_item below) same_flags

  whole_legal : IsLegalMap program closed entry whole_map
  whole_legal = record {
    sections = sections_at of_here flags 0 from program.items;
    offsets = offsets_at of_here flags 0 from program.items;
    gates = (flags, gates_at of_here flags 0 from program.items, flags_groups);
  }

  whole_begins : take n g.lines ≡ take n whole_map.lines
  whole_begins =
      same_lines of_here flags 0 from program.items g.lines n
      (gates_alike of_here begins.gates.0 flags 0 from (take n program.items) (gates_of (take n g.lines))
      (λ i below.
      let size = length-take n program.items in
      let plus : i ≡ 0 + i = omega arith in
      subst (λ (j : ℕ). whole_at begins.gates.0 j ≡ whole_at flags j) plus (same_flags i (omega arith)))
      begins.gates.1)
      begins.sections begins.offsets

pub begins_as_legal : BeginsAsLegal
begins_as_legal program closed entry g n = (
  λ begins. (
    whole_map program closed entry g n begins,
    whole_legal program closed entry g n begins,
    refl,
    whole_begins program closed entry g n begins,
  ),
  λ (legal, is, form, same).
      let of = entered_at program closed entry in
      subst (λ (f : Form). AreLegal of (take n program.items) (record { form = f; lines = take n g.lines })) form
      (subst (λ (ls : List MapLine). AreLegal of (take n program.items) (record { form = legal.form; lines = ls })) (sym same)
      (begins_first program closed entry legal n is)),
)
