-- One placement is right for a program with its closed graph: the same stores join a group and the same branches are long, so the program
-- is at the same map.
use Rattle.std.proofs.Common.{◌≡◌, ℕ, zero, suc, ◌+◌, ◌<◌, ◌≤◌, Bool, true, false, Option, List, [], ◌∷◌, length, get_or, inl, inr, not, refl, sym, ap, subst, ◌∙◌, arith, ◌||◌}
use Rattle.std.proofs.lemmas.Bool.{or_cases, or_right}
use Rattle.cfi_single.proofs.Prelude.{profile_for, CODE_SIZE, Form, GraphVersion, OneLabel, TwoLabels, CalleeSaves, ItemKind, Item, Program, item_of, no_item, IsLongSet, ClosedGraph, Entered, entered_at, lead_size, in_leaf, ProgramAtMap, entered_in, program_at, bounds_in, is_short, is_store, may_join, AreGates, is_ecall, kind_size, lean_size, size_by, size_of, whole_at, IsPlacement, IsPlacementOf, Spaced, shorts_of, is_branch, grouped_parts, grouped_sizes, whole_size}
use Rattle.obj_input.specs.declared.item_kind.ItemKind.TheVariants as is
use Rattle.cfi_layout.specs.LongSet.{is_branch as is_part}
use Rattle.cfi_map.proofs.GroupsAgree.{members_alike}
use Rattle.cfi_map.proofs.ShortList.{parts_are}

same_truth : (a b : Bool) → (a ≡ true → b ≡ true) → (b ≡ true → a ≡ true) → a ≡ b
same_truth true b to from = sym (to refl)
same_truth false true to from = from refl
same_truth false false to from = refl

-- a branch and a store have a unit of one of two sizes
abbrev pub is_sized : ItemKind → Bool
is_sized kind = is_branch kind || is_store kind

-- of these places each branch and each store has its whole size under both flags, or under neither
abbrev pub SameSizes : List Bool → List Bool → ℕ → List Item → Type 0
SameSizes whole more k items =
    (i : ℕ) → i < length items → is_sized (get_or items i no_item).kind ≡ true → whole_at whole (k + i) ≡ whole_at more (k + i)

pub first_sized : (whole more : List Bool) (k : ℕ) (item : Item) (items : List Item) → SameSizes whole more k (item ∷ items)
    → is_sized item.kind ≡ true → whole_at whole k ≡ whole_at more k
first_sized whole more k item items same sized =
    let first : k + 0 ≡ k = omega arith in
    subst (λ (n : ℕ). whole_at whole n ≡ whole_at more n) first (same 0 (omega arith) sized)

pub rest_sized : (whole more : List Bool) (k : ℕ) (item : Item) (items : List Item) → SameSizes whole more k (item ∷ items)
    → SameSizes whole more (k + 1) items
rest_sized whole more k item items same i below sized =
    let next : k + suc i ≡ k + 1 + i = omega arith in
    subst (λ (n : ℕ). whole_at whole n ≡ whole_at more n) next (same (suc i) (omega arith) sized)

same_size : (calls : Option (List ℕ)) (kind : ItemKind) (ecall a b : Bool) → (is_sized kind ≡ true → a ≡ b) → kind_size calls kind ecall a ≡ kind_size calls kind ecall b
same_size calls is.Branch ecall a b same = ap (kind_size calls is.Branch ecall) (same refl)
same_size calls is.Store ecall a b same = ap (kind_size calls is.Store ecall) (same refl)
same_size calls other ecall a b same = refl

lean_same : (calls : Option (List ℕ)) (kind : ItemKind) (ecall short inside a b : Bool) → (is_sized kind ≡ true → a ≡ b)
    → lean_size calls kind ecall short inside a ≡ lean_size calls kind ecall short inside b
lean_same calls is.Store ecall short inside a b same = ap (lean_size calls is.Store ecall short inside) (same refl)
lean_same calls is.Call ecall short inside a b same = refl
lean_same calls is.Return ecall short inside a b same = refl
lean_same calls is.Ijump ecall short inside a b same = refl
lean_same calls is.Icall ecall short inside a b same = refl
lean_same calls other ecall short inside a b same = same_size calls other ecall a b same

size_same : (version : GraphVersion) (calls : Option (List ℕ)) (inside : Bool) (item : Item) (a b : Bool) → (is_sized item.kind ≡ true → a ≡ b)
    → size_by version calls inside item a ≡ size_by version calls inside item b
size_same OneLabel calls inside item a b same = same_size calls item.kind (is_ecall item) a b same
size_same TwoLabels calls inside item a b same = same_size calls item.kind (is_ecall item) a b same
size_same CalleeSaves calls inside item a b same = lean_same calls item.kind (is_ecall item) (is_short item) inside a b same

gates_same : (of : Entered) (whole more : List Bool) (k at : ℕ) (items : List Item) (gates others : List ℕ)
    → SameSizes whole more k items → AreGates of whole k at items gates → AreGates of more k at items others → gates ≡ others
unfolding AreGates
gates_same of whole more k at [] [] [] same a b = refl
gates_same of whole more k at [] (g ∷ gates) others same a b = absurd a
gates_same of whole more k at [] [] (o ∷ others) same a b = absurd b
gates_same of whole more k at (item ∷ items) [] others same a b = absurd a
gates_same of whole more k at (item ∷ items) (g ∷ gates) [] same a b = absurd b
gates_same of whole more k at (item ∷ items) (g ∷ gates) (o ∷ others) same a b =
    let start = at + lead_size of k in
    let size : size_of of k item (whole_at whole k) ≡ size_of of k item (whole_at more k) =
    size_same of.closed.version of.closed.calls (in_leaf of k) item (whole_at whole k) (whole_at more k) (first_sized whole more k item items same) in
    let there : AreGates of more (k + 1) (start + size_of of k item (whole_at whole k)) items others =
    subst (λ (n : ℕ). AreGates of more (k + 1) (start + n) items others) (sym size) b.1 in
    let rest =
    gates_same of whole more (k + 1) (start + size_of of k item (whole_at whole k)) items gates others
    (rest_sized whole more k item items same) a.1 there in
    let head : g ≡ o = a.0 ∙ sym b.0 in
    ap (λ (x : ℕ). x ∷ gates) head ∙ ap (λ (xs : List ℕ). o ∷ xs) rest

-- of these places each store has its whole size under both flags, or under neither
abbrev SameStores : List Bool → List Bool → ℕ → List Item → Type 0
SameStores whole more k items =
    (i : ℕ) → i < length items → is_store (get_or items i no_item).kind ≡ true → whole_at whole (k + i) ≡ whole_at more (k + i)

whole_same : (store a b : Bool) → (store ≡ true → a ≡ b) → (a || not store) ≡ (b || not store)
whole_same true a b same = ap (λ (w : Bool). w || false) (same refl)
whole_same false a b same = or_right a true refl ∙ sym (or_right b true refl)

grouped_same : (of : Entered) (whole more : List Bool) (k : ℕ) (items : List Item) → SameStores whole more k items →
    grouped_sizes of whole k items ≡ grouped_sizes of more k items
unfolding grouped_sizes
grouped_same of whole more k [] same = refl
grouped_same of whole more k (item ∷ items) same =
    let start : k + 0 ≡ k = omega arith in
    let next : (i : ℕ) → k + suc i ≡ k + 1 + i = λ i. omega arith in
    let here : is_store item.kind ≡ true → whole_at whole k ≡ whole_at more k =
    λ store. subst (λ (n : ℕ). whole_at whole n ≡ whole_at more n) start (same 0 (omega arith) store) in
    let rest = grouped_same of whole more (k + 1) items
    (λ i below store. subst (λ (n : ℕ). whole_at whole n ≡ whole_at more n) (next i) (same (suc i) (omega arith) store)) in
    ap (λ (w : Bool). (lead_size of k + size_of of k item w) ∷ grouped_sizes of whole (k + 1) items) (whole_same (is_store item.kind) (whole_at whole k) (whole_at more k) here)
    ∙ ap (λ (ns : List ℕ). (lead_size of k + size_of of k item (whole_at more k || not (is_store item.kind))) ∷ ns) rest

-- the code of a program that is placed has room with every branch long
pub placed_room : (form : Form) (program : Program) (closed : ClosedGraph) (entry : ℕ) (s : Spaced) → IsPlacementOf form program closed entry s →
    whole_size form (entered_at program closed entry) ≤ CODE_SIZE
placed_room form program closed entry s hs = subst (λ (l : ProgramAtMap). whole_size form (entered_in l) ≤ CODE_SIZE) hs.of hs.placed.room

module _ (form : Form) (program : Program) (closed : ClosedGraph) (entry : ℕ) (s t : Spaced)
    (hs : IsPlacementOf form program closed entry s) (ht : IsPlacementOf form program closed entry t) where
  -- both at this program
  first : IsPlacement form (record { layout = program_at form program closed s.layout.gates entry; whole = s.whole })
  first = subst (λ (l : ProgramAtMap). IsPlacement form (record { layout = l; whole = s.whole })) hs.of hs.placed

  second : IsPlacement form (record { layout = program_at form program closed t.layout.gates entry; whole = t.whole })
  second = subst (λ (l : ProgramAtMap). IsPlacement form (record { layout = l; whole = t.whole })) ht.of ht.placed

  abbrev items : ℕ → Item
  items = item_of program

  abbrev of_here : Entered
  of_here = entered_at program closed entry

  -- each store joins the group before it under both flags, or under neither
  stores_below : (n k : ℕ) → k < n → is_store (items k).kind ≡ true → whole_at s.whole k ≡ whole_at t.whole k
  stores_below zero k below store = absurd (omega arith)
  stores_below (suc n) k below store =
      let before = members_alike items items (whole_at s.whole) (whole_at t.whole) k (λ j less. refl) (λ j less is_one. stores_below n j (omega arith) is_one) in
      first.groups k store ∙ ap (λ (m : ℕ). not (may_join items (bounds_in of_here) k m)) before ∙ sym (second.groups k store)

  stores_same : SameStores s.whole t.whole 0 program.items
  stores_same i below store =
      let start : i ≡ 0 + i = omega arith in
      subst (λ (n : ℕ). whole_at s.whole n ≡ whole_at t.whole n) start (stores_below (suc i) i (omega arith) store)

  parts_same : grouped_parts of_here s.whole ≡ grouped_parts of_here t.whole
  parts_same = grouped_same of_here s.whole t.whole 0 program.items stores_same

  -- each long set lies in the other
  flags_same : SameSizes s.whole t.whole 0 program.items
  flags_same i below sized =
      let start : i ≡ 0 + i = omega arith in
      subst (λ (n : ℕ). whole_at s.whole n ≡ whole_at t.whole n) start
      (elim (or_cases (is_branch (items i).kind) (is_store (items i).kind) sized) [
        | inr store ↦ stores_below (suc i) i (omega arith) store
        | inl branch ↦
            let part : is_part (shorts_of of_here) i ≡ true = parts_are of_here i first.sound below ∙ branch in
            let other = subst (λ (parts : List ℕ). IsLongSet (profile_for form).units_from (shorts_of of_here) parts (whole_at t.whole)) (sym parts_same) second.least in
            same_truth (whole_at s.whole i) (whole_at t.whole i)
            (λ whole. first.least.least (whole_at t.whole) other.closed i part whole)
            (λ whole. other.least (whole_at s.whole) first.least.closed i part whole)
      ])

  pub sizes_same : SameSizes s.whole t.whole 0 t.layout.program.items
  sizes_same = subst (λ (l : ProgramAtMap). SameSizes s.whole t.whole 0 l.program.items) (sym ht.of) flags_same

  gates_unique : s.layout.gates ≡ t.layout.gates
  gates_unique = gates_same of_here s.whole t.whole 0 _ program.items s.layout.gates t.layout.gates flags_same first.legal second.legal

  pub layout_unique : s.layout ≡ t.layout
  layout_unique = hs.of ∙ ap (λ (gates : List ℕ). program_at form program closed gates entry) gates_unique ∙ sym ht.of
