-- One list of labels and one code are right, and the units of places depend on no flags but those of branches and stores.
use Rattle.std.proofs.Common.{◌≡◌, ℕ, zero, suc, ◌+◌, ◌*◌, ◌%◌, ◌^◌, ◌<◌, ◌≤◌, Bool, true, inl, inr, List, [], ◌∷◌, ◌++◌, length, get_or, drop, take, map, refl, sym, ap, subst, ◌∙◌, arith, cond, Option}
use Rattle.std.specs.Prelude.{◌-◌, ◌&&◌, not, if◌then◌else◌, slice_get, slice_index, Some, false}
use Rattle.std.proofs.Math.Seq.{take-suc}
use Rattle.std.proofs.lemmas.Bool.{cases_Bool, cases_lt, or_left, or_right}
use Rattle.std.proofs.lemmas.List.{get_or_past, take_all}
use Rattle.cfi_single.proofs.Prelude.{GraphVersion, OneLabel, TwoLabels, CalleeSaves, Instr, ItemKind, Item, count, item_of, no_item, AreLabels, IsLeastFree, ProgramAtMap, aim_of, entered_in, in_leaf, site_label, whole_at, TargetWord, code_words, is_branch, is_store, field, level, lowest, members_from, jump_word, Choice, Group, followers, group_at, instr_of, is_later_at, lead, lean_unit_of, low_by, mask_at, member_at, offset_at, unit_by, unit_here, unit_of, unit_places, units, units_of}
use Rattle.rv_instr.specs.declared.instr.Instr.TheVariants as I
use Rattle.obj_input.specs.declared.item_kind.ItemKind.TheVariants as is
use Rattle.cfi_unit.specs.declared.unit.Unit as U
use Rattle.cfi_writer.proofs.Runs.{place_there}
use Rattle.cfi_single.proofs.Placed.{SameSizes, is_sized}

-- labels
least_same : (used earlier : List ℕ) (x y : ℕ) → IsLeastFree used earlier x → IsLeastFree used earlier y → x ≡ y
least_same used earlier x y hx hy = elim (cases_lt x y) [
  | inl less ↦ absurd (hx.free (hy.least x hx.from_one less))
  | inr past ↦ elim (cases_lt y x) [
    | inl less ↦ absurd (hy.free (hx.least y hy.from_one less))
    | inr same ↦ omega arith
  ]
]

first_labels : (used a b : List ℕ) → length a ≡ length b → AreLabels used a → AreLabels used b → (k : ℕ) → k ≤ length a → take k a ≡ take k b
first_labels used a b many ha hb zero few = refl
first_labels used a b many ha hb (suc k) few =
    let before = first_labels used a b many ha hb k (omega arith) in
    let one : get_or a k 0 ≡ get_or b k 0 =
    least_same used (take k a) (get_or a k 0) (get_or b k 0) (ha k (omega arith))
    (subst (λ (xs : List ℕ). IsLeastFree used xs (get_or b k 0)) (sym before) (hb k (omega arith))) in
    take-suc a k 0 (omega arith)
    ∙ ap (λ (xs : List ℕ). xs ++ get_or a k 0 ∷ []) before ∙ ap (λ (x : ℕ). take k b ++ x ∷ []) one
    ∙ sym (take-suc b k 0 (omega arith))

pub labels_unique : (used a b : List ℕ) → length a ≡ length b → AreLabels used a → AreLabels used b → a ≡ b
labels_unique used a b many ha hb =
    sym (take_all (length a) a (omega arith)) ∙ first_labels used a b many ha hb (length a) (omega arith)
    ∙ take_all (length a) b (omega arith)

-- units
kind_same : (calls : Option (List ℕ)) (kind : ItemKind) (i : Instr) (a b : Bool) (target : ℕ) (which : TargetWord) (label : ℕ) (group : Group) → (is_branch kind ≡ true → a ≡ b)
    → unit_of calls kind i a target which label group ≡ unit_of calls kind i b target which label group
kind_same calls is.Branch i a b target which label group same = ap (λ (l : Bool). unit_of calls is.Branch i l target which label group) (same refl)
kind_same calls is.Gate (I.Upper op rd imm) a b target which label group same = refl
kind_same calls is.Gate other a b target which label group same = refl
kind_same calls is.Store (I.Store op rs1 rs2 imm) a b target which label group same = refl
kind_same calls is.Store other a b target which label group same = refl
kind_same calls is.System I.Ecall a b target which label group same = refl
kind_same calls is.System I.Ebreak a b target which label group same = refl
kind_same calls is.System other a b target which label group same = refl
kind_same calls is.Ijump (I.Jalr rd rs1 imm) a b target which label group same = refl
kind_same calls is.Ijump other a b target which label group same = refl
kind_same calls is.Icall (I.Jalr rd rs1 imm) a b target which label group same = refl
kind_same calls is.Icall other a b target which label group same = refl
kind_same calls kind i a b target which label group same = refl

lean_same : (calls : Option (List ℕ)) (inside : Bool) (kind : ItemKind) (i : Instr) (a b : Bool) (target label : ℕ) (group : Group) → (is_branch kind ≡ true → a ≡ b)
    → lean_unit_of calls inside kind i a target label group ≡ lean_unit_of calls inside kind i b target label group
lean_same calls inside is.Call i a b target label group same = refl
lean_same calls inside is.Return i a b target label group same = refl
lean_same calls inside is.Ijump (I.Jalr rd rs1 imm) a b target label group same = refl
lean_same calls inside is.Ijump other a b target label group same = refl
lean_same calls inside is.Icall (I.Jalr rd rs1 imm) a b target label group same = refl
lean_same calls inside is.Icall other a b target label group same = refl
lean_same calls inside other i a b target label group same = kind_same calls other i a b target (jump_word CalleeSaves) label group same

unit_same : (version : GraphVersion) (calls : Option (List ℕ)) (inside : Bool) (kind : ItemKind) (i : Instr) (a b : Bool) (target label : ℕ) (group : Group)
    → (is_branch kind ≡ true → a ≡ b) → unit_by version calls inside kind i a target label group ≡ unit_by version calls inside kind i b target label group
unit_same OneLabel calls inside kind i a b target label group same = kind_same calls kind i a b target (jump_word OneLabel) label group same
unit_same TwoLabels calls inside kind i a b target label group same = kind_same calls kind i a b target (jump_word TwoLabels) label group same
unit_same CalleeSaves calls inside kind i a b target label group same = lean_same calls inside kind i a b target label group same

-- a program at a map with these labels, under these flags
abbrev pub under : ProgramAtMap → List ℕ → List Bool → Choice
under layout labels whole = record { layout = layout; whole = whole; labels = labels }

module _ (layout : ProgramAtMap) (labels : List ℕ) (whole more : List Bool) (same : SameSizes whole more 0 layout.program.items) where
  abbrev one : Choice
  one = under layout labels whole

  abbrev other : Choice
  other = under layout labels more

  flag_same : (k : ℕ) → k < count layout.program → is_sized (item_of layout.program k).kind ≡ true → whole_at whole k ≡ whole_at more k
  flag_same k below sized =
      let start : 0 + k ≡ k = omega arith in
      subst (λ (n : ℕ). whole_at whole n ≡ whole_at more n) start (same k below sized)

  no_store : (k : ℕ) → count layout.program ≤ k → is_store (item_of layout.program k).kind ≡ false
  no_store k past = ap (λ (i : Item). is_store i.kind) (get_or_past layout.program.items k no_item past)

  -- which places hold later stores
  later_same : (k : ℕ) → is_later_at one k ≡ is_later_at other k
  later_same k =
      elim (cases_Bool (is_store (item_of layout.program k).kind)) [
        | inr none ↦ rw none refl
        | inl store ↦ elim (cases_lt k (count layout.program)) [
          | inl below ↦
              ap (λ (w : Bool). is_store (item_of layout.program k).kind && not w)
              (flag_same k below (or_right (is_branch (item_of layout.program k).kind) (is_store (item_of layout.program k).kind) store))
          | inr past ↦ let wrong : true ≡ false = sym store ∙ no_store k past in absurd (cc)
        ]
      ]

  followers_same : (n k : ℕ) → followers one k n ≡ followers other k n
  unfolding followers
  followers_same zero k = refl
  followers_same (suc n) k =
      ap (λ (b : Bool). if b then suc (followers one (k + 1) n) else 0) (later_same k)
      ∙ ap (λ (m : ℕ). if is_later_at other k then suc m else 0) (followers_same n (k + 1))

  -- the level of a group's mask, with so many stores behind the first
  abbrev low_of : ℕ → ℕ → ℕ
  low_of k n = low_by (mask_at one k) (lowest (λ (j : ℕ). level (offset_at one j)) k n)

  group_same : (k : ℕ) → group_at one k ≡ group_at other k
  group_same k =
      ap (λ (n : ℕ). record {
        mask = mask_at one k;
        offset = field (low_of k n);
        members = members_from (member_at one (low_of k n)) k (suc n);
      }) (followers_same (count layout.program - (k + 1)) (k + 1))

  here_same : (k : ℕ) → k < count layout.program → unit_here one k ≡ unit_here other k
  here_same k below =
      let item = item_of layout.program k in
      let inside = in_leaf (entered_in layout) k in
      let label = site_label labels layout.closed.sides k in
      ap (unit_by layout.closed.version layout.closed.calls inside item.kind (instr_of one k) (whole_at whole k) (aim_of layout item) label) (group_same k)
      ∙ unit_same layout.closed.version layout.closed.calls inside item.kind (instr_of one k) (whole_at whole k) (whole_at more k) (aim_of layout item) label
      (group_at other k) (λ branch. flag_same k below (or_left (is_branch item.kind) (is_store item.kind) branch))

  places_same : (n k : ℕ) → unit_places one k n ≡ unit_places other k n
  places_same zero k = refl
  places_same (suc n) k =
      ap (λ (b : Bool). cond (not b) (k ∷ unit_places one (k + 1) n) (unit_places one (k + 1) n)) (later_same k)
      ∙ ap (λ (ks : List ℕ). cond (not (is_later_at other k)) (k ∷ ks) ks) (places_same n (k + 1))

  listed_same : (places : List ℕ) → ((i k : ℕ) → slice_get places i ≡ Some k → k < count layout.program) → units_of one places ≡ units_of other places
  unfolding units_of
  listed_same [] there = refl
  listed_same (k ∷ places) there =
      ap (λ (u : U.Unit). lead one k ++ (u ∷ units_of one places)) (here_same k (there 0 k refl))
      ∙ ap (λ (us : List U.Unit). lead one k ++ (unit_here other k ∷ us)) (listed_same places (λ i j get. there (suc i) j get))

  pub units_same : units one ≡ units other
  units_same =
      listed_same (unit_places one 0 (count layout.program))
      (λ i k get. let (from, to, first) = place_there one 0 (count layout.program) i k get in omega arith)
      ∙ ap (units_of other) (places_same (count layout.program) 0)

-- bytes of a code
abbrev pub AreSmall : List ℕ → Type 0
AreSmall bytes = (k : ℕ) → slice_index bytes k < 2 ^ 8

word_same : (a b c d e f g h : ℕ) → a < 2 ^ 8 → b < 2 ^ 8 → c < 2 ^ 8 → d < 2 ^ 8 → e < 2 ^ 8 → f < 2 ^ 8 → g < 2 ^ 8 → h < 2 ^ 8
    → a + 2 ^ 8 * b + 2 ^ 16 * c + 2 ^ 24 * d ≡ e + 2 ^ 8 * f + 2 ^ 16 * g + 2 ^ 24 * h
    → (a ≡ e) × (b ≡ f) × (c ≡ g) × (d ≡ h)
word_same a b c d e f g h la lb lc ld le lf lg lh same =
    let first : a ≡ e = omega arith in
    let second : b ≡ f = omega arith in
    let third : c ≡ g = omega arith in
    (first, second, third, omega arith)

pub bytes_same : (xs ys : List ℕ) → length xs % 4 ≡ 0 → length ys % 4 ≡ 0 → AreSmall xs → AreSmall ys → code_words xs ≡ code_words ys → xs ≡ ys
unfolding code_words
bytes_same [] [] m n small less same = refl
bytes_same [] (e ∷ []) m n small less same = absurd (omega arith)
bytes_same [] (e ∷ f ∷ []) m n small less same = absurd (omega arith)
bytes_same [] (e ∷ f ∷ g ∷ []) m n small less same = absurd (omega arith)
bytes_same [] (e ∷ f ∷ g ∷ h ∷ ys) m n small less same = absurd (cc)
bytes_same (a ∷ []) ys m n small less same = absurd (omega arith)
bytes_same (a ∷ b ∷ []) ys m n small less same = absurd (omega arith)
bytes_same (a ∷ b ∷ c ∷ []) ys m n small less same = absurd (omega arith)
bytes_same (a ∷ b ∷ c ∷ d ∷ xs) [] m n small less same = absurd (cc)
bytes_same (a ∷ b ∷ c ∷ d ∷ xs) (e ∷ []) m n small less same = absurd (omega arith)
bytes_same (a ∷ b ∷ c ∷ d ∷ xs) (e ∷ f ∷ []) m n small less same = absurd (omega arith)
bytes_same (a ∷ b ∷ c ∷ d ∷ xs) (e ∷ f ∷ g ∷ []) m n small less same = absurd (omega arith)
bytes_same (a ∷ b ∷ c ∷ d ∷ xs) (e ∷ f ∷ g ∷ h ∷ ys) m n small less same =
    let word = ap (λ (ws : List ℕ). get_or ws 0 0) same in
    let here = word_same a b c d e f g h (small 0) (small 1) (small 2) (small 3) (less 0) (less 1) (less 2) (less 3) word in
    let rest =
    bytes_same xs ys (omega arith) (omega arith) (λ k. small (suc (suc (suc (suc k))))) (λ k. less (suc (suc (suc (suc k)))))
    (ap (λ (ws : List ℕ). drop 1 ws) same) in
    ap (λ (x : ℕ). x ∷ b ∷ c ∷ d ∷ xs) here.0 ∙ ap (λ (x : ℕ). e ∷ x ∷ c ∷ d ∷ xs) here.1 ∙ ap (λ (x : ℕ). e ∷ f ∷ x ∷ d ∷ xs) here.2
    ∙ ap (λ (x : ℕ). e ∷ f ∷ g ∷ x ∷ xs) here.3 ∙ ap (λ (zs : List ℕ). e ∷ f ∷ g ∷ h ∷ zs) rest
