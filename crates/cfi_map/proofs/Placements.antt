-- The placement of a program whose stores are grouped and whose branches are short where they can be.
use Rattle.std.proofs.Common.{◌≡◌, ℕ, zero, suc, refl, ◌+◌, ◌<◌, ◌≤◌, ◌^◌, Bool, true, false, List, [], ◌∷◌, ◌++◌, length, get_or, take, sym, ap, subst, ◌∙◌, arith, inl, inr}
use Rattle.std.specs.Prelude.{◌==◌, ◌||◌, Some, not, slice_get, sum}
use Rattle.std.specs.List.Sorted.{IsStrictlyIncreasing}
use Rattle.std.proofs.Math.ListN.{get_or-eq_default}
use Rattle.std.proofs.Math.Path.{fun_ext}
use Rattle.std.proofs.Math.Seq.{get_or-append_seam}
use Rattle.std.proofs.lemmas.Bool.{cases_Bool, cases_lt, eq-eqb, not_from_false, or_right}
use Rattle.std.proofs.lemmas.List.Folds.{list_any_at}
use Rattle.std.proofs.lemmas.Option.{get_or_from_slice_get, slice_get_within}
use Rattle.std.proofs.lemmas.List.{get_or-take, get_or_append_left, length-take-le}
use Rattle.rv_image.proofs.Profiles.{is_form_profile, laid_out}
use Rattle.cfi_map.proofs.Prelude.{image_version, profile_for, CODE_SIZE, Form, ItemKind, Item, Program, count, item_of, IsSound, Short, IsLongSet, is_forced, is_whole, sizes_under, sizes_where, starts_under, Placed, code_size, flag, starts_from, Entered, AreFirstStores, is_store, joins_in, members_before, AreGates, whole_at, IsPlacement, IsPlacementOf, IsShortened, joined, shorts_of, is_branch, ProgramAtMap, program_at, grouped_parts, part_sizes}
use Rattle.obj_input.specs.declared.item_kind.ItemKind.TheVariants as is
use Rattle.cfi_layout.specs.LongSet.{is_branch as is_part}
use Rattle.cfi_layout.proofs.Offsets.{length_starts, length_where, start_most, sum_where}
use Rattle.cfi_map.proofs.GroupedSizes.{grouped_less, grouped_same, length_grouped}
use Rattle.cfi_map.proofs.Greedy.{past_store}
use Rattle.cfi_map.proofs.PartSizes.{gates_are, gates_rise}
use Rattle.cfi_map.proofs.ShortList.{parts_are, parts_within}
use Rattle.cfi_map.proofs.Shortened.{starts_are}

-- a set of parts that is known at branches alone
sets_same : (branches : List Short) (long other : ℕ → Bool) → ((k : ℕ) → is_part branches k ≡ true → long k ≡ other k) → is_whole branches long ≡ is_whole branches other
sets_same branches long other same = fun_ext (λ k. elim (cases_Bool (is_part branches k)) [
  | inl part ↦ ap (λ (b : Bool). b || not (is_part branches k)) (same k part)
  | inr none ↦
      let free = not_from_false (is_part branches k) none in
      or_right (long k) (not (is_part branches k)) free ∙ sym (or_right (other k) (not (is_part branches k)) free)
])

listed_part : (branches : List Short) (i : ℕ) (b : Short) → slice_get branches i ≡ Some b → is_part branches b.at ≡ true
listed_part branches i b at =
    let there = slice_get_within branches i b at in
    let here : get_or branches i b ≡ b = get_or_from_slice_get branches i b b at in
    list_any_at (λ (x : Short). x.at == b.at) branches i b there (eq-eqb _ _ (ap (λ (x : Short). x.at) here))

long_set_same : (from : ℕ) (branches : List Short) (sizes : List ℕ) (long other : ℕ → Bool) → ((k : ℕ) → is_part branches k ≡ true → long k ≡ other k) →
    IsLongSet from branches sizes long → IsLongSet from branches sizes other
long_set_same from branches sizes long other same is =
    let whole = sets_same branches long other same in record {
      closed = λ i b at forced.
          sym (same b.at (listed_part branches i b at))
          ∙ is.closed i b at (subst (λ (f : ℕ → Bool). is_forced (starts_from from (sizes_where f 0 sizes)) b ≡ true) (sym whole) forced);
      least = λ another closed k part set. is.least another closed k part (same k part ∙ set);
    }

-- flags of stores alone tell groups
stores_same : (items : ℕ → Item) (whole other : ℕ → Bool) (k : ℕ) → ((j : ℕ) → is_store (items j).kind ≡ true → whole j ≡ other j) →
    members_before items whole k ≡ members_before items other k
unfolding members_before
stores_same items whole other zero same = refl
stores_same items whole other (suc k) same = elim (cases_Bool (is_store (items k).kind)) [
  | inl store ↦
      let here = same k store in
      let rest = stores_same items whole other k same in
      rw (here, rest) refl
  | inr none ↦ rw none refl
]

firsts_same : (of : Entered) (firsts whole : List Bool) → ((k : ℕ) → is_store (item_of of.program k).kind ≡ true → whole_at firsts k ≡ whole_at whole k) →
    AreFirstStores of firsts → AreFirstStores of whole
firsts_same of firsts whole same are k store =
    sym (same k store) ∙ are k store
    ∙ ap (λ (n : ℕ). not (joins_in of k n)) (stores_same (item_of of.program) (whole_at firsts) (whole_at whole) k same)

pub no_store : (kind : ItemKind) → is_branch kind ≡ true → is_store kind ≡ false
no_store is.Branch branch = refl
no_store other branch = absurd (cc)

module _ (form : Form) (of : Entered) (firsts : List Bool) (p : Placed) (is : IsShortened form of firsts p) where
  -- there is a start for each place, and the end
  pub starts_many : length p.starts ≡ count of.program + 1
  starts_many =
      ap length is.starts
      ∙ length_starts (profile_for form).units_from (sizes_under (flag p.long) (shorts_of of) (grouped_parts of firsts))
      ∙ ap (λ (n : ℕ). n + 1)
      (length_where (is_whole (shorts_of of) (flag p.long)) 0 (grouped_parts of firsts) ∙ length_grouped of firsts 0 of.program.items)

  -- all of them in the region of code
  low : (k : ℕ) → get_or p.starts k 0 < 2 ^ 32
  low k =
      let laid = laid_out (profile_for form) (is_form_profile form) in
      let at = ap (λ (xs : List ℕ). get_or xs k 0) is.starts in
      let most = start_most (profile_for form).units_from (sizes_under (flag p.long) (shorts_of of) (grouped_parts of firsts)) k in
      let less = sum_where (is_whole (shorts_of of) (flag p.long)) 0 (grouped_parts of firsts) in
      let fewer = grouped_less of firsts in
      omega (arith, laid.low, at, most, less, fewer, is.room)

  pub gates_low : (k : ℕ) → get_or (take (count of.program) p.starts) k 0 < 2 ^ 32
  gates_low k = elim (cases_lt k (count of.program)) [
    | inl before ↦ let e = get_or-take (count of.program) p.starts k 0 before in omega (arith, e, low k)
    | inr past ↦
        let many = length-take-le (count of.program) p.starts (omega (arith, starts_many)) in
        let none : length (take (count of.program) p.starts) ≤ k = omega (arith, many) in
        let e = get_or-eq_default (take (count of.program) p.starts) 0 none in
        omega (arith, e)
  ]

  -- only places are short
  pub short_within : (k : ℕ) → flag p.long k ≡ false → k < count of.program
  short_within k short = parts_within of k (is.only k short)

  -- as many gates as places
  pub gates_many : length (take (count of.program) p.starts) ≡ count of.program
  gates_many = length-take-le (count of.program) p.starts (omega (arith, starts_many))

  module _ (sound : IsSound of.program) (whole : List Bool) (same : (k : ℕ) → whole_at whole k ≡ joined of.program firsts p.long k) where
    at_store : (k : ℕ) → is_store (item_of of.program k).kind ≡ true → whole_at firsts k ≡ whole_at whole k
    at_store k store = let here = same k in sym (rw store at here)

    at_branch : (k : ℕ) → is_part (shorts_of of) k ≡ true → flag p.long k ≡ whole_at whole k
    at_branch k part =
        let below = parts_within of k part in
        let branch : is_branch (item_of of.program k).kind ≡ true = sym (parts_are of k sound below) ∙ part in
        let none = no_store (item_of of.program k).kind branch in
        let here = same k in
        sym (rw none at here)

    grouped : grouped_parts of firsts ≡ grouped_parts of whole
    grouped = grouped_same of firsts whole 0 of.program.items (λ i lt store. let e : 0 + i ≡ i = omega arith in rw e (at_store i store))

    least : IsLongSet (profile_for form).units_from (shorts_of of) (grouped_parts of whole) (whole_at whole)
    least =
        subst (λ (sizes : List ℕ). IsLongSet (profile_for form).units_from (shorts_of of) sizes (whole_at whole)) grouped
        (long_set_same (profile_for form).units_from (shorts_of of) (grouped_parts of firsts) (flag p.long) (whole_at whole) at_branch is.least)

    starts : p.starts ≡ starts_from (profile_for form).units_from (part_sizes of whole 0 of.program.items)
    starts =
        is.starts
        ∙ ap (λ (f : ℕ → Bool). starts_from (profile_for form).units_from (sizes_where f 0 (grouped_parts of firsts)))
        (sets_same (shorts_of of) (flag p.long) (whole_at whole) at_branch)
        ∙ ap (starts_under (profile_for form).units_from (whole_at whole) (shorts_of of)) grouped
        ∙ starts_are form of whole sound

    legal : AreGates of whole 0 (profile_for form).units_from of.program.items (take (count of.program) p.starts)
    legal =
        subst (λ (xs : List ℕ). AreGates of whole 0 (profile_for form).units_from of.program.items (take (count of.program) xs)) (sym starts)
        (gates_are of whole 0 (profile_for form).units_from of.program.items)

    pub starts_rise : IsStrictlyIncreasing (take (count of.program) p.starts)
    starts_rise = gates_rise of whole 0 (profile_for form).units_from of.program.items (take (count of.program) p.starts) legal

    module _ (are : AreFirstStores of firsts) where
      at_starts : IsPlacement form (record { layout = program_at form of.program of.closed (take (count of.program) p.starts) of.entry; whole = whole })
      at_starts = record {
        sound = sound;
        room = is.room;
        legal = legal;
        groups = firsts_same of firsts whole at_store are;
        least = least;
      }

      pub placed : (layout : ProgramAtMap) (gates : List ℕ) → layout ≡ program_at form of.program of.closed gates of.entry → gates ≡ take (count of.program) p.starts →
          IsPlacementOf form of.program of.closed of.entry (record { layout = layout; whole = whole })
      placed layout gates at are = record {
        of = at ∙ ap (λ (gs : List ℕ). program_at form of.program of.closed gs of.entry) (sym (ap (λ (l : ProgramAtMap). l.gates) at));
        placed =
            subst (λ (l : ProgramAtMap). IsPlacement form (record { layout = l; whole = whole }))
            (sym (at ∙ ap (λ (gs : List ℕ). program_at form of.program of.closed gs of.entry) are)) at_starts;
      }

-- a place whose unit has not its whole size is there
pub joined_within : (program : Program) (firsts long : List Bool) → ((k : ℕ) → flag long k ≡ false → k < count program) →
    (k : ℕ) → joined program firsts long k ≡ false → k < count program
joined_within program firsts long within k short = elim (cases_Bool (is_store (item_of program k).kind)) [
  | inl store ↦ past_store program k store
  | inr none ↦ within k (rw none at short)
]

-- flags that are read one after another, from the first
pub flag_more : (flag : ℕ → Bool) (whole more : List Bool) (k : ℕ) (b : Bool) → length whole ≡ k → ((j : ℕ) → j < k → whole_at whole j ≡ flag j) →
    b ≡ flag k → more ≡ whole ++ b ∷ [] → (j : ℕ) → j < k + 1 → whole_at more j ≡ flag j
flag_more flag whole more k b len each b_is is j below =
    ap (λ (bs : List Bool). whole_at bs j) is
    ∙ elim (cases_lt j k) [
      | inl before ↦ get_or_append_left whole (b ∷ []) true j (omega arith) ∙ each j before
      | inr past ↦
          let here : j ≡ length whole = omega arith in
          ap (λ n. get_or (whole ++ b ∷ []) n true) here ∙ get_or-append_seam whole b [] true ∙ b_is ∙ ap flag (omega arith)
    ]

pub flags_all : (flag : ℕ → Bool) (whole : List Bool) (k n : ℕ) → length whole ≡ k → n ≤ k → ((j : ℕ) → flag j ≡ false → j < n) →
    ((j : ℕ) → j < k → whole_at whole j ≡ flag j) → (j : ℕ) → whole_at whole j ≡ flag j
flags_all flag whole k n len past within each j =
    elim (cases_lt j k) [
      | inl before ↦ each j before
      | inr over ↦
          get_or-eq_default whole true (omega arith)
          ∙ elim (cases_Bool (flag j)) [
            | inl set ↦ sym set
            | inr clear ↦ absurd (omega (arith, within j clear))
          ]
    ]
