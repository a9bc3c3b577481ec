-- Branches are lengthened until none is forced: each that was is in every closed set, and the rest are a closed set's.
use Rattle.std.proofs.Common.{◌≡◌, ℕ, ◌<◌, ◌≤◌, Bool, true, false, not, List, Some, length, get_or, set, sym, ap, subst, ◌∙◌, arith, inl, inr}
use Rattle.std.specs.Prelude.{IsTrue, slice_get, nat_lt, map, Option, option_map}
use Rattle.std.proofs.lemmas.Bool.{cases_Bool, cases_eq, cases_lt, or_cases, or_left, or_right, not-true, not-false, not_from_false, ltb-true, lt-ltb}
use Rattle.std.proofs.lemmas.List.{length-set}
use Rattle.std.proofs.lemmas.Option.{get_or_from_slice_get, slice_get-map}
use Rattle.cfi_layout.specs.declared.short.Short.{Short}
use Rattle.cfi_layout.specs.Starts.{starts_from, flag}
use Rattle.cfi_layout.specs.LongSet.{sizes_under, starts_under, is_in_reach, is_branch, is_forced, is_whole, HoldsAllForced, IsWithin, IsLongSet, IsShort, AreShorts}
use Rattle.cfi_layout.specs.Laws.{LeastCode}
use Rattle.cfi_layout.specs.Lengthening.{gap, reach, spans, is_far, Going, AreCounted, IsWidened, StayOnWay, starts_with}
use Rattle.cfi_layout.proofs.Offsets.{same_where, below_where, sum_below}
use Rattle.cfi_layout.proofs.Outwards.{starts_where, reaches_is, gap_grows, gap_steps}
use Rattle.cfi_layout.proofs.Flags.{flag_set_same, flag_set_other, flag_kept, whole_is, branch_there}

-- parts that are whole for one set are for a set that it lies in
whole_grows : (branches : List Short) (long other : ℕ → Bool) → IsWithin branches long other → (k : ℕ) → is_whole branches long k ≡ true → is_whole branches other k ≡ true
whole_grows branches long other within k whole = elim (or_cases (long k) (not (is_branch branches k)) whole) [
  | inr no_branch ↦ or_right (other k) _ no_branch
  | inl is ↦ elim (cases_Bool (is_branch branches k)) [
    | inl branch ↦ or_left _ _ (within k branch is)
    | inr none ↦ or_right (other k) _ (not_from_false _ none)
  ]
]

pub starts_same : (from : ℕ) (branches : List Short) (sizes : List ℕ) (long : List Bool) → ((k : ℕ) → flag long k ≡ false → IsTrue (is_branch branches k)) →
    starts_under from (flag long) branches sizes ≡ starts_with from long sizes
starts_same from branches sizes long only =
    ap (λ (xs : List ℕ). starts_from from xs) (same_where (is_whole branches (flag long)) (flag long) 0 sizes (whole_is branches long only))

-- a branch that is known to be too far away is in every closed set
in_closed : (from : ℕ) (branches : List Short) (sizes : List ℕ) (long : List Bool) (distances : List ℕ) (i : ℕ) (b : Short) → AreShorts branches sizes → Going from branches sizes long →
    AreCounted branches (starts_with from long sizes) distances → slice_get branches i ≡ Some b → is_far b (get_or distances i 0) ≡ true →
    (other : ℕ → Bool) → HoldsAllForced from branches sizes other → other b.at ≡ true
in_closed from branches sizes long distances i b shorts going counted is far other closed =
    closed i b is (elim (or_cases b.keep (nat_lt (reach b) (get_or distances i 0)) far) [
      | inl kept ↦ or_left _ _ kept
      | inr beyond ↦
          let more : (k : ℕ) → flag long k ≡ true → is_whole branches other k ≡ true = λ k set_k.
          whole_grows branches (flag long) other (going.within other closed) k (or_left _ _ set_k) in
          let short = shorts.each i b is in
          let grows = gap_grows from (flag long) (is_whole branches other) sizes b more short in
          let least = counted i b is in
          let far_now : reach b < gap (starts_where from (is_whole branches other) sizes) b = omega (arith, ltb-true (reach b) (get_or distances i 0) beyond, grows, least) in
          or_right b.keep _ (not_from_false _ ((reaches_is from (is_whole branches other) sizes b short).1 far_now))
    ])

-- one branch more is long
pub go_on : (from : ℕ) (branches : List Short) (sizes : List ℕ) (long : List Bool) (distances : List ℕ) (i : ℕ) (b : Short) → AreShorts branches sizes → Going from branches sizes long →
    AreCounted branches (starts_with from long sizes) distances → slice_get branches i ≡ Some b → is_far b (get_or distances i 0) ≡ true →
    Going from branches sizes (set long b.at true)
go_on from branches sizes long distances i b shorts going counted is far = record {
  count = length-set long b.at true ∙ going.count;
  only = λ k no_flag. elim (cases_eq k b.at) [
    | inl same ↦ rw same (branch_there branches i b is)
    | inr differ ↦ going.only k (sym (flag_set_other long b.at k differ) ∙ no_flag)
  ];
  within = λ other closed k branch set_k. elim (cases_eq k b.at) [
    | inl same ↦ rw same (in_closed from branches sizes long distances i b shorts going counted is far other closed)
    | inr differ ↦ going.within other closed k branch (sym (flag_set_other long b.at k differ) ∙ set_k)
  ];
}

-- and distances that were widened for it are counted still
pub count_on : (from : ℕ) (branches : List Short) (sizes : List ℕ) (long : List Bool) (distances after : List ℕ) (part : ℕ) → AreShorts branches sizes →
    AreCounted branches (starts_with from long sizes) distances → part < length sizes → 4 ≤ get_or sizes part 0 → flag long part ≡ false →
    IsWidened branches part distances after → AreCounted branches (starts_with from (set long part true) sizes) after
count_on from branches sizes long distances after part shorts counted lt four no_flag widened i b is =
    let short = shorts.each i b is in
    let least = counted i b is in
    let more : (k : ℕ) → flag long k ≡ true → flag (set long part true) k ≡ true = λ k set_k. flag_kept long part k set_k in
    elim (cases_Bool (spans b part)) [
      | inl over ↦
          let steps = gap_steps from (flag long) (flag (set long part true)) sizes b part more short lt four no_flag (flag_set_same long part) over in
          omega (arith, widened.over i b is over, steps, least)
      | inr none ↦
          let grows = gap_grows from (flag long) (flag (set long part true)) sizes b more short in
          omega (arith, widened.others i b is none, grows, least)
    ]

pub stay : (branches : List Short) (long : List Bool) (distances : List ℕ) → StayOnWay branches long distances long distances
stay branches long distances = record { going = λ from sizes shorts going counted. going; counted = λ from sizes shorts going counted. counted }

pub then_stay : (branches : List Short) (long : List Bool) (distances : List ℕ) (long' : List Bool) (distances' : List ℕ) (long'' : List Bool) (distances'' : List ℕ) →
    StayOnWay branches long distances long' distances' → StayOnWay branches long' distances' long'' distances'' → StayOnWay branches long distances long'' distances''
then_stay branches long distances long' distances' long'' distances'' first second = record {
  going = λ from sizes shorts going counted. second.going from sizes shorts (first.going from sizes shorts going counted) (first.counted from sizes shorts going counted);
  counted = λ from sizes shorts going counted. second.counted from sizes shorts (first.going from sizes shorts going counted) (first.counted from sizes shorts going counted);
}

-- one branch that is known to be too far away is made long
pub lengthened : (branches : List Short) (long : List Bool) (distances after : List ℕ) (i : ℕ) (b : Short) → slice_get branches i ≡ Some b →
    is_far b (get_or distances i 0) ≡ true → flag long b.at ≡ false → IsWidened branches b.at distances after →
    StayOnWay branches long distances (set long b.at true) after
lengthened branches long distances after i b is far no_flag widened = record {
  going = λ from sizes shorts going counted. go_on from branches sizes long distances i b shorts going counted is far;
  counted = λ from sizes shorts going counted.
      let short = shorts.each i b is in
      let size = short.size in
      count_on from branches sizes long distances after b.at shorts counted short.at_is (omega arith) no_flag widened;
}

-- the gaps themselves are counted
pub gap_read : (branches : List Short) (starts distances : List ℕ) (i : ℕ) (b : Short) → distances ≡ map (gap starts) branches → slice_get branches i ≡ Some b →
    get_or distances i 0 ≡ gap starts b
gap_read branches starts distances i b are is =
    rw are (get_or_from_slice_get (map (gap starts) branches) i (gap starts b) 0 (slice_get-map (gap starts) branches i ∙ ap (λ (o : Option Short). option_map (gap starts) o) is))

pub gaps_counted : (branches : List Short) (starts distances : List ℕ) → distances ≡ map (gap starts) branches → AreCounted branches starts distances
gaps_counted branches starts distances are i b is = let e = gap_read branches starts distances i b are is in omega arith

-- a branch that is forced is too far away
pub far_is : (from : ℕ) (sizes : List ℕ) (long : List Bool) (b : Short) → IsShort sizes b → is_forced (starts_with from long sizes) b ≡ true → is_far b (gap (starts_with from long sizes) b) ≡ true
far_is from sizes long b short forced =
    let starts = starts_with from long sizes in
    elim (or_cases b.keep (not (is_in_reach starts b)) forced) [
      | inl kept ↦ or_left _ _ kept
      | inr out ↦ elim (cases_lt (reach b) (gap starts b)) [
        | inl beyond ↦ or_right b.keep _ (lt-ltb _ _ beyond)
        | inr near ↦
            let reaches_it : is_in_reach starts b ≡ true = (reaches_is from (flag long) sizes b short).0 near in
            let out_of_it = not-true (is_in_reach starts b) out in
            absurd (cc)
      ]
    ]

-- before a branch is made long
pub begin : (from : ℕ) (branches : List Short) (sizes : List ℕ) (long : List Bool) → length long ≡ length sizes → ((k : ℕ) → flag long k ≡ not (is_branch branches k)) →
    Going from branches sizes long
begin from branches sizes long count flags = record {
  count = count;
  only = λ k no_flag. not-false (is_branch branches k) (sym (flags k) ∙ no_flag);
  within = λ other closed k branch set_k.
      let no_branch = not-true (is_branch branches k) (sym (flags k) ∙ set_k) in
      absurd (cc);
}

-- where each branch that is too far away is long, they are the long set
pub finish : (from : ℕ) (branches : List Short) (sizes : List ℕ) (long : List Bool) → AreShorts branches sizes → Going from branches sizes long →
    ((i : ℕ) (b : Short) → slice_get branches i ≡ Some b → is_far b (gap (starts_with from long sizes) b) ≡ true → flag long b.at ≡ true) →
    IsLongSet from branches sizes (flag long)
finish from branches sizes long shorts going settled = record {
  closed = λ i b is forced.
      settled i b is (far_is from sizes long b (shorts.each i b is) (subst (λ (starts : List ℕ). is_forced starts b ≡ true) (starts_same from branches sizes long going.only) forced));
  least = going.within;
}

-- no closed set gives less code
pub least_code : LeastCode
least_code from branches sizes long other is closed =
    let h = sum_below (sizes_under long branches sizes) (sizes_under other branches sizes)
    (below_where (is_whole branches long) (is_whole branches other) 0 sizes (whole_grows branches long other (is.least other closed))) in
    omega arith
