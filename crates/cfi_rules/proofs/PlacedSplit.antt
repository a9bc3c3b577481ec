-- Units placed one after another are the split of their words, and a unit of a code starts where one of
-- its split does.
use Rattle.std.proofs.Common.{◌≡◌, ℕ, zero, suc, ◌+◌, ◌-◌, ◌*◌, ◌/◌, ◌%◌, ◌≤◌, ◌<◌, inl, inr, List, [], ◌∷◌, ◌++◌, length, length-drop, drop, refl, sym, ap, subst, ◌∙◌, Some, None, arith}
use Rattle.std.specs.Prelude.{slice_get, is_some}
use Rattle.std.proofs.lemmas.Bool.{cases_eq, cases_lt, le-leb, lt-leb, ne_eqb}
use Rattle.std.proofs.lemmas.List.{drop-drop, drop_at}
use Rattle.rv_image.specs.MemoryMap.{CODE_START, Profile}
use Rattle.rv_word.proofs.Cases.{cases_Option}
use Rattle.cfi_unit.specs.declared.unit.Unit as U
use Rattle.cfi_unit.specs.Recognise.{recognised}
use Rattle.cfi_unit.specs.Split.{IsSplit}
use Rattle.cfi_unit.specs.UnitWords.{Begins, word_count, words_of}
use Rattle.cfi_unit.proofs.Found.{begins_recognised}
use Rattle.cfi_unit.proofs.UnitInList.{begins, words_counted}
use Rattle.cfi_rules.specs.Placed.{AllAhead, AllFit, code_from}
use Rattle.cfi_rules.specs.Split.{is_marked, is_start, starts, unit_at, unit_in, unit_words}
use Rattle.cfi_unit.proofs.Counts.{some_word}
use Rattle.cfi_rules.proofs.Marks.{begins_room, head_after, head_inner, head_length, head_mark, none_in_none}
use Rattle.cfi_rules.proofs.UnitIn.{in_here, in_later, in_none, lies}

pub placed_split : (us : List U.Unit) (at : ℕ) → AllFit at us → AllAhead at us → IsSplit (code_from at us) at us
unfolding AllAhead AllFit IsSplit code_from
placed_split [] at fit ahead = refl
placed_split (u ∷ us) at fit ahead =
    let rest : List ℕ = code_from (at + 4 * word_count u) us in
    let left : drop (word_count u) (words_of u at ++ rest) ≡ rest = drop_at (words_of u at) rest (word_count u) (words_counted u at) in (
      begins u at rest fit.0 ahead.0,
      subst (λ (ws : List ℕ). IsSplit ws (at + 4 * word_count u) us) (sym left) (placed_split us (at + 4 * word_count u) fit.1 ahead.1),
    )

-- the marks of a split are those of its units, which are recognised there
pub record SplitMarks (ws : List ℕ) (at : ℕ) (us : List U.Unit) : Type 0 where
  pub reached : length (starts 0 ws at) ≡ length ws
  pub marked : (i : ℕ) → is_marked (slice_get (starts 0 ws at) i) ≡ is_some (unit_in us at (at + 4 * i))
  pub found : (i : ℕ) (u : U.Unit) → unit_in us at (at + 4 * i) ≡ Some u → recognised (drop i ws) (at + 4 * i) ≡ Some u

marks_end : (at : ℕ) → SplitMarks [] at []
unfolding starts unit_in
marks_end at = record { reached = refl; marked = λ i. refl; found = λ i u e. absurd (cc) }

module _ (w : ℕ) (ws : List ℕ) (at : ℕ) (u : U.Unit) (us : List U.Unit) (b : Begins (w ∷ ws) at u) (rest : SplitMarks (drop (word_count u) (w ∷ ws)) (at + 4 * word_count u) us) where
  first : recognised (w ∷ ws) at ≡ Some u
  first = begins_recognised (w ∷ ws) at u b

  room : word_count u ≤ length (w ∷ ws)
  room = begins_room (w ∷ ws) at u b

  no_round : at + 4 * 0 ≡ at
  no_round = omega arith

  inside_none : (i : ℕ) → 0 < i → i < word_count u → unit_in (u ∷ us) at (at + 4 * i) ≡ None
  inside_none i some below =
      in_later u us at (at + 4 * i) (λ e. omega arith) ∙ in_none us (at + 4 * word_count u) (at + 4 * i) (omega arith)

  later_in : (i j : ℕ) → word_count u + j ≡ i → unit_in (u ∷ us) at (at + 4 * i) ≡ unit_in us (at + 4 * word_count u) (at + 4 * word_count u + 4 * j)
  later_in i j e =
      let some = some_word u in
      let same : at + 4 * i ≡ at + 4 * word_count u + 4 * j = omega arith in
      in_later u us at (at + 4 * i) (λ here. omega arith) ∙ ap (unit_in us (at + 4 * word_count u)) same

  marked_on : (i : ℕ) → is_marked (slice_get (starts 0 (w ∷ ws) at) i) ≡ is_some (unit_in (u ∷ us) at (at + 4 * i))
  marked_on zero =
      ap is_marked (head_mark w ws at u first room) ∙ sym (ap is_some (ap (unit_in (u ∷ us) at) no_round ∙ in_here u us at))
  marked_on (suc k) =
      elim (cases_lt (suc k) (word_count u)) [
        | inl inside ↦
            ap is_marked (head_inner w ws at u first room (suc k) (omega arith) inside)
            ∙ sym (ap is_some (inside_none (suc k) (omega arith) inside))
        | inr later ↦
            let f : word_count u + (suc k - word_count u) ≡ suc k = omega arith in
            ap (λ n. is_marked (slice_get (starts 0 (w ∷ ws) at) n)) (sym f)
            ∙ ap is_marked (head_after w ws at u first room (suc k - word_count u))
            ∙ rest.marked (suc k - word_count u)
            ∙ sym (ap is_some (later_in (suc k) (suc k - word_count u) f))
      ]

  found_on : (i : ℕ) (v : U.Unit) → unit_in (u ∷ us) at (at + 4 * i) ≡ Some v → recognised (drop i (w ∷ ws)) (at + 4 * i) ≡ Some v
  found_on zero v e =
      ap (recognised (w ∷ ws)) no_round ∙ first ∙ sym (in_here u us at) ∙ sym (ap (unit_in (u ∷ us) at) no_round) ∙ e
  found_on (suc k) v e =
      elim (cases_lt (suc k) (word_count u)) [
        | inl inside ↦ let none : None ≡ Some v = sym (inside_none (suc k) (omega arith) inside) ∙ e in absurd (cc)
        | inr later ↦
            let f : word_count u + (suc k - word_count u) ≡ suc k = omega arith in
            let same : at + 4 * suc k ≡ at + 4 * word_count u + 4 * (suc k - word_count u) = omega arith in
            ap (λ n. recognised (drop n (w ∷ ws)) (at + 4 * suc k)) (sym f)
            ∙ ap (λ l. recognised l (at + 4 * suc k)) (sym (drop-drop (suc k - word_count u) (word_count u) (w ∷ ws)))
            ∙ ap (recognised (drop (suc k - word_count u) (drop (word_count u) (w ∷ ws)))) same
            ∙ rest.found (suc k - word_count u) v (sym (later_in (suc k) (suc k - word_count u) f) ∙ e)
      ]

  marks_on : SplitMarks (w ∷ ws) at (u ∷ us)
  marks_on = record {
    reached =
        let one = head_length w ws at u first room in
        let more = rest.reached in
        let left = length-drop (word_count u) (w ∷ ws) in
        let fits = room in
        omega (arith, one, more, left);
    marked = marked_on;
    found = found_on;
  }

pub split_marks : (us : List U.Unit) (ws : List ℕ) (at : ℕ) → IsSplit ws at us → SplitMarks ws at us
unfolding IsSplit
split_marks [] ws at s = subst (λ (l : List ℕ). SplitMarks l at []) (sym s) (marks_end at)
split_marks (u ∷ us) [] at s = absurd (none_in_none at u (begins_recognised [] at u s.0))
split_marks (u ∷ us) (w ∷ ws) at s =
    marks_on w ws at u us s.0 (split_marks us (drop (word_count u) (w ∷ ws)) (at + 4 * word_count u) s.1)

-- the units of a code start where those of its split do
module _ (p : Profile) (low : CODE_START ≤ p.units_from) (round : p.units_from % 4 ≡ 0) (words : List ℕ) (us : List U.Unit) (split : IsSplit (unit_words p words) p.units_from us) where
  marks : SplitMarks (unit_words p words) p.units_from us
  marks = split_marks us (unit_words p words) p.units_from split

  pub start_is : (a : ℕ) → is_start p words a ≡ is_some (unit_in us p.units_from a)
  unfolding is_start
  start_is a =
      elim (cases_lt a p.units_from) [
        | inl below ↦ rw (lt-leb p.units_from a below) (sym (ap is_some (in_none us p.units_from a below)))
        | inr from ↦ elim (cases_eq (a % 4) 0) [
          | inl even ↦
              let j : p.units_from + 4 * ((a - p.units_from) / 4) ≡ a = omega arith in
              rw (le-leb p.units_from a from, even) (marks.marked ((a - p.units_from) / 4) ∙ ap (λ b. is_some (unit_in us p.units_from b)) j)
          | inr odd ↦ rw (le-leb p.units_from a from, ne_eqb (a % 4) 0 odd) (sym (ap is_some (none_odd odd)))
        ]
      ]
    where
      none_odd : (a % 4 ≡ 0 → ⊥) → unit_in us p.units_from a ≡ None
      none_odd odd =
          elim (cases_Option (unit_in us p.units_from a)) [
            | inl none ↦ none
            | inr (u, e) ↦ let even = (lies us p.units_from a u e).round in absurd (odd (omega arith))
          ]

  pub unit_is : (a : ℕ) → unit_at p words a ≡ unit_in us p.units_from a
  unfolding unit_at
  unit_is a =
      elim (cases_Option (unit_in us p.units_from a)) [
        | inl none ↦ rw (start_is a ∙ ap is_some none, none) refl
        | inr (u, e) ↦
            let from = (lies us p.units_from a u e).from in
            let even = (lies us p.units_from a u e).round in
            let j : p.units_from + 4 * ((a - p.units_from) / 4) ≡ a = omega arith in
            let k : (a - CODE_START) / 4 ≡ (p.units_from - CODE_START) / 4 + (a - p.units_from) / 4 = omega arith in
            rw (start_is a ∙ ap is_some e, e)
            (ap (λ n. recognised (drop n words) a) k
            ∙ ap (λ l. recognised l a) (sym (drop-drop ((a - p.units_from) / 4) ((p.units_from - CODE_START) / 4) words))
            ∙ ap (recognised (drop ((a - p.units_from) / 4) (unit_words p words))) (sym j)
            ∙ marks.found ((a - p.units_from) / 4) u (ap (unit_in us p.units_from) j ∙ e))
      ]

  pub reaches_end : length (starts 0 (unit_words p words) p.units_from) ≡ length (unit_words p words)
  reaches_end = marks.reached
