-- From what is alike before an index and what stands there to the first difference of the whole lists.
use Rattle.std.proofs.Common.{◌≡◌, Bool, true, false, ℕ, zero, suc, ◌+◌, ◌<◌, ◌≤◌, List, [], ◌∷◌, length, slice_get, Option, Some, None, option_map, is_some, if◌then◌else◌, refl, sym, ap, ◌∙◌, arith, inl, inr}
use Rattle.std.proofs.lemmas.Bool.{cases_lt}
use Rattle.cfi_compare.proofs.Prelude.{Contents, Profile, ProgramAtMap, Source, most_steps, undisturbed, After, Event, Turn, Reason, StepTurn, breaks, exits, ran, untame, Program, item_of, told, SourceTurn, source_run, Difference, TraceItem, broke, called, exited, first_difference, has_ended, image_end, running, same, same_item, source_end, stopped, trace, verdict, IsAnswered, IsFollowed, answer_of, end_items, end_told, item_or, same_side, settled, told_answer, told_item, Compared}
use Rattle.rv_code.specs.declared.turn.Turn.TheVariants as turns
use Rattle.src_machine.specs.declared.turn.SourceTurn.TheVariants as ends
use Rattle.cfi_meaning.specs.Compared as compared
use Rattle.cfi_compare.specs.declared.answer.Compared.TheVariants as answers
use Rattle.cfi_compare.proofs.ImageRuns.{agree_within, both_there, get_more}

abbrev both_items : Option TraceItem → Option TraceItem → Bool
both_items (Some x) (Some y) = same_item x y
both_items None other = false
both_items (Some x) None = false

-- two lists have the same items before an index
abbrev Alike : ℕ → List TraceItem → List TraceItem → Type 0
Alike n xs ys = (i : ℕ) → i < n → both_items (slice_get xs i) (slice_get ys i) ≡ true

-- the first list is out
past : (n k : ℕ) (b : Bool) (xs ys : List TraceItem) → Alike n xs ys → slice_get xs n ≡ None → first_difference k b xs ys ≡ None
past n k b [] ys alike e = refl
past zero k b (x ∷ xs) ys alike e = absurd (cc)
past (suc n) k b (x ∷ xs) [] alike e = let first : both_items (Some x) None ≡ true = alike 0 (omega arith) in absurd (cc)
past (suc n) k b (x ∷ xs) (y ∷ ys) alike e =
    let first : same_item x y ≡ true = alike 0 (omega arith) in
    rw first (past n (suc k) b xs ys (λ i less. alike (suc i) (omega (arith, less))) e)

-- the second list is out
out : (n k j : ℕ) (b : Bool) (xs ys : List TraceItem) (x : TraceItem) → k + n ≡ j → Alike n xs ys → slice_get xs n ≡ Some x → slice_get ys n ≡ None →
    first_difference k b xs ys ≡ (if b then Some (record { index = j; source = x; image = running }) else None)
out n k j b [] ys x at alike e none = absurd (cc)
out zero k j b (z ∷ xs) [] x at alike e none =
    let first : z ≡ x = cc in
    let here : k ≡ j = omega (arith, at) in
    rw (first, here) refl
out zero k j b (z ∷ xs) (y ∷ ys) x at alike e none = absurd (cc)
out (suc n) k j b (z ∷ xs) [] x at alike e none = let first : both_items (Some z) None ≡ true = alike 0 (omega arith) in absurd (cc)
out (suc n) k j b (z ∷ xs) (y ∷ ys) x at alike e none =
    let first : same_item z y ≡ true = alike 0 (omega arith) in
    rw first (out n (suc k) j b xs ys x (omega (arith, at)) (λ i less. alike (suc i) (omega (arith, less))) e none)

-- both have another item
other : (n k j : ℕ) (b : Bool) (xs ys : List TraceItem) (x y : TraceItem) → k + n ≡ j → Alike n xs ys → slice_get xs n ≡ Some x → slice_get ys n ≡ Some y →
    same_item x y ≡ false → first_difference k b xs ys ≡ Some (record { index = j; source = x; image = y })
other n k j b [] ys x y at alike e f unlike = absurd (cc)
other zero k j b (z ∷ xs) [] x y at alike e f unlike = absurd (cc)
other zero k j b (z ∷ xs) (w ∷ ys) x y at alike e f unlike =
    let first : z ≡ x = cc in
    let second : w ≡ y = cc in
    let here : k ≡ j = omega (arith, at) in
    rw (first, second, here, unlike) refl
other (suc n) k j b (z ∷ xs) [] x y at alike e f unlike = let first : both_items (Some z) None ≡ true = alike 0 (omega arith) in absurd (cc)
other (suc n) k j b (z ∷ xs) (w ∷ ys) x y at alike e f unlike =
    let first : same_item z w ≡ true = alike 0 (omega arith) in
    rw first (other n (suc k) j b xs ys x y (omega (arith, at)) (λ i less. alike (suc i) (omega (arith, less))) e f unlike)

same_told : (x y : TraceItem) → same_side (told_item x) (told_item y) ≡ same_item x y
same_told (called e) (called f) = refl
same_told (called e) (exited t) = refl
same_told (called e) broke = refl
same_told (called e) stopped = refl
same_told (called e) running = refl
same_told (exited s) (called f) = refl
same_told (exited s) (exited t) = refl
same_told (exited s) broke = refl
same_told (exited s) stopped = refl
same_told (exited s) running = refl
same_told broke (called f) = refl
same_told broke (exited t) = refl
same_told broke broke = refl
same_told broke stopped = refl
same_told broke running = refl
same_told stopped (called f) = refl
same_told stopped (exited t) = refl
same_told stopped broke = refl
same_told stopped stopped = refl
same_told stopped running = refl
same_told running (called f) = refl
same_told running (exited t) = refl
same_told running broke = refl
same_told running stopped = refl
same_told running running = refl

-- where both have the same item, both lists end with it
abbrev EndsWith : List TraceItem → ℕ → Bool → ℕ → Option TraceItem → Option TraceItem → Type 0
EndsWith xs n b len ox oy = both_items ox oy ≡ true → (slice_get xs (suc n) ≡ None) × (b ≡ true) × (len ≡ n)

module _ (n len : ℕ) (b : Bool) (xs ys : List TraceItem) (alike : Alike n xs ys) where
  both : (x y : TraceItem) (o : Bool) → same_item x y ≡ o → slice_get xs n ≡ Some x → slice_get ys n ≡ Some y → EndsWith xs n b len (Some x) (Some y) →
      settled n b (Some (told_item x)) (Some (told_item y)) ≡ answer_of b (first_difference 0 b xs ys) len
  both x y false is e f last = rw (other n 0 n b xs ys x y (omega arith) alike e f is, same_told x y, is) refl
  both x y true is e f last =
      let (none, ended, all) = last is in
      let more : Alike (suc n) xs ys = λ i less. elim (cases_lt i n) [
        | inl before ↦ alike i before
        | inr here ↦ let same : i ≡ n = omega (arith, less, here) in rw (same, e, f) is
      ] in
      rw (past (suc n) 0 b xs ys more none, same_told x y, is, ended, all) refl

  gone : (x : TraceItem) (b' : Bool) → b ≡ b' → slice_get xs n ≡ Some x → slice_get ys n ≡ None →
      settled n b (Some (told_item x)) None ≡ answer_of b (first_difference 0 b xs ys) len
  gone x true is e f = rw (out n 0 n b xs ys x (omega arith) alike e f, is) refl
  gone x false is e f = rw (out n 0 n b xs ys x (omega arith) alike e f, is) refl

  pub decide : (ox oy : Option TraceItem) → slice_get xs n ≡ ox → slice_get ys n ≡ oy → (ox ≡ None → b ≡ false) → EndsWith xs n b len ox oy →
      settled n b (option_map told_item ox) (option_map told_item oy) ≡ answer_of b (first_difference 0 b xs ys) len
  decide None oy e f going last = rw (past n 0 b xs ys alike e, going refl) refl
  decide (Some x) None e f going last = gone x b refl e f
  decide (Some x) (Some y) e f going last = both x y (same_item x y) refl e f last

-- a list of system calls and an end, by indices
trace_call : (es : List Event) (end : List TraceItem) (i : ℕ) (e : Event) → slice_get es i ≡ Some e → slice_get (trace es end) i ≡ Some (called e)
trace_call [] end i e is = absurd (cc)
trace_call (f ∷ es) end zero e is = let same : f ≡ e = cc in rw same refl
trace_call (f ∷ es) end (suc i) e is = trace_call es end i e is

trace_end : (es : List Event) (end : List TraceItem) (i : ℕ) → slice_get (trace es end) (length es + i) ≡ slice_get end i
trace_end [] end i = let none : 0 + i ≡ i = omega arith in rw none refl
trace_end (e ∷ es) end i = let more : length (e ∷ es) + i ≡ suc (length es + i) = omega arith in rw more (trace_end es end i)

none_length : (es : List Event) (n : ℕ) → slice_get es n ≡ None → length es ≤ n
none_length [] n e = omega arith
none_length (x ∷ es) zero e = absurd (cc)
none_length (x ∷ es) (suc n) e = let rest = none_length es n e in omega (arith, rest)

end_head : (turn : SourceTurn) → end_told turn ≡ option_map told_item (slice_get (end_items turn) 0)
end_head ends.Ran = refl
end_head (ends.Exit status) = refl
end_head (ends.Break section offset) = refl
end_head (ends.Untame because section offset) = refl

end_alone : (turn : SourceTurn) → slice_get (end_items turn) 1 ≡ None
end_alone ends.Ran = refl
end_alone (ends.Exit status) = refl
end_alone (ends.Break section offset) = refl
end_alone (ends.Untame because section offset) = refl

no_end : (turn : SourceTurn) → slice_get (end_items turn) 0 ≡ None → is_some (end_told turn) ≡ false
no_end ends.Ran e = refl
no_end (ends.Exit status) e = absurd (cc)
no_end (ends.Break section offset) e = absurd (cc)
no_end (ends.Untame because section offset) e = refl

an_end : (turn : SourceTurn) (o : Option TraceItem) → both_items (slice_get (end_items turn) 0) o ≡ true → is_some (end_told turn) ≡ true
an_end ends.Ran o e = absurd (cc)
an_end (ends.Exit status) o e = refl
an_end (ends.Break section offset) o e = refl
an_end (ends.Untame because section offset) o e = absurd (cc)

no_call : (b : Bool) (e : Event) → same_item (called e) (if b then stopped else broke) ≡ false
no_call true e = refl
no_call false e = refl

call_no_end : (t : Turn) (e : Event) → both_items (Some (called e)) (slice_get (image_end t) 0) ≡ false
call_no_end turns.Ran e = refl
call_no_end (turns.Exit status) e = refl
call_no_end (turns.Break pc) e = no_call _ e
call_no_end (turns.LoadFault pc a) e = refl
call_no_end (turns.StoreFault pc a) e = refl
call_no_end (turns.FetchFault pc) e = refl
call_no_end (turns.Illegal pc) e = refl

module _ (ours : List Event) (turn : SourceTurn) (whole : After) (theirs : List Event) (t : Turn) (n : ℕ) (f : IsFollowed ours whole theirs t n) where
  abbrev xs : List TraceItem
  xs = trace ours (end_items turn)

  abbrev ys : List TraceItem
  ys = trace whole.shared.events (image_end whole.turn)

  call_there : (i : ℕ) (g : Event) → slice_get theirs i ≡ Some g → slice_get ys i ≡ Some (called g)
  call_there i g it = trace_call whole.shared.events (image_end whole.turn) i g (rw f.later.1 (get_more theirs f.later.0 i g it))

  alike_items : Alike n xs ys
  alike_items i less =
      let (e, g, is, it, equal) = both_there (slice_get ours i) (slice_get theirs i) (f.agree i less) in
      rw (trace_call ours (end_items turn) i e is, call_there i g it) equal

  ours_end : slice_get ours n ≡ None → (i : ℕ) → slice_get xs (n + i) ≡ slice_get (end_items turn) i
  ours_end none i =
      let most = none_length ours n none in
      let least = (agree_within n ours theirs f.agree).0 in
      let all : n + i ≡ length ours + i = omega (arith, most, least) in
      rw all (trace_end ours (end_items turn) i)

  ours_end_here : slice_get ours n ≡ None → slice_get xs n ≡ slice_get (end_items turn) 0
  ours_end_here none = let here : n ≡ n + 0 = omega arith in ap (λ (i : ℕ). slice_get xs i) here ∙ ours_end none 0

  theirs_end : slice_get theirs n ≡ None → slice_get ys n ≡ slice_get (image_end t) 0
  theirs_end none =
      let most = none_length theirs n none in
      let least = (agree_within n ours theirs f.agree).1 in
      elim f.decided [
        | inl less ↦ absurd (omega (arith, most, less))
        | inr (events, stop) ↦
            let all : n ≡ length theirs + 0 = omega (arith, most, least) in
            rw (events, stop, all) (trace_end theirs (image_end t) 0)
      ]

  ours_here : (o : Option Event) → slice_get ours n ≡ o → item_or o (end_told turn) ≡ option_map told_item (slice_get xs n)
  ours_here (Some e) is = rw (trace_call ours (end_items turn) n e is) refl
  ours_here None is = rw (ours_end_here is) (end_head turn)

  theirs_here : (o : Option Event) → slice_get theirs n ≡ o → item_or o (option_map told_item (slice_get (image_end t) 0)) ≡ option_map told_item (slice_get ys n)
  theirs_here (Some e) is = rw (call_there n e is) refl
  theirs_here None is = rw (theirs_end is) refl

  going_on : (o : Option Event) → slice_get ours n ≡ o → slice_get xs n ≡ None → is_some (end_told turn) ≡ false
  going_on (Some e) is none = let here = trace_call ours (end_items turn) n e is in absurd (cc)
  going_on None is none = no_end turn (sym (ours_end_here is) ∙ none)

  call_unlike : (e : Event) (p : Option Event) → slice_get ours n ≡ Some e → slice_get theirs n ≡ p → both_items (Some (called e)) (slice_get ys n) ≡ false
  call_unlike e (Some g) is it = rw (call_there n g it) (rw (is, it) at f.most)
  call_unlike e None is it = rw (theirs_end it) (call_no_end t e)

  ends_with : (o : Option Event) → slice_get ours n ≡ o → EndsWith xs n (is_some (end_told turn)) (length ours) (slice_get xs n) (slice_get ys n)
  ends_with (Some e) is equal =
      let here = trace_call ours (end_items turn) n e is in
      let again : both_items (Some (called e)) (slice_get ys n) ≡ true = rw here at equal in
      let unlike = call_unlike e (slice_get theirs n) is refl in
      absurd (cc)
  ends_with None is equal =
      let most = none_length ours n is in
      let least = (agree_within n ours theirs f.agree).0 in
      let next : suc n ≡ n + 1 = omega arith in (
        ap (λ (i : ℕ). slice_get xs i) next ∙ ours_end is 1 ∙ end_alone turn,
        an_end turn (slice_get ys n) (rw (ours_end_here is) at equal),
        omega (arith, most, least),
      )

  pub settles : settled n (is_some (end_told turn)) (item_or (slice_get ours n) (end_told turn)) (item_or (slice_get theirs n) (option_map told_item (slice_get (image_end t) 0)))
      ≡ answer_of (is_some (end_told turn)) (first_difference 0 (is_some (end_told turn)) xs ys) (length ours)
  settles =
      rw (ours_here (slice_get ours n) refl, theirs_here (slice_get theirs n) refl)
      (decide n (length ours) (is_some (end_told turn)) xs ys alike_items (slice_get xs n) (slice_get ys n) refl refl (going_on (slice_get ours n) refl) (ends_with (slice_get ours n) refl))

-- the answer of the definition, as it is told
abbrev is_untame : StepTurn → Bool
is_untame ran = false
is_untame (exits status) = false
is_untame (breaks k) = false
is_untame (untame because k) = true

module _ (p : Program) where
  ran_answer : (o : Option Difference) (len : ℕ) → answer_of false o len ≡ told_answer p (verdict ran o len)
  ran_answer None len = refl
  ran_answer (Some d) len = refl

  exit_answer : (status : ℕ) (o : Option Difference) (len : ℕ) → answer_of true o len ≡ told_answer p (verdict (exits status) o len)
  exit_answer status None len = refl
  exit_answer status (Some d) len = refl

  break_answer : (k : ℕ) (o : Option Difference) (len : ℕ) → answer_of true o len ≡ told_answer p (verdict (breaks k) o len)
  break_answer k None len = refl
  break_answer k (Some d) len = refl

  pub tame_answer : (turn : StepTurn) (told_turn : SourceTurn) (es : List Event) (whole : After) (answer : Compared) → told_turn ≡ told p turn → is_untame turn ≡ false →
      IsAnswered es told_turn whole answer →
      answer ≡ told_answer p (verdict turn (first_difference 0 (has_ended turn) (trace es (source_end turn)) (trace whole.shared.events (image_end whole.turn))) (length es))
  tame_answer ran t es whole answer e tame is = (rw e at is) ∙ ran_answer _ (length es)
  tame_answer (exits status) t es whole answer e tame is = (rw e at is) ∙ exit_answer status _ (length es)
  tame_answer (breaks k) t es whole answer e tame is = (rw e at is) ∙ break_answer k _ (length es)
  tame_answer (untame because k) t es whole answer e tame is = absurd (cc)

  pub untame_answer : (turn : StepTurn) (because : Reason) (section offset : ℕ) (o : Option Difference) (len : ℕ) → ends.Untame because section offset ≡ told p turn →
      answers.Untame because section offset ≡ told_answer p (verdict turn o len)
  untame_answer ran because section offset o len e = absurd (cc)
  untame_answer (exits status) because section offset o len e = absurd (cc)
  untame_answer (breaks k) because section offset o len e = absurd (cc)
  untame_answer (untame why k) because section offset o len e =
      let here = item_of p k in
      let reason : because ≡ why = cc in
      let part : section ≡ here.section = cc in
      let place : offset ≡ here.offset = cc in
      rw (reason, part, place) refl

module _ (p : Profile) (layout : ProgramAtMap) (state : Source) (image : Contents) (input : List ℕ) (limit : ℕ) where
  abbrev r : compared.SourceRun
  r = source_run layout limit state

  pub compared_untame : (because : Reason) (section offset : ℕ) → ends.Untame because section offset ≡ told layout.program r.turn →
      answers.Untame because section offset ≡ told_answer layout.program (compared.compared_from p layout state image input limit)
  unfolding compared.compared_from
  compared_untame because section offset e = untame_answer layout.program r.turn because section offset _ _ e

  told_tame : (turn : StepTurn) (told_turn : SourceTurn) → told_turn ≡ told layout.program turn →
      ((because : Reason) (section offset : ℕ) → told_turn ≡ ends.Untame because section offset → ⊥) → is_untame turn ≡ false
  told_tame ran t e tame = refl
  told_tame (exits status) t e tame = refl
  told_tame (breaks k) t e tame = refl
  told_tame (untame because k) t e tame = absurd (tame because (item_of layout.program k).section (item_of layout.program k).offset e)

  pub compared_tame : (told_turn : SourceTurn) (es : List Event) (steps : ℕ) (answer : Compared) → told_turn ≡ told layout.program r.turn →
      ((because : Reason) (section offset : ℕ) → told_turn ≡ ends.Untame because section offset → ⊥) →
      es ≡ r.state.shared.events → steps ≡ r.steps → IsAnswered es told_turn (undisturbed p image input (most_steps layout steps)) answer →
      answer ≡ told_answer layout.program (compared.compared_from p layout state image input limit)
  unfolding compared.compared_from
  compared_tame t es steps answer e tame events count is =
      let moved : IsAnswered r.state.shared.events t (undisturbed p image input (most_steps layout r.steps)) answer = rw (events, count) at is in
      tame_answer layout.program r.turn t r.state.shared.events (undisturbed p image input (most_steps layout r.steps)) answer e (told_tame r.turn t e tame) moved

-- a comparison from a state that is another
pub from_same : (p : Profile) (layout : ProgramAtMap) (state start : Source) (image : Contents) (input : List ℕ) (limit : ℕ) (answer : Compared) → state ≡ start
    → answer ≡ told_answer layout.program (compared.compared_from p layout state image input limit)
    → answer ≡ told_answer layout.program (compared.compared_from p layout start image input limit)
from_same p layout state start image input limit answer begun is =
    is ∙ ap (λ (s : Source). told_answer layout.program (compared.compared_from p layout s image input limit)) begun
