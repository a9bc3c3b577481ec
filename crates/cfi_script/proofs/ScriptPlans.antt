-- The changes of one step stand together, since step numbers do not fall.
use Rattle.std.proofs.Common.{◌≡◌, ℕ, ◌+◌, inl, inr, ◌<◌, ◌≤◌, ◌==◌, false, List, [], ◌∷◌, ◌++◌, length, get_or, drop, take, nat_lt, zero, suc, Ok, refl, sym, ap, ◌∙◌, arith}
use Rattle.std.specs.List.{All, filter}
use Rattle.std.proofs.lemmas.Bool.{cases_lt, leb-true, ltb-false, ne_eqb}
use Rattle.std.proofs.lemmas.List.{append-nil, get_or_default, get_or-drop, get_or-take, length-drop, length-take, take-append-drop}
use Rattle.std.proofs.lemmas.List.Elements.{All-cons, All-head, All-tail, filter-append}
use Rattle.text_lines.proofs.Accepts.{Accepts, end_only, line_first}
use Rattle.text_lines.proofs.Whole.{whole_accepts}
use Rattle.cfi_script.specs.Quiet.{IsQuiet}
use Rattle.cfi_script.specs.Script.{Changes, IsScript}
use Rattle.cfi_script.specs.ScriptText.{changes_from, changes_of_lines, line_changes, script_rules}

abbrev of_step : ℕ → Changes → Changes
of_step step changes = filter (λ c. c.0 == step) changes

-- changes of other steps only
pub none_of_step : (step : ℕ) (changes : Changes) → All (λ c. c.0 ≡ step → ⊥) changes → of_step step changes ≡ []
none_of_step step [] h = refl
none_of_step step (c ∷ rest) h =
    rw (ne_eqb c.0 step (All-head (λ d. d.0 ≡ step → ⊥) c rest h)) (none_of_step step rest (All-tail (λ d. d.0 ≡ step → ⊥) c rest h))

pub in_two : (step i : ℕ) (changes : Changes) → of_step step changes ≡ of_step step (take i changes) ++ of_step step (drop i changes)
in_two step i changes = ap (of_step step) (sym (take-append-drop i changes)) ∙ filter-append (λ c. c.0 == step) (take i changes) (drop i changes)

-- no change passes over those that come first and have a lower step
pub from_start : (step i : ℕ) (changes : Changes) → ((k : ℕ) (d : ℕ × (ℕ × ℕ)) → k < i → (get_or changes k d).0 < step) → of_step step changes ≡ of_step step (drop i changes)
from_start step i changes below =
    let first : All (λ c. c.0 ≡ step → ⊥) (take i changes) = λ k d h e. let within : k < i = omega (arith, length-take i changes) in let at = get_or-take i changes k d within in omega (arith, below k d within, ap (λ c. c.0) at, e) in
    in_two step i changes ∙ ap (λ cs. cs ++ of_step step (drop i changes)) (none_of_step step (take i changes) first)

-- from a change of a later step on there is none of this one
pub to_end : (step i : ℕ) (changes : Changes) → IsScript changes → All (λ c. step ≤ c.0) changes → i < length changes → ((get_or changes i (0, (0, 0))).0 ≡ step → ⊥) → of_step step changes ≡ of_step step (take i changes)
to_end step i changes ordered from h other =
    let above : step ≤ (get_or changes i (0, (0, 0))).0 = from i (0, (0, 0)) h in
    let rest : All (λ c. c.0 ≡ step → ⊥) (drop i changes) = λ k d within e. let len = length-drop i changes in let place : i + k < length changes = omega (arith, len) in let later = ordered i (i + k) (0, (0, 0)) (omega arith) place in let at = get_or-drop i changes k d in let same = get_or_default changes (i + k) d (0, (0, 0)) place in other (omega (arith, above, later, ap (λ c. c.0) at, ap (λ c. c.0) same, e)) in
    in_two step i changes ∙ ap (λ cs. of_step step (take i changes) ++ cs) (none_of_step step (drop i changes) rest) ∙ append-nil (of_step step (take i changes))

-- those from a place on have that step or a later one
pub rest_from : (step i : ℕ) (changes : Changes) → ((k : ℕ) (d : ℕ × (ℕ × ℕ)) → i ≤ k → k < length changes → nat_lt (get_or changes k d).0 step ≡ false) → All (λ c. step ≤ c.0) (drop i changes)
rest_from step i changes above k d within =
    let len = length-drop i changes in
    let place : i + k < length changes = omega (arith, len) in
    let up = ltb-false _ _ (above (i + k) d (omega arith) place) in
    let at = get_or-drop i changes k d in
    omega (arith, up, ap (λ c. c.0) at)

-- between two numbers of steps where no change comes
pub quiet_between : (from next step : ℕ) (changes : Changes) → IsQuiet from next changes → from ≤ step → step < next → of_step step changes ≡ []
quiet_between from next step changes quiet low high = none_of_step step changes (λ k d q e. elim (quiet k d q) [
  | inl earlier ↦ omega (arith, earlier, e)
  | inr later ↦ omega (arith, later, e)
])

-- from those that come earlier on, up to the next change
pub quiet_to : (from place next : ℕ) (changes : Changes) → IsScript changes → ((k : ℕ) (d : ℕ × (ℕ × ℕ)) → k < place → (get_or changes k d).0 < from) → (place < length changes → next ≡ (get_or changes place (0, (0, 0))).0) → IsQuiet from next changes
quiet_to from place next changes ordered below is k d q = elim (cases_lt k place) [
  | inl earlier ↦ inl (below k d earlier)
  | inr later ↦
      let first = is (omega arith) in
      let up = ordered place k (0, (0, 0)) later q in
      let same = get_or_default changes k d (0, (0, 0)) q in
      inr (omega (arith, first, up, ap (λ c. c.0) same))
]

-- ---- what is read is a script

pub first_of_script : (c : ℕ × (ℕ × ℕ)) (rest : Changes) → All (λ d. c.0 ≤ d.0) rest → IsScript rest → IsScript (c ∷ rest)
first_of_script c rest from up zero zero d p q = omega arith
first_of_script c rest from up zero (suc j) d p q = from j d (omega (arith, q))
first_of_script c rest from up (suc i) zero d p q = absurd (omega (arith, p))
first_of_script c rest from up (suc i) (suc j) d p q = up i j d (omega (arith, p)) (omega (arith, q))

abbrev pub IsFrom : ℕ → Changes → Type 0
IsFrom step changes = IsScript changes × All (λ c. step ≤ c.0) changes

line_from : (step address : ℕ) (bytes : List ℕ) (rest : Changes) → IsFrom step rest → IsFrom step (changes_from step address bytes ++ rest)
unfolding changes_from
line_from step address [] rest h = h
line_from step address (byte ∷ bytes) rest h =
    let others = line_from step (address + 1) bytes rest h in
    let first : step ≤ step = omega arith in
    (first_of_script (step, (address, byte)) (changes_from step (address + 1) bytes ++ rest) others.1 others.0, All-cons (λ c. step ≤ c.0) (step, (address, byte)) (changes_from step (address + 1) bytes ++ rest) first others.1)

pub nothing : (step : ℕ) → IsFrom step []
nothing step = (λ i j d p q. absurd (omega (arith, q)), λ k d q. absurd (omega (arith, q)))

-- what is accepted of a text's lines
accepted : {before : ℕ} {parts : List (List ℕ)} {changes : Changes} → Accepts script_rules before parts changes → IsFrom before changes
accepted {before} end_only = nothing before
accepted {before} (line_first {l} {items} found range order rest) =
    let from = line_from l.step l.address l.bytes items (accepted rest) in
    let up : before ≤ l.step = leb-true before l.step order in
    let all : All (λ c. before ≤ c.0) (line_changes l ++ items) = λ k d q. let at = from.1 k d q in omega (arith, at, up) in
    (from.0, all)

-- the changes of a text's lines
pub ordered : (number : ℕ) (lines : List (List ℕ)) (changes : Changes) → changes_of_lines number lines ≡ Ok changes → IsScript changes
ordered number lines changes e = (accepted (whole_accepts script_rules 0 number lines changes e)).0
