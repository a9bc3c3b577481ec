-- A run under the turns and the changes of another run is that run again.
use Rattle.std.proofs.Common.{◌≡◌, ◌==◌, ℕ, zero, suc, ◌+◌, ◌<◌, ◌≤◌, List, [], ◌∷◌, ◌++◌, filter, length, map, refl, sym, subst, ◌∙◌, ap, arith, append_assoc, append-nil, eq-eqb, lt-ltb}
use Rattle.std.proofs.lemmas.List.{length-append, map-append}
use Rattle.std.specs.List.{All}
use Rattle.std.proofs.lemmas.List.Elements.{All-cons, filter-append}
use borrow.Author.Tests.{ne_eqb}
use Rattle.rv_image.specs.MemoryMap.{Profile}
use Rattle.rv_code.specs.Run.{RunAfter, if_ran, stepped}
use Rattle.rv_code.specs.State.{Harts, Shared}
use Rattle.rv_code.specs.declared.turn.Turn.{Turn}
use Rattle.rv_code.specs.declared.turn.Turn.TheVariants.{Ran, Exit, Break, LoadFault, StoreFault, FetchFault, Illegal}
use Rattle.cfi_rules.specs.Along.{AreStepsOf}
use Rattle.cfi_script.proofs.ScriptPlans.{IsFrom, first_of_script, nothing}
use Rattle.cfi_script.specs.Plan.{Plan, Planned, harts_of, numbered, planned, step_of, steps_of}
use Rattle.cfi_script.specs.Script.{hart_below, script_plan}
use Rattle.cfi_script.specs.Turns.{hart_in_turn, turns_of}
use Rattle.cfi_step.proofs.InTurns.{hart_here}

-- those of a step
abbrev of_step : ℕ → List (ℕ × (ℕ × ℕ)) → List (ℕ × ℕ)
of_step step changes = map (λ c. c.1) (filter (λ c. c.0 == step) changes)

-- all are of steps before `k`
abbrev Before : ℕ → List (ℕ × (ℕ × ℕ)) → Type 0
Before k [] = Unit {0}
Before k (c ∷ changes) = (c.0 < k) × Before k changes

of_both : (step : ℕ) (front changes : List (ℕ × (ℕ × ℕ))) → of_step step (front ++ changes) ≡ of_step step front ++ of_step step changes
of_both step front changes =
    ap (λ cs. map (λ (c : ℕ × (ℕ × ℕ)). c.1) cs) (filter-append (λ c. c.0 == step) front changes)
    ∙ map-append (λ c. c.1) (filter (λ c. c.0 == step) front) (filter (λ c. c.0 == step) changes)

of_own : (step : ℕ) (cs : List (ℕ × ℕ)) → of_step step (map (λ c. (step, c)) cs) ≡ cs
of_own step [] = refl
of_own step (c ∷ cs) = rw (eq-eqb step step refl) (ap (λ rest. c ∷ rest) (of_own step cs))

of_other : (step k : ℕ) (cs : List (ℕ × ℕ)) → step < k → of_step step (map (λ c. (k, c)) cs) ≡ []
of_other step k [] h = refl
of_other step k (c ∷ cs) h = rw (ne_eqb k step (λ e. omega arith)) (of_other step k cs h)

of_earlier : (step : ℕ) (changes : List (ℕ × (ℕ × ℕ))) → Before step changes → of_step step changes ≡ []
of_earlier step [] h = refl
of_earlier step (c ∷ changes) h =
    let less = h.0 in
    rw (ne_eqb c.0 step (λ e. omega arith)) (of_earlier step changes h.1)

of_later : (step k : ℕ) (steps : List Planned) → step < k → of_step step (numbered k steps) ≡ []
unfolding numbered
of_later step k [] h = refl
of_later step k (t ∷ steps) h =
    of_both step (map (λ c. (k, c)) t.1) (numbered (k + 1) steps)
    ∙ ap (λ front. front ++ of_step step (numbered (k + 1) steps)) (of_other step k t.1 h)
    ∙ of_later step (k + 1) steps (omega arith)

before_own : (k : ℕ) (cs : List (ℕ × ℕ)) → Before (k + 1) (map (λ c. (k, c)) cs)
before_own k [] = tt
before_own k (c ∷ cs) = (omega arith, before_own k cs)

before_both : (k : ℕ) (front : List (ℕ × (ℕ × ℕ))) (cs : List (ℕ × ℕ)) → Before k front → Before (k + 1) (front ++ map (λ c. (k, c)) cs)
before_both k [] cs h = before_own k cs
before_both k (c ∷ front) cs h =
    let less = h.0 in
    (omega arith, before_both k front cs h.1)

if_both : (turn : Turn) (xs ys : List Planned) → (turn ≡ Ran → xs ≡ ys) → if_ran turn xs ≡ if_ran turn ys
if_both Ran xs ys same = same refl
if_both (Exit status) xs ys same = refl
if_both (Break pc) xs ys same = refl
if_both (LoadFault pc a) xs ys same = refl
if_both (StoreFault pc a) xs ys same = refl
if_both (FetchFault pc) xs ys same = refl
if_both (Illegal pc) xs ys same = refl

-- the changes of step `k` among all
here : (k : ℕ) (front : List (ℕ × (ℕ × ℕ))) (t : Planned) (rest : List Planned) → Before k front → of_step k (front ++ numbered k (t ∷ rest)) ≡ t.1
unfolding numbered
here k front t rest before =
    of_both k front (numbered k (t ∷ rest))
    ∙ ap (λ xs. xs ++ of_step k (numbered k (t ∷ rest))) (of_earlier k front before)
    ∙ of_both k (map (λ c. (k, c)) t.1) (numbered (k + 1) rest)
    ∙ ap (λ xs. xs ++ of_step k (numbered (k + 1) rest)) (of_own k t.1)
    ∙ ap (λ xs. t.1 ++ xs) (of_later k (k + 1) rest (omega arith))
    ∙ append-nil t.1

-- the hart of step `k` among all
own_turn : (count k : ℕ) (front : List ℕ) (t : Planned) (rest : List Planned) → length front ≡ k → t.0 < count
    → hart_below count (hart_in_turn (turns_of (front ++ harts_of (t ∷ rest))) k) ≡ t.0
own_turn count k front t rest len below =
    ap (λ n. hart_below count (hart_in_turn (turns_of (front ++ harts_of (t ∷ rest))) n)) (sym len)
    ∙ ap (hart_below count) (hart_here front t.0 (harts_of rest))
    ∙ rw (lt-ltb t.0 count below) refl

-- the first step of a plan that answers this one now
first : (p : Profile) (plan : Plan) (count n k : ℕ) (harts : Harts) (s : Shared) (t : Planned) → plan.hart k count harts s ≡ t.0 → plan.changes k count harts s ≡ t.1
    → let after = stepped p harts s (step_of t) in
    planned p plan count k harts s (suc n) ≡ t ∷ if_ran after.turn (planned p plan count (k + 1) after.harts after.shared n)
unfolding planned
first p plan count n k harts s t hart changes = rw (hart, changes) refl

all_ran : (k : ℕ) (front : List (ℕ × (ℕ × ℕ))) (t : Planned) (turn : Turn) (later : List Planned) → turn ≡ Ran
    → front ++ numbered k (t ∷ if_ran turn later) ≡ (front ++ map (λ c. (k, c)) t.1) ++ numbered (k + 1) later
unfolding numbered
all_ran k front t turn later ran =
    ap (λ x. front ++ (map (λ c. (k, c)) t.1 ++ numbered (k + 1) (if_ran x later))) ran
    ∙ sym (append_assoc front (map (λ c. (k, c)) t.1) (numbered (k + 1) later))

turns_ran : (front : List ℕ) (t : Planned) (turn : Turn) (later : List Planned) → turn ≡ Ran
    → front ++ harts_of (t ∷ if_ran turn later) ≡ (front ++ t.0 ∷ []) ++ harts_of later
turns_ran front t turn later ran =
    ap (λ x. front ++ t.0 ∷ harts_of (if_ran x later)) ran
    ∙ sym (append_assoc front (t.0 ∷ []) (harts_of later))

-- the script of these harts and changes
abbrev script_with : ℕ → List ℕ → List (ℕ × (ℕ × ℕ)) → Plan
script_with count harts changes = script_plan (record { harts = count; turns = turns_of harts; changes = changes })

again : (p : Profile) (plan : Plan) (count n k : ℕ) (harts : Harts) (s : Shared) (front : List ℕ) (made : List (ℕ × (ℕ × ℕ))) → length front ≡ k → Before k made
    → AreStepsOf count (steps_of (planned p plan count k harts s n))
    → planned p (script_with count (front ++ harts_of (planned p plan count k harts s n)) (made ++ numbered k (planned p plan count k harts s n))) count k harts s n
    ≡ planned p plan count k harts s n
unfolding planned
again p plan count zero k harts s front made len before below = refl
again p plan count (suc n) k harts s front made len before below =
    let t : Planned = (plan.hart k count harts s, plan.changes k count harts s) in
    let after : RunAfter = stepped p harts s (step_of t) in
    let later : List Planned = planned p plan count (k + 1) after.harts after.shared n in
    let turns : List ℕ = front ++ harts_of (t ∷ if_ran after.turn later) in
    let all : List (ℕ × (ℕ × ℕ)) = made ++ numbered k (t ∷ if_ran after.turn later) in
    let longer : length (front ++ t.0 ∷ []) ≡ k + 1 = omega (arith, length-append front (t.0 ∷ []), len) in
    first p (script_with count turns all) count n k harts s t (own_turn count k front t (if_ran after.turn later) len below.0.hart) (here k made t (if_ran after.turn later) before)
    ∙ ap (λ rest. t ∷ rest)
    (if_both after.turn (planned p (script_with count turns all) count (k + 1) after.harts after.shared n) later
    (λ ran.
    let rest : AreStepsOf count (steps_of later) = subst (λ (x : Turn). AreStepsOf count (steps_of (if_ran x later))) ran below.1 in
    ap (λ hs. planned p (script_with count hs all) count (k + 1) after.harts after.shared n) (turns_ran front t after.turn later ran)
    ∙ ap (λ changes. planned p (script_with count ((front ++ t.0 ∷ []) ++ harts_of later) changes) count (k + 1) after.harts after.shared n) (all_ran k made t after.turn later ran)
    ∙ again p plan count n (k + 1) after.harts after.shared (front ++ t.0 ∷ []) (made ++ map (λ c. (k, c)) t.1) longer (before_both k made t.1 before) rest))

-- the turns and the changes of a plan's steps lead to a run of the same steps
pub replays : (p : Profile) (plan : Plan) (count limit : ℕ) (harts : Harts) (s : Shared) → AreStepsOf count (steps_of (planned p plan count 0 harts s limit))
    → planned p (script_with count (harts_of (planned p plan count 0 harts s limit)) (numbered 0 (planned p plan count 0 harts s limit))) count 0 harts s limit
    ≡ planned p plan count 0 harts s limit
replays p plan count limit harts s below = again p plan count limit 0 harts s [] [] refl tt below

-- the changes of a run have numbers that do not fall
own_first : (k : ℕ) (cs : List (ℕ × ℕ)) (later : List (ℕ × (ℕ × ℕ))) → IsFrom k later → IsFrom k (map (λ c. (k, c)) cs ++ later)
own_first k [] later h = h
own_first k (c ∷ cs) later h =
    let others = own_first k cs later h in
    let same : k ≤ k = omega arith in
    (first_of_script (k, c) (map (λ c. (k, c)) cs ++ later) others.1 others.0, All-cons (λ d. k ≤ d.0) (k, c) (map (λ c. (k, c)) cs ++ later) same others.1)

pub in_order : (k : ℕ) (steps : List Planned) → IsFrom k (numbered k steps)
unfolding numbered
in_order k [] = nothing k
in_order k (t ∷ steps) =
    let later = in_order (k + 1) steps in
    let all : All (λ c. k ≤ c.0) (numbered (k + 1) steps) = λ i d q. let at = later.1 i d q in omega (arith, at) in
    own_first k t.1 (numbered (k + 1) steps) (later.0, all)
