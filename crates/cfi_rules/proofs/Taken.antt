-- The steps that a run takes: what holds of those after a step, where they lead, and those of one hart alone.
use Rattle.std.proofs.Common.{◌≡◌, ◌<◌, ℕ, Bool, List, [], ◌∷◌, map, refl, ap, ◌∙◌}
use Rattle.std.specs.Prelude.{if◌then◌else◌}
use Rattle.std.specs.List.{AllByRecursion}
use Rattle.std.proofs.lemmas.Bool.{eq-eqb}
use Rattle.rv_image.specs.MemoryMap.{Profile}
use Rattle.rv_code.specs.Run.{ByteChange, HartStep, IsDataChange, RunAfter, disturbed, if_ran, next_or_stop, run}
use Rattle.rv_code.specs.State.{Hart, Harts, Shared, with_hart}
use Rattle.rv_code.specs.Step.{step}
use Rattle.rv_code.specs.declared.turn.Turn.{Turn}
use Rattle.rv_code.specs.declared.turn.Turn.TheVariants.{Ran}
use Rattle.cfi_rules.specs.Along.{AreStepsOf}
use Rattle.cfi_rules.specs.Laws.{RunIsReached, reached}
use Rattle.cfi_rules.specs.Taken.{TakenStep, steps_taken}

-- after a step that ran the later ones come, and after a stop none
pub after_step : {A : Type 0} (P : List A → Type 0) (turn : Turn) (later : List A) → P [] → (turn ≡ Ran → P later) → P (if_ran turn later)
after_step P Ran later none on = on refl
after_step P other later none on = none

-- after a step that ran a run is where the later ones lead, and after a stop where the step left it
led_on : (turn : Turn) (harts : Harts) (s : Shared) (later : List TakenStep) (end : RunAfter) → end ≡ reached (record { harts = harts; shared = s; turn = Ran }) later →
    next_or_stop turn (record { harts = harts; shared = s; turn = turn }) end ≡ reached (record { harts = harts; shared = s; turn = turn }) (if_ran turn later)
led_on Ran harts s later end same = same
led_on other harts s later end same = refl

pub run_reached : RunIsReached
unfolding run steps_taken
run_reached p harts s [] = refl
run_reached p harts s (t ∷ rest) =
    let after = step p (harts t.hart) (disturbed s t.changes) in
    let next = with_hart harts t.hart after.hart in
    led_on after.turn next after.shared (steps_taken p next after.shared rest) (run p next after.shared rest) (run_reached p next after.shared rest)

-- the steps of one hart, `k`, by the changes before each of them
abbrev pub steps_of : ℕ → List (List ByteChange) → List HartStep
steps_of k changes = map (λ cs. record { hart = k; changes = cs }) changes

-- they may come, where data alone changes before each
abbrev pub AreDataChanges : List (List ByteChange) → Type 0
AreDataChanges changes = AllByRecursion (AllByRecursion IsDataChange) changes

pub may_come : (harts k : ℕ) → k < harts → (changes : List (List ByteChange)) → AreDataChanges changes → AreStepsOf harts (steps_of k changes)
may_come harts k below [] low = tt
may_come harts k below (cs ∷ rest) low = (record { hart = below; changes = low.0 }, may_come harts k below rest low.1)

-- the run of that hart, as if the others were not there
abbrev pub taken_alone : Profile → ℕ → Hart → Shared → List (List ByteChange) → List TakenStep
taken_alone p k h s [] = []
taken_alone p k h s (cs ∷ rest) =
    let now = disturbed s cs in
    let after = step p h now in
    record { hart = k; before = h; shared = now; after = after } ∷ if_ran after.turn (taken_alone p k after.hart after.shared rest)

pub alone_taken : (p : Profile) (k : ℕ) (changes : List (List ByteChange)) (harts : Harts) (s : Shared) →
    steps_taken p harts s (steps_of k changes) ≡ taken_alone p k (harts k) s changes
unfolding steps_taken
alone_taken p k [] harts s = refl
alone_taken p k (cs ∷ rest) harts s =
    let now = disturbed s cs in
    let after = step p (harts k) now in
    ap (λ (later : List TakenStep). record { hart = k; before = harts k; shared = now; after = after } ∷ if_ran after.turn later)
    (alone_taken p k rest (with_hart harts k after.hart) after.shared
    ∙ ap (λ (b : Bool). taken_alone p k (if b then after.hart else harts k) after.shared rest) (eq-eqb k k refl))
