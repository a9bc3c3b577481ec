-- The turns of the steps that a run has taken, where one more step is taken or the run ends.
use Rattle.std.proofs.Common.{◌≡◌, ◌-◌, ℕ, suc, List, [], ◌∷◌, ◌++◌, length, refl, sym, ◌∙◌, ap, arith}
use Rattle.std.proofs.lemmas.List.{length-append}
use Rattle.cfi_script.specs.Turns.{turns_of}
use Rattle.cfi_step.proofs.InTurns.{turn_changes, turn_grows}
use Rattle.cfi_step.specs.Report.{last_hart}
use Rattle.cfi_step.specs.Taken.{AreTurnsOf, goes_on, none_taken}
use Rattle.cfi_step.specs.declared.turns.TakenTurns.{TakenTurns}

last_is : (harts : List ℕ) (h : ℕ) → last_hart (harts ++ h ∷ []) ≡ h
last_is [] h = refl
last_is (g ∷ []) h = refl
last_is (g ∷ k ∷ harts) h = last_is (k ∷ harts) h

-- no turn goes on, so no step was taken
pub none_goes_on : (harts : List ℕ) (t : TakenTurns) → length harts - t.since ≡ 0 → AreTurnsOf harts t → t.ended ≡ turns_of harts
unfolding turns_of
none_goes_on harts t left (none_taken none ended hart since) = rw none ended
none_goes_on harts t left (goes_on steps some turns len last) = absurd (omega arith)

-- the hart whose turn goes on takes a step
pub takes_own : (harts : List ℕ) (t : TakenTurns) (hart : ℕ) → hart ≡ t.hart → AreTurnsOf harts t → AreTurnsOf (harts ++ hart ∷ []) t
unfolding turns_of
takes_own harts t hart same (none_taken none ended zero since) =
    let turns : turns_of (harts ++ hart ∷ []) ≡ t.ended ++ (t.hart, 1) ∷ [] = rw (none, ended, same) refl in
    let longer = length-append harts (hart ∷ []) in
    let empty : length harts ≡ 0 = ap length none in
    goes_on 1 (omega arith) turns (omega arith) (last_is harts hart ∙ same)
takes_own harts t hart same (goes_on steps some turns len last) =
    let longer = length-append harts (hart ∷ []) in
    let more : turns_of (harts ++ hart ∷ []) ≡ t.ended ++ (t.hart, suc steps) ∷ [] = rw same (turn_grows harts t.ended t.hart steps turns) in
    goes_on (suc steps) (omega arith) more (omega arith) (last_is harts hart ∙ same)

-- another hart takes a step
ends_turn : (harts : List ℕ) (t : TakenTurns) (hart : ℕ) → (hart ≡ t.hart → ⊥) → AreTurnsOf harts t → turns_of (harts ++ hart ∷ []) ≡ turns_of harts ++ (hart, 1) ∷ []
unfolding turns_of
ends_turn harts t hart other (none_taken none ended zero since) = rw none refl
ends_turn harts t hart other (goes_on steps some turns len last) = turn_changes harts t.ended t.hart hart steps other turns

pub takes_other : (harts : List ℕ) (t after : TakenTurns) (hart step : ℕ) → (hart ≡ t.hart → ⊥) → length harts ≡ step → AreTurnsOf harts t
    → after.ended ≡ turns_of harts → after.hart ≡ hart → after.since ≡ step → AreTurnsOf (harts ++ hart ∷ []) after
takes_other harts t after hart step other len are ended own since =
    let longer = length-append harts (hart ∷ []) in
    let turns : turns_of (harts ++ hart ∷ []) ≡ after.ended ++ (after.hart, 1) ∷ [] = rw (ended, own) (ends_turn harts t hart other are) in
    goes_on 1 (omega arith) turns (omega arith) (last_is harts hart ∙ sym own)
