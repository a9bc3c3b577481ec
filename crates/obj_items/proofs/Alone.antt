-- What is left of objects of which no name is defined twice, and what one object whose names all differ comes to: what it is by itself.
use Rattle.std.proofs.Common.{◌≡◌, ℕ, List, [], ◌∷◌, None, option_map, Result, Ok, Err, refl, subst}
use Rattle.rv_word.proofs.Cases.{unmapped}
use Rattle.obj_items.proofs.Prelude.{InputParts, Program, duplicate, joined_input, HasOwnNames, said_by, said_of, input_of, End, Fault, NoMemory, Refusal, IsFinished, Tells, input_by, refusal_in, unfinished}
use Rattle.obj_check.specs.Fault.{fault_of}
use Rattle.obj_join.proofs.OneObject.{one_object}

-- no name is defined twice
module _ (objects : List (List ℕ)) (once : duplicate (said_by objects).symbols ≡ None) where
  left : unfinished objects ≡ option_map (refusal_in objects) (fault_of (input_by objects))
  left = rw once refl

  pub finished_once : (result : Result Program (End Refusal)) → Tells objects (input_by objects) result → IsFinished objects result
  finished_once (Ok program) told = let none = told.0 in (rw (left, none) refl, told.1)
  finished_once (Err (Fault refusal)) told = rw left told
  finished_once (Err NoMemory) told = tt

  tells_once : (result : Result Program (End Refusal)) → IsFinished objects result → Tells objects (input_by objects) result
  tells_once (Ok program) told = (unmapped (refusal_in objects) (fault_of (input_by objects)) (rw left at told.0), told.1)
  tells_once (Err (Fault refusal)) told = rw left at told
  tells_once (Err NoMemory) told = tt

module _ (object : List ℕ) (own_names : HasOwnNames (said_of object).symbols) where
  same : joined_input (said_of object ∷ []) ≡ input_of object
  unfolding input_of
  same = (one_object (said_of object) own_names).0

  none_twice : duplicate (said_by (object ∷ [])).symbols ≡ None
  unfolding said_by
  none_twice = (one_object (said_of object) own_names).1

  finished_alone : (result : Result Program (End Refusal)) → IsFinished (object ∷ []) result → Tells (object ∷ []) (input_of object) result
  finished_alone result told = subst (λ (input : InputParts). Tells (object ∷ []) input result) same (tells_once (object ∷ []) none_twice result told)

pub alone : (objects : List (List ℕ)) (result : Result Program (End Refusal)) (object : List ℕ) → IsFinished objects result → objects ≡ object ∷ []
    → HasOwnNames (said_of object).symbols → Tells (object ∷ []) (input_of object) result
alone objects result object told is own_names = finished_alone object own_names result (subst (λ (os : List (List ℕ)). IsFinished os result) is told)
