-- The entry of a program is an instruction's start.
use Rattle.std.proofs.Common.{◌≡◌, ℕ, ◌<◌, false, List, Option, Some, None, refl, inl, inr, subst}
use Rattle.std.specs.Prelude.{option_and_then}
use Rattle.std.proofs.lemmas.List.Quantifiers.{position-Some}
use Rattle.std.proofs.lemmas.Option.{same_Some}
use Rattle.rv_word.proofs.Cases.{chosen}
use Rattle.cfi_harden.proofs.Prelude.{find_spot, Program, count, is_end, is_spot, item_of, no_item, place_of, entry_place, if_instruction, instruction_at}

-- an answer that was made of another in two steps
pub gone_on : {A B : Type 0} (f : A → Option B) (o : Option A) (y : B) → option_and_then f o ≡ Some y → (x : A) × (o ≡ Some x) × (f x ≡ Some y)
gone_on f None y e = absurd (cc)
gone_on f (Some x) y e = (x, refl, e)

is_instruction : (program : Program) (j k : ℕ) → if_instruction program j ≡ Some k → (j ≡ k) × (is_end (item_of program j).kind ≡ false)
is_instruction program j k e =
    elim (chosen (is_end (item_of program j).kind) None (Some j) (Some k) e) [
      | inl (last, none) ↦ absurd (cc)
      | inr (some, same) ↦ (same_Some j k same, some)
    ]

pub entry_there : (program : Program) (name : List ℕ) (k : ℕ) → entry_place program name ≡ Some k →
    (k < count program) × (is_end (item_of program k).kind ≡ false)
entry_there program name k e =
    let (spot, named, at) = gone_on (instruction_at program) (find_spot program.names name) k e in
    let (j, found, here) = gone_on (if_instruction program) (place_of program.items spot.0 spot.1) k at in
    let is = is_instruction program j k here in
    let there = position-Some (is_spot spot.0 spot.1) program.items j no_item found in
    let below : j < count program = there.0 in
    (subst (λ (n : ℕ). n < count program) is.0 below, subst (λ (n : ℕ). is_end (item_of program n).kind ≡ false) is.0 is.1)
