-- An instruction names a reserved register where it names one of the four.
use Rattle.std.proofs.Common.{◌≡◌, ℕ, Bool, ◌&&◌, ◌||◌, inl, inr, refl}
use Rattle.std.specs.Option.{is_some}
use Rattle.std.proofs.lemmas.Bool.{cases_Bool}
use Rattle.least.specs.First.{first_below}
use Rattle.rv_instr.specs.declared.instr.Instr.{Instr}
use Rattle.rv_instr.specs.Operands.{names}
use Rattle.rv_instr.specs.Reserved.{is_reserved}
use Rattle.obj_check.specs.Reserved.{is_reserved_name, some_reserved}

four : (named : ℕ → Bool) → (((named 3 || named 4) || named 30) || named 31) ≡ is_some (first_below (λ r. is_reserved r && named r) 32)
unfolding first_below
four named = elim (cases_Bool (named 3)) [
  | inl three ↦ rw three refl
  | inr not_three ↦
      rw not_three
      (elim (cases_Bool (named 4)) [
        | inl more ↦ rw more refl
        | inr not_four ↦
            rw not_four
            (elim (cases_Bool (named 30)) [
              | inl thirty ↦ rw thirty refl
              | inr not_thirty ↦ rw not_thirty (elim (cases_Bool (named 31)) [ inl last ↦ rw last refl | inr none ↦ rw none refl ])
            ])
      ])
]

pub one_of_four : (i : Instr) → (((is_reserved_name i 3 || is_reserved_name i 4) || is_reserved_name i 30) || is_reserved_name i 31) ≡ some_reserved i
unfolding some_reserved
one_of_four i = four (names i)
