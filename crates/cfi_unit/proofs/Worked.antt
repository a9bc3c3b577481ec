-- The unit law's premises hold at the start of a run of a worked image, so it says something of its
-- first step.
use Rattle.std.proofs.Common.{◌≡◌, ℕ, zero, suc, ◌+◌, ◌*◌, ◌^◌, ◌<◌, [], ◌∷◌, Some, None, inl, refl, arith}
use Rattle.std.specs.Prelude.{slice_get}
use Rattle.rv_image.specs.declared.version.ImageVersion.TheVariants.{OneHart}
use Rattle.rv_image.specs.Image.{Contents, loaded}
use Rattle.rv_image.specs.MemoryMap.{version_1, SHADOW_START}
use Rattle.rv_word.specs.Memory.{read, placed}
use Rattle.rv_instr.specs.declared.instr.Instr.{Instr}
use Rattle.rv_code.specs.Decode.{decoded}
use Rattle.rv_code.specs.State.{start_hart, start_shared, last_exit}
use Rattle.rv_code.specs.Step.{step}
use Rattle.cfi_unit.specs.Prologue.{OPENING, opening_instrs}
use Rattle.cfi_unit.specs.Place.{opening}
use Rattle.cfi_unit.specs.Stand.{Stand}
use Rattle.cfi_unit.specs.InPlace.{lone_stack, opening_lone}
use Rattle.cfi_unit.specs.UnitLaw.{Outcome}
use Rattle.cfi_unit.proofs.UnitSteps.{unit_law}

abbrev image_1 : Contents
image_1 = record { version = OneHart; init = []; code = 115 ∷ 0 ∷ 16 ∷ 0 ∷ 115 ∷ 0 ∷ 16 ∷ 0 ∷ 115 ∷ 0 ∷ 16 ∷ 0 ∷ 55 ∷ 1 ∷ 0 ∷ 16 ∷ 183 ∷ 1 ∷ 0 ∷ 96 ∷ 147 ∷ 129 ∷ 129 ∷ 0 ∷ 19 ∷ 159 ∷ 1 ∷ 3 ∷ 99 ∷ 20 ∷ 15 ∷ 0 ∷ 111 ∷ 240 ∷ 159 ∷ 254 ∷ 23 ∷ 15 ∷ 0 ∷ 0 ∷ 19 ∷ 15 ∷ 79 ∷ 1 ∷ 35 ∷ 176 ∷ 225 ∷ 1 ∷ 147 ∷ 129 ∷ 129 ∷ 0 ∷ 239 ∷ 0 ∷ 192 ∷ 0 ∷ 147 ∷ 8 ∷ 208 ∷ 5 ∷ 115 ∷ 0 ∷ 0 ∷ 0 ∷ 19 ∷ 5 ∷ 112 ∷ 0 ∷ 147 ∷ 8 ∷ 208 ∷ 5 ∷ 115 ∷ 0 ∷ 0 ∷ 0 ∷ 111 ∷ 240 ∷ 95 ∷ 251 ∷ [] }

-- each word of the opening is the word of the image there
words_1 : (k : ℕ) (i : Instr) → slice_get (opening_instrs version_1 0x40000040) k ≡ Some i → decoded (read 4 (loaded image_1) (OPENING + 4 * k)) ≡ Some i
unfolding loaded placed decoded
words_1 zero i is = is
words_1 (suc zero) i is = is
words_1 (suc (suc zero)) i is = is
words_1 (suc (suc (suc zero))) i is = is
words_1 (suc (suc (suc (suc zero)))) i is = is
words_1 (suc (suc (suc (suc (suc zero))))) i is = is
words_1 (suc (suc (suc (suc (suc (suc zero)))))) i is = is
words_1 (suc (suc (suc (suc (suc (suc (suc zero))))))) i is = is
words_1 (suc (suc (suc (suc (suc (suc (suc (suc zero)))))))) i is = is
words_1 (suc (suc (suc (suc (suc (suc (suc (suc (suc zero))))))))) i is = is
words_1 (suc (suc (suc (suc (suc (suc (suc (suc (suc (suc zero)))))))))) i is = is
words_1 (suc (suc (suc (suc (suc (suc (suc (suc (suc (suc (suc k))))))))))) i is = absurd (cc)

stand_1 : Stand (loaded image_1) OPENING (opening_instrs version_1 0x40000040)
stand_1 = record { round = omega arith; low = omega arith; high = omega arith; words = words_1 }

going_1 : last_exit (start_shared image_1 []).events ≡ None
unfolding last_exit
going_1 = refl

first_step : ((k : ℕ) → loaded image_1 k < 2 ^ 8) →
    Outcome version_1 SHADOW_START (loaded image_1) (loaded image_1) (opening 0x40000040) OPENING [] (λ r. 0) (step version_1 (start_hart 0) (start_shared image_1 []))
first_step bytes =
    unit_law version_1 SHADOW_START (loaded image_1) (loaded image_1) (opening 0x40000040) OPENING [] (λ r. 0) (start_hart 0) (start_shared image_1 [])
    (record { low = omega arith; high = omega arith; aligned = omega arith; most = omega arith })
    bytes
    (inl refl, refl, refl, (refl, refl))
    (omega arith)
    stand_1
    (record { going = going_1; kept = record { code = λ k from to. refl; held = tt; frame = λ k from out. refl } })
    (opening_lone refl (lone_stack refl))
