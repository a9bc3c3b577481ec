-- Steps of machines of two profiles are the same, where their shadow stacks have as many bytes: nothing else of a profile
-- is asked by a step.
use Rattle.std.proofs.Common.{◌≡◌, ℕ, List, [], ◌∷◌, Option, Some, None, refl, ap, ◌∙◌}
use Rattle.rv_image.specs.MemoryMap.{Profile}
use Rattle.rv_word.specs.Memory.{read}
use Rattle.rv_instr.specs.declared.instr.Instr.{Instr}
use Rattle.rv_instr.specs.declared.instr.Instr.TheVariants.{Upper, Jal, Jalr, Branch, Load, Store, Immediate, Shift, ShiftWord, Register, Fence, Ecall, Ebreak}
use Rattle.rv_instr.specs.declared.instr.UpperOp.TheVariants.{Lui, Auipc}
use Rattle.rv_code.specs.Decode.{decoded}
use Rattle.rv_code.specs.Run.{ByteChange, HartStep, RunAfter, alone, disturbed, next_or_stop, run, run_alone, seen_by, stepped}
use Rattle.rv_code.specs.State.{After, Hart, Harts, Shared, last_exit, with_hart}
use Rattle.rv_code.specs.Step.{can_fetch, exec, exec_decoded, if_after, step, step_unless_ended, stops}
use Rattle.rv_code.specs.declared.turn.Turn.TheVariants.{FetchFault}
use Rattle.rv_code.specs.SameMachine.{IsSameMachine}

module _ (q p : Profile) (same : IsSameMachine q p) where
  pub exec_same : (instr : Instr) (h : Hart) (s : Shared) → exec q instr h s ≡ exec p instr h s
  exec_same (Upper Lui rd imm) h s = refl
  exec_same (Upper Auipc rd imm) h s = refl
  exec_same (Jal rd imm) h s = refl
  exec_same (Jalr rd rs1 imm) h s = refl
  exec_same (Branch op rs1 rs2 imm) h s = refl
  exec_same (Load op rd rs1 imm) h s = ap (λ (size : ℕ). exec (record q { shadow_size = size }) (Load op rd rs1 imm) h s) same
  exec_same (Store op rs1 rs2 imm) h s = ap (λ (size : ℕ). exec (record q { shadow_size = size }) (Store op rs1 rs2 imm) h s) same
  exec_same (Immediate op rd rs1 imm) h s = refl
  exec_same (Shift op rd rs1 amount) h s = refl
  exec_same (ShiftWord op rd rs1 amount) h s = refl
  exec_same (Register op rd rs1 rs2) h s = refl
  exec_same (Fence word) h s = refl
  exec_same Ecall h s = refl
  exec_same Ebreak h s = refl

  decoded_same : (instr : Option Instr) (h : Hart) (s : Shared) → exec_decoded q instr h s ≡ exec_decoded p instr h s
  decoded_same None h s = refl
  decoded_same (Some instr) h s = exec_same instr h s

  ended_same : (ended : Option ℕ) (h : Hart) (s : Shared) → step_unless_ended q ended h s ≡ step_unless_ended p ended h s
  ended_same (Some status) h s = refl
  ended_same None h s = ap (λ (after : After). if_after (can_fetch h.pc) after (stops h s (FetchFault h.pc))) (decoded_same (decoded (read 4 s.memory h.pc)) h s)

  pub step_same : (h : Hart) (s : Shared) → step q h s ≡ step p h s
  unfolding step
  step_same h s = ended_same (last_exit s.events) h s

  pub stepped_same : (harts : Harts) (s : Shared) (t : HartStep) → stepped q harts s t ≡ stepped p harts s t
  stepped_same harts s t =
      ap (λ (after : After). record { harts = with_hart harts t.hart after.hart; shared = after.shared; turn = after.turn })
      (step_same (harts t.hart) (disturbed s t.changes))

  run_same : (harts : Harts) (s : Shared) (steps : List HartStep) → run q harts s steps ≡ run p harts s steps
  unfolding run
  run_same harts s [] = refl
  run_same harts s (t ∷ rest) =
      let after = stepped p harts s t in
      ap (λ (a : RunAfter). next_or_stop a.turn a (run q a.harts a.shared rest)) (stepped_same harts s t)
      ∙ ap (λ (later : RunAfter). next_or_stop after.turn after later) (run_same after.harts after.shared rest)

  pub run_alone_same : (h : Hart) (s : Shared) (changes : List (List ByteChange)) → run_alone q h s changes ≡ run_alone p h s changes
  run_alone_same h s changes = ap (λ (after : RunAfter). seen_by 0 after) (run_same (λ k. h) s (alone changes))
