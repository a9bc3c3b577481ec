-- What a word of a unit may be: one word, a jump that reaches one address, or an instruction of a form with holes.
use Rattle.std.specs.Prelude.{ℕ, ◌==◌, ◌&&◌, Bool, true, false, not, nat_lt, Option, Some, None}
use Rattle.rv_instr.specs.declared.instr.Instr.{Instr}
use Rattle.rv_instr.specs.declared.instr.Instr.TheVariants.{Upper, Jal, Branch, Store, Immediate, Register}
use Rattle.rv_instr.specs.declared.instr.RegisterOp.{RegisterOp}
use Rattle.rv_instr.specs.declared.instr.RegisterOp.TheVariants.{And}
use Rattle.rv_instr.specs.declared.instr.ImmediateOp.{ImmediateOp}
use Rattle.rv_instr.specs.declared.instr.ImmediateOp.TheVariants.{Addi}
use Rattle.rv_code.specs.Decode.{decoded}
use Rattle.rv_code.specs.Encode.{code_of}
use Rattle.cfi_unit.specs.declared.pattern.Pattern.{Pattern}
use Rattle.cfi_unit.specs.declared.pattern.Pattern.TheVariants as P
use Rattle.cfi_unit.specs.Reach.{led_to, reaches}
use Rattle.cfi_unit.specs.UnitWords.{BAD_TARGET, is_lui, is_plain, jump, skip_offset}

abbrev pub is_addi : ImmediateOp → Bool
is_addi Addi = true
is_addi other = false

abbrev pub is_and : RegisterOp → Bool
is_and And = true
is_and other = false

-- an instruction is of the form of a pattern that has holes, at an address
abbrev pub has_form : Pattern → ℕ → Instr → Bool
has_form P.Gate here (Upper op rd imm) = is_lui op && (rd == 0)
has_form P.Label here (Upper op rd imm) = is_lui op && (rd == 4)
has_form P.Skip here (Branch op rs1 rs2 imm) = imm == skip_offset
has_form P.Near here (Branch op rs1 rs2 imm) = not (imm == skip_offset)
has_form P.Goto here (Jal rd imm) = (rd == 0) && not (led_to here imm == BAD_TARGET)
has_form P.Jump here (Jal rd imm) = rd == 0
has_form P.Link here (Jal rd imm) = rd == 1
has_form P.Address here (Immediate op rd rs1 imm) = is_addi op && (rd == 31)
has_form P.Number here (Immediate op rd rs1 imm) = is_addi op && ((rd == 31) && ((rs1 == 0) && nat_lt imm 2048))
has_form P.Member here (Store op rs1 rs2 imm) = (rs1 == 31) && nat_lt imm 2048
has_form P.Masked here (Register op rd rs1 rs2) = is_and op && ((rd == 31) && (rs2 == 4))
has_form P.Plain here instr = is_plain instr
has_form other here instr = false

abbrev pub decodes_to : (Instr → Bool) → Option Instr → Bool
decodes_to test None = false
decodes_to test (Some instr) = test instr

-- a word is as a pattern says, at an address
abbrev pub matches : Pattern → ℕ → ℕ → Bool
matches (P.Is code) word here = word == code
matches (P.Halt to) word here = reaches here to && (word == code_of (jump here to))
matches other word here = decodes_to (has_form other here) (decoded word)
