-- Where direct jumps and near branches lead.
use Rattle.std.proofs.Common.{◌≡◌, ℕ, ◌+◌, ◌*◌, ◌^◌, ◌<◌, ap, ◌∙◌, lit<, true}
use Rattle.std.proofs.lemmas.Bool.{eq-eqb, eqb-true}
use Rattle.std.proofs.lemmas.Nat.{mod_below}
use Rattle.rv_instr.specs.InRange.{IsInstr}
use Rattle.rv_instr.specs.declared.instr.Instr.TheVariants.{Jal}
use Rattle.rv_word.specs.Bits.{wrap}
use Rattle.rv_code.specs.Step.{offset}
use Rattle.cfi_unit.specs.Reach.{led_to, reaches}
use Rattle.cfi_unit.specs.UnitWords.{jump_offset, near_offset, IsNear, Reaches}

pub jump_leads : (pc at to : ℕ) → pc ≡ at → Reaches at to → wrap (pc + offset 21 (jump_offset at to * 2)) ≡ to
jump_leads pc at to e reach = ap (λ a. wrap (a + offset 21 (jump_offset at to * 2))) e ∙ reach

pub near_leads : (pc at to : ℕ) → pc ≡ at → IsNear at to → wrap (pc + offset 13 (near_offset at to * 2)) ≡ to
near_leads pc at to e near = ap (λ a. wrap (a + offset 13 (near_offset at to * 2))) e ∙ near

-- the fields of a jump are in range
pub is_jump_instr : (rd from to : ℕ) → rd < 32 → IsInstr (Jal rd (jump_offset from to))
is_jump_instr rd from to low = (low, mod_below _ (2 ^ 20) (lit< tt))

-- that a jump reaches its target, and the test of it
pub told : (from to : ℕ) → reaches from to ≡ true → Reaches from to
told from to e = eqb-true (led_to from (jump_offset from to)) to e

pub tested : (from to : ℕ) → Reaches from to → reaches from to ≡ true
tested from to e = eq-eqb (led_to from (jump_offset from to)) to e
