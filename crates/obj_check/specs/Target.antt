-- Where direct transfers go: a relocation that names the target goes before the instruction's own offset.
use Rattle.std.specs.Prelude.{ℕ, ℤ, pos, ◌+◌, ◌*◌, ◌^◌, ◌+ℤ◌, ◌-ℤ◌, ◌*ℤ◌, nat_lt, Bool, true, false, if◌then◌else◌, Option, Some, None, find}
use Rattle.rv_instr.specs.declared.instr.Instr.{Instr}
use Rattle.rv_instr.specs.declared.instr.Instr.TheVariants.{Jal, Branch}
use Rattle.obj_input.specs.declared.parts.Relocation.{Relocation}
use Rattle.obj_input.specs.declared.parts.Definition.{Definition}
use Rattle.obj_input.specs.declared.parts.Definition.TheVariants.{Within, Missing}
use Rattle.obj_input.specs.declared.reloc_kind.RelocKind.{RelocKind}
use Rattle.obj_input.specs.declared.reloc_kind.RelocKind.TheVariants.{BranchTarget, JalTarget, PairTarget}
use Rattle.obj_input.specs.Kinds.{kind_of}
use Rattle.obj_input.specs.Input.{InputParts, SectionParts, acting_at, section_of}
use Rattle.obj_input.specs.Code.{at_whole, instr, is_pair, is_start}
use Rattle.obj_check.specs.declared.target.Direct.{Direct}
use Rattle.obj_check.specs.declared.target.Direct.TheVariants.{ByBranch, ByJal, ByPair}
use Rattle.obj_check.specs.declared.target.Aim.{Aim}
use Rattle.obj_check.specs.declared.target.Aim.TheVariants.{At, Astray, Unknown}

-- a field of `bits` bits and a sign, in two's complement
abbrev pub signed : ℕ → ℕ → ℤ
signed bits n = if nat_lt n (2 ^ bits) then pos n else pos n -ℤ pos (2 ^ (bits + 1))

abbrev pub direct_word : Option Instr → Option Direct
direct_word (Some (Branch op a b imm)) = Some (ByBranch (pos 2 *ℤ signed 11 imm))
direct_word (Some (Jal link imm)) = Some (ByJal (pos 2 *ℤ signed 19 imm))
direct_word other = None

-- the direct transfer that starts at a word, if one does
unfoldable pub direct_at : SectionParts → ℕ → Option Direct
direct_at section i = if is_pair section i then Some ByPair else direct_word (instr section i)

-- a relocation that names the target of such a transfer
abbrev pub guides : Direct → RelocKind → Bool
guides (ByBranch z) BranchTarget = true
guides (ByJal z) JalTarget = true
guides ByPair PairTarget = true
guides direct other = false

abbrev pub aim_of : Definition → ℤ → Aim
aim_of (Within k value) addend = At k (pos value +ℤ addend)
aim_of (Missing n) addend = Unknown
aim_of other addend = Astray

abbrev pub guided : Option Relocation → Aim → Aim
guided None own = own
guided (Some u) own = aim_of u.definition u.addend

abbrev pub own_aim : ℕ → ℕ → Direct → Aim
own_aim k at (ByBranch z) = At k (pos at +ℤ z)
own_aim k at (ByJal z) = At k (pos at +ℤ z)
own_aim k at ByPair = Astray

-- the first relocation at an offset that tells where a transfer goes
abbrev pub guide_at : SectionParts → ℕ → Direct → Option Relocation
guide_at section at direct = find (λ u. guides direct (kind_of u.number)) (acting_at section at)

-- where the direct transfer goes that starts at a word
unfoldable pub aim_at : InputParts → ℕ → ℕ → Direct → Aim
aim_at input k i direct = guided (guide_at (section_of input k) (4 * i) direct) (own_aim k (4 * i) direct)

-- an aim that may stand: an instruction's start, or what is refused otherwise
abbrev pub may_aim : InputParts → Aim → Bool
may_aim input (At k z) = at_whole (is_start (section_of input k)) z
may_aim input Astray = false
may_aim input Unknown = true

abbrev pub goes_right : InputParts → ℕ → ℕ → Option Direct → Bool
goes_right input k i None = true
goes_right input k i (Some direct) = may_aim input (aim_at input k i direct)
