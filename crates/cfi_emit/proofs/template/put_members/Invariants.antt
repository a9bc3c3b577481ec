use Rattle.std.proofs.Common.{◌≡◌, ◌++◌, take}
use Rattle.std.specs.Prelude.{map}
use Rattle.rv_code.specs.Encode.{code_of}
use Rattle.cfi_unit.specs.Members.{member_instr}
use Rattle.cfi_emit.proofs.template.put_members.Given as goal

abbrev pub invariant-loop-member : goal.invariant-loop-member
invariant-loop-member l = l.code ≡ l.initial.code ++ map code_of (map member_instr (take l.member-index l.members))
