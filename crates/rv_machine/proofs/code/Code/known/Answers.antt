use Rattle.std.proofs.Common.{◌≡◌, List, Option, Some, subst, sym}
use Rattle.std.specs.Prelude.{IsSome}
use Rattle.rv_instr.specs.declared.instr.Instr.{Instr}
use Rattle.rv_machine.specs.Code.{instr_in}
use Rattle.rv_machine.specs.Ready.{instr_of}
use Rattle.rv_machine.proofs.Decoding.{known_is}
use Rattle.rv_machine.proofs.code.Code.known.Goals as goal

pub returns : goal.returns
returns c =
    let some = subst (λ (instrs : List (Option Instr)). IsSome (instr_in instrs c.args.index)) (sym c.self.view_is) c.requires in
    subst (λ (instrs : List (Option Instr)). instr_in instrs c.args.index ≡ Some (instr_of c.index.result.now)) c.self.view_is
    (known_is c.self.inside.instrs.items c.self.inside.known.items c.args.index c.index.result.now c.self.invariant some c.index.ensures)
