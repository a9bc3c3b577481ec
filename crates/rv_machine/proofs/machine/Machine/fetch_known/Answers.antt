use Rattle.std.proofs.Common.{subst, sym}
use Rattle.rv_instr.specs.declared.instr.Instr.{Instr}
use Rattle.rv_machine.specs.Harts.{MachineParts, harts_share}
use Rattle.rv_machine.specs.Parts.{IsFetched}
use Rattle.rv_machine.proofs.NoFetch.{stands_of}
use Rattle.rv_machine.proofs.machine.Machine.fetch_known.Goals as goal

pub fetch_known-requires : goal.fetch_known-requires
fetch_known-requires c =
    subst (λ (m : MachineParts). (instr : Instr) × IsFetched (harts_share m) c.args.pc instr) (sym c.self.view_is)
    (stands_of c.args.self.now c.args.pc c.requires.going c.requires.stands)
