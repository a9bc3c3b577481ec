-- Closed graphs of a program.
use Rattle.obj_program.specs.Program.{Program}
use Rattle.cfi_policy.specs.Policy.{PolicyParts}
use Rattle.cfi_closed.specs.Closed.{ClosedGraph}
use Rattle.cfi_flow.specs.Closing.{IsClosed}
use Rattle.cfi_flow.specs.Policy.{IsRaw}
use Rattle.cfi_flow.specs.Raw.{RawGraph}

-- a closed graph of a program under some policy, for the version that it is for
abbrev pub IsGraphOf : Program → ClosedGraph → Type 0
IsGraphOf program closed = (policy : PolicyParts) × (raw : RawGraph) × IsRaw program policy raw × IsClosed closed.version raw closed
