-- What a program and a policy come to: a closed graph for a version of graphs, or a wrong line of the policy. Only private contracts cite
-- this.
use Rattle.std.specs.Prelude.{ℕ, List, Option, Some, None, Result, Ok, Err}
use Rattle.rv_image.specs.declared.version.GraphVersion.{GraphVersion}
use Rattle.rv_word.specs.declared.end.End.{End}
use Rattle.rv_word.specs.declared.end.End.TheVariants.{Fault, NoMemory}
use Rattle.text_lines.specs.declared.fault.LineFault.{LineFault}
use Rattle.obj_program.specs.Program.{Program}
use Rattle.cfi_closed.specs.Closed.{ClosedGraph}
use Rattle.refusals.specs.declared.refusal.Refusal.{Refusal}
use Rattle.refusals.specs.declared.refusal.Refusal.TheVariants.{Policy}
use Rattle.cfi_harden.specs.Prepared.{IsClosedUnder, IsWrongPolicy}

abbrev pub Closes : GraphVersion → Program → Option (List ℕ) → Result ClosedGraph (End Refusal) → Type 0
Closes version program policy (Ok closed) = IsClosedUnder version program policy closed
Closes version program policy (Err (Fault (Policy n))) = IsWrongPolicy program policy n
Closes version program policy (Err NoMemory) = Unit {0}
Closes version program policy (Err other) = ⊥

-- the line at which a text fails
abbrev pub failed_line : Result (Unit {0}) (End LineFault) → Option ℕ
failed_line (Err (Fault fault)) = Some fault.0
failed_line other = None
