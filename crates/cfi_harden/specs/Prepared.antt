-- What a request comes to before anything is placed: the program with its closed graph under the policy and its entry, or the first of
-- what stands against that: what is given is no program; an entry that is not there; a wrong line of the policy.
use Rattle.std.specs.Prelude.{◌≡◌, ℕ, ◌⊎◌, List, Option, Some, None, Result, Ok, Err}
use Rattle.rv_image.specs.declared.version.GraphVersion.{GraphVersion}
use Rattle.rv_image.specs.Form.{graph_version}
use Rattle.rv_image.specs.declared.form.Form.{Form}
use Rattle.rv_word.specs.declared.end.End.{End}
use Rattle.rv_word.specs.declared.end.End.TheVariants.{Fault}
use Rattle.text_lines.specs.declared.fault.LineFault.{LineFault}
use Rattle.obj_program.specs.Program.{Program}
use Rattle.cfi_closed.specs.Closed.{ClosedGraph}
use Rattle.cfi_leads.specs.Entered.{Entered, entered_at}
use Rattle.cfi_flow.specs.Closing.{IsClosed}
use Rattle.cfi_flow.specs.Entry.{entry_place}
use Rattle.cfi_flow.specs.Policy.{IsRaw, wrong_line}
use Rattle.cfi_flow.specs.Raw.{RawGraph}
use Rattle.cfi_harden.specs.Given.{IsGiven}
use Rattle.cfi_harden.specs.Request.{ProgramRequest, Request, policy_asked, policy_end, program_request}

-- the closed graph of a program, for a version of graphs, under a policy that has no wrong line
pub record IsClosedUnder (version : GraphVersion) (program : Program) (policy : Option (List ℕ)) (closed : ClosedGraph) : Type 0 where
  pub whole : policy_end policy ≡ Ok tt
  pub drawn : (raw : RawGraph) × IsRaw program (policy_asked policy) raw × IsClosed version raw closed

pub record PreparedParts : Type 0 where
  pub form : Form
  pub program : Program
  pub closed : ClosedGraph
  pub entry : ℕ

-- the program with its closed graph, entered at its entry
abbrev pub entered_of : PreparedParts → Entered
entered_of p = entered_at p.program p.closed p.entry

pub record IsPreparedOf (request : ProgramRequest) (p : PreparedParts) : Type 0 where
  pub form : p.form ≡ request.form
  pub program : p.program ≡ request.program
  pub entry : entry_place p.program request.entry ≡ Some p.entry
  pub closed : IsClosedUnder (graph_version p.form) p.program request.policy p.closed

-- what some request comes to
abbrev pub IsOfRequest : PreparedParts → Type 0
IsOfRequest p = (request : ProgramRequest) × IsPreparedOf request p

-- what a request comes to whose program is given
abbrev pub IsPrepared : Request → PreparedParts → Type 0
IsPrepared request p = IsGiven request.given × IsPreparedOf (program_request request) p

-- the text of a policy fails at a line
abbrev pub FailsAt : Result (Unit {0}) (End LineFault) → ℕ → Type 0
FailsAt (Err (Fault fault)) n = fault.0 ≡ n
FailsAt other n = ⊥

-- the first wrong line of a policy: one of the right lines of its text that names what it may not, or else the line at which the
-- text fails
abbrev pub IsWrongPolicy : Program → Option (List ℕ) → ℕ → Type 0
IsWrongPolicy program policy n =
    (wrong_line program (policy_asked policy) ≡ Some n)
    ⊎ ((wrong_line program (policy_asked policy) ≡ None) × FailsAt (policy_end policy) n)
