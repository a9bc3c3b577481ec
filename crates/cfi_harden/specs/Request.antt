-- What is asked to be hardened: in which form a program, the name of its entry and the text of a policy, if there is one. What a program is
-- given as stands for it.
use Rattle.std.specs.Prelude.{ℕ, List, Option, Some, None, Result, Ok}
use Rattle.rv_image.specs.declared.form.Form.{Form}
use Rattle.rv_word.specs.declared.end.End.{End}
use Rattle.text_lines.specs.declared.fault.LineFault.{LineFault}
use Rattle.cfi_policy.specs.Policy.{PolicyParts, no_policy, policy_begun, policy_read}
use Rattle.obj_program.specs.Program.{Program}
use Rattle.cfi_harden.specs.Given.{Given, program_given}

pub record ProgramRequest : Type 0 where
  pub form : Form
  pub program : Program
  pub entry : List ℕ
  pub policy : Option (List ℕ)

-- the same of what one is given as
pub record Request : Type 0 where
  pub form : Form
  pub given : Given
  pub entry : List ℕ
  pub policy : Option (List ℕ)

-- what is asked of the program
abbrev pub program_request : Request → ProgramRequest
program_request request = record { form = request.form; program = program_given request.given; entry = request.entry; policy = request.policy }

-- the policy that a text spells before its first fault, and that fault; without a text there is neither
abbrev pub policy_asked : Option (List ℕ) → PolicyParts
policy_asked None = no_policy
policy_asked (Some text) = policy_begun text

abbrev pub policy_end : Option (List ℕ) → Result (Unit {0}) (End LineFault)
policy_end None = Ok tt
policy_end (Some text) = (policy_read text).end
