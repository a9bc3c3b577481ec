-- A program that is entered is prepared, and what refuses that refuses the request; what a request comes to is what that of the program
-- comes to that is given.
use Rattle.std.proofs.Common.{ℕ, inr, Result, Ok, Err, refl, subst}
use Rattle.cfi_harden.proofs.Prelude.{graph_version, End, Fault, NoMemory, Program, ClosedGraph, Refusal, IsGiven, HardenedParts, IsPrepared, IsPreparedOf, PreparedParts, Enters, Reads, Hardens, HardensProgram, PreparesProgram, Refuses, RefusesProgram, ProgramRequest, Request, program_request}
use Rattle.refusals.specs.declared.refusal.Refusal.TheVariants as R

pub not_entered : (request : ProgramRequest) (end : End Refusal) → Enters (graph_version request.form) request.program request.entry request.policy (Err end)
    → PreparesProgram request (Err end)
not_entered request (Fault R.NoEntry) refuses = (refuses, tt)
not_entered request (Fault (R.Policy n)) refuses = (refuses, tt)
not_entered request (Fault other) refuses = absurd refuses
not_entered request NoMemory refuses = tt

pub is_prepared : (request : ProgramRequest) (entry : ℕ) (closed : ClosedGraph) →
    Enters (graph_version request.form) request.program request.entry request.policy (Ok (entry, closed))
    → IsPreparedOf request (record { form = request.form; program = request.program; closed = closed; entry = entry })
is_prepared request entry closed entered = record { form = refl; program = refl; entry = entered.0; closed = entered.1 }

-- what holds of a request of the program that is given holds of what is asked of that
module _ (request : Request) (program : Program) (read : Reads request.given (Ok program)) where
  moved : (Holds : ProgramRequest → Type 0) → Holds (record { form = request.form; program = program; entry = request.entry; policy = request.policy })
      → Holds (program_request request)
  moved Holds = subst (λ (p : Program). Holds (record { form = request.form; program = p; entry = request.entry; policy = request.policy })) read.1

  pub prepared_given : (p : PreparedParts) → IsPreparedOf (record { form = request.form; program = program; entry = request.entry; policy = request.policy }) p
      → IsPrepared request p
  prepared_given p is = (read.0, moved (λ r. IsPreparedOf r p) is)

  pub refused_given : (refusal : Refusal) → RefusesProgram (record { form = request.form; program = program; entry = request.entry; policy = request.policy }) refusal
      → Refuses request refusal
  refused_given refusal is = inr (read.0, moved (λ r. RefusesProgram r refusal) is)

-- what hardening comes to
pub hardens_given : (request : Request) (result : Result HardenedParts (End Refusal)) → IsGiven request.given
    → HardensProgram (program_request request) result → Hardens request result
hardens_given request (Ok h) given hardens = (given, hardens)
hardens_given request (Err (Fault refusal)) given hardens = inr (given, hardens)
hardens_given request (Err NoMemory) given hardens = tt
