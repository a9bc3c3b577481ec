-- What holds of each hardened program of a request holds of what the request comes to, and of what a request comes to whose program is
-- given.
use Rattle.std.proofs.Common.{inl, subst}
use Rattle.std.specs.Prelude.{IfOk, Result, Ok, Err}
use Rattle.rv_word.specs.declared.end.End.{End}
use Rattle.rv_word.specs.declared.end.End.TheVariants.{Fault, NoMemory}
use Rattle.obj_program.specs.Program.{Program}
use Rattle.refusals.specs.declared.refusal.Refusal.{Refusal}
use Rattle.cfi_writer.specs.Hardened.{HardenedParts}
use Rattle.cfi_harden.specs.Preparing.{Reads}
use Rattle.cfi_harden.specs.Prepared.{IsOfRequest, PreparedParts}
use Rattle.cfi_harden.specs.Refused.{Hardens, HardensPrepared, HardensProgram}
use Rattle.cfi_harden.specs.Request.{ProgramRequest, Request, program_request}
use Rattle.cfi_harden.proofs.Preparing.{hardens_given}
use Rattle.cfi_meaning.specs.Hardened.{HardenedKeepsMeaning, HardenedNeverDiffers, HoldsOfWritten, KeepsMeaningAtMap, NeverDiffersAtMap}

pub keeps_meaning : (request : ProgramRequest) (result : Result HardenedParts (End Refusal)) → HardenedKeepsMeaning → HardensProgram request result →
    IfOk result (λ (h : HardenedParts). KeepsMeaningAtMap request h)
keeps_meaning request (Ok h) law (p, prepared, written) = (p, prepared, law request p h prepared written)
keeps_meaning request (Err end) law hardens = tt

pub never_differs : (request : ProgramRequest) (result : Result HardenedParts (End Refusal)) → HardenedNeverDiffers → HardensProgram request result →
    IfOk result (λ (h : HardenedParts). NeverDiffersAtMap request h)
never_differs request (Ok h) law (p, prepared, written) = (p, prepared, law request p h prepared written)
never_differs request (Err end) law hardens = tt

-- and of what a prepared program comes to
pub holds_of : (Of : PreparedParts → HardenedParts → Type 0) (p : PreparedParts) (result : Result HardenedParts (End Refusal)) → HoldsOfWritten Of → IsOfRequest p →
    HardensPrepared p result → IfOk result (λ (h : HardenedParts). Of p h)
holds_of Of p (Ok h) law (request, prepared) written = law request p h prepared written
holds_of Of p (Err end) law of hardens = tt

-- where no program is given
pub not_read : (request : Request) (end : End Refusal) → Reads request.given (Err end) → Hardens request (Err end)
not_read request (Fault refusal) refuses = inl refuses
not_read request NoMemory refuses = tt

-- where one is, of which something holds
module _ (request : Request) (program : Program) (result : Result HardenedParts (End Refusal)) (read : Reads request.given (Ok program)) where
  moved : (Holds : ProgramRequest → Type 0) → Holds (record { form = request.form; program = program; entry = request.entry; policy = request.policy })
      → Holds (program_request request)
  moved Holds = subst (λ (p : Program). Holds (record { form = request.form; program = p; entry = request.entry; policy = request.policy })) read.1

  pub hardens_read : HardensProgram (record { form = request.form; program = program; entry = request.entry; policy = request.policy }) result → Hardens request result
  hardens_read is = hardens_given request result read.0 (moved (λ r. HardensProgram r result) is)

  pub keeps_read : IfOk result (λ (h : HardenedParts). KeepsMeaningAtMap (record { form = request.form; program = program; entry = request.entry; policy = request.policy }) h)
      → IfOk result (λ (h : HardenedParts). KeepsMeaningAtMap (program_request request) h)
  keeps_read = moved (λ r. IfOk result (λ (h : HardenedParts). KeepsMeaningAtMap r h))

  pub differs_read : IfOk result (λ (h : HardenedParts). NeverDiffersAtMap (record { form = request.form; program = program; entry = request.entry; policy = request.policy }) h)
      → IfOk result (λ (h : HardenedParts). NeverDiffersAtMap (program_request request) h)
  differs_read = moved (λ r. IfOk result (λ (h : HardenedParts). NeverDiffersAtMap r h))
