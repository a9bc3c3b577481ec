use Rattle.std.proofs.Common.{subst}
use Rattle.tool_objects.proofs.Prelude.{End, Refusal, IsRoomyEnd}
use Rattle.tool_objects.proofs.compare.not_run.Goals as goal

pub returns-in-Fault : goal.returns-in-Fault
returns-in-Fault c = λ asked image text input limit end.
    subst (λ (e : End Refusal). IsRoomyEnd asked e) c.in-Fault.is end image text
