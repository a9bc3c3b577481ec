use Rattle.tool_objects.proofs.WrittenBack as written
use Rattle.tool_objects.proofs.laws.written_is_read.Goals as goal

pub returns : goal.returns
returns c = written.written_is_read
