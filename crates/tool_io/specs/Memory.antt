-- What is seen of files in memory.
use Rattle.std.specs.Prelude.{ℕ, List}
use Rattle.std.specs.declared.option.Option.{Option}
use Rattle.tool_io.specs.Entries.{bytes_at, entry_at}
use Rattle.tool_io.specs.declared.faults.Faults.{Faults}
use Rattle.tool_io.specs.declared.mem_files.MemFiles.{MemFiles}
use Rattle.tool_io.specs.declared.sure_files.SureFiles.{SureFiles}

-- the bytes under a name, if it is there
abbrev pub file_at : MemFiles → List ℕ → Option (List ℕ)
file_at files name = entry_at files.entries name

-- the counts of faults, and the name of the last read that failed
abbrev pub faults_of : MemFiles → Faults
faults_of files = files.faults

-- the bytes that a name holds in files that never fail: none where it is not there
abbrev pub sure_bytes : SureFiles → List ℕ → List ℕ
sure_bytes files name = bytes_at files.entries name
