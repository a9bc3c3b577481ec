-- What code that reads files, and writes none, does to them.
use Rattle.std.specs.Prelude.{◌≡◌, ◌↔◌, ◌≤◌, ℕ, List}
use Rattle.tool_io.specs.Faults.{Counts}
use Rattle.tool_io.specs.declared.files.Files.{Ghosts}

-- files were read alone: each holds what it held, none was made or removed, and no count of faults fell
pub record IsOnlyRead {S : Type 0} (files : Ghosts S) (before now : S) : Type 0 where
  pub kept : (name : List ℕ) → files.content now name ≡ files.content before name
  pub absence_kept : (name : List ℕ) → files.is_absent now name ↔ files.is_absent before name
  pub no_write : files.write_faults now ≡ files.write_faults before
  pub read_faults_later : files.read_faults before ≤ files.read_faults now
  pub long_reads_later : files.long_reads before ≤ files.long_reads now

-- a failed read and a file that is too long are counted where they are answered, and nowhere else
pub record CountsReads {S : Type 0} (files : Ghosts S) (before now : S) (failed too_long : Type 0) : Type 0 where
  pub read_faults : Counts failed (files.read_faults before) (files.read_faults now)
  pub long_reads : Counts too_long (files.long_reads before) (files.long_reads now)
