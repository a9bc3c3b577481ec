use Rattle.std.proofs.Common.{◌≡◌, length, map, option_map, take}
use Rattle.tool_io.specs.Names.{GoOn}
use Rattle.tool_io.specs.Reading.{IsOnlyRead}
use Rattle.tool_common.specs.Reads.{GaveAll, file_names}
use Rattle.tool_common.proofs.read.read_all.Given as goal

-- the names so far gave their bytes, nothing was counted, and they alone were read
abbrev pub invariant-loop-name : goal.invariant-loop-name
invariant-loop-name g l = record {
  count : length l.all.items ≡ l.name-index;
  given : GaveAll (g.F.Files.content l.fn.files) (take l.name-index (map (option_map (λ n. n.now)) l.names)) (map (λ b. b.items) l.all.items);
  only_read : IsOnlyRead g.F.Files l.fn.files l.files;
  no_fault : g.F.Files.read_faults l.files ≡ g.F.Files.read_faults l.fn.files;
  none_long : g.F.Files.long_reads l.files ≡ g.F.Files.long_reads l.fn.files;
  read : GoOn (g.F.Files.reads l.fn.files) (g.F.Files.reads l.files) (file_names (take l.name-index (map (option_map (λ n. n.now)) l.names)));
}
