use Rattle.std.proofs.Common.{List, length, ap, ◌∙◌}
use Rattle.cfi_reader.specs.declared.entry.Entry.{Entry}
use Rattle.cfi_scan.proofs.Row.{inside_length}
use Rattle.cfi_scan.proofs.splitter.Splitter.new.Goals as goal

-- src/splitter.rt:27:5
pub returns-clause-room : goal.returns-clause-room
returns-clause-room c = ap (λ (es : List Entry). length es) c.in_ok-nothing.ensures ∙ inside_length c.args.room
