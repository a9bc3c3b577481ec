use Rattle.std.proofs.Common.{ap, replicate, ◌∙◌}
use Rattle.cfi_reader.specs.declared.entry.Entry.{Entry}
use Rattle.cfi_scan.proofs.Row.{inside_is}
use Rattle.cfi_scan.proofs.splitter.nothing.Goals as goal

-- src/splitter.rt:92:1
pub returns : goal.returns
returns c =
    c.in_ok-vec.ensures.items_if_clones_equal (λ y same. same)
    ∙ ap (λ (e : Entry). replicate c.args.count e) c.of.ensures
    ∙ inside_is c.args.count
