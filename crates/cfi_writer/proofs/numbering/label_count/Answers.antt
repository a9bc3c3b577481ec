use Rattle.std.proofs.Common.{◌∙◌, ℕ, List, arith, ap, length}
use Rattle.std.specs.Prelude.{slice_index}
use Rattle.cfi_closed.specs.Closed.{Side}
use Rattle.cfi_writer.proofs.Starts.{before_all}
use Rattle.cfi_writer.proofs.numbering.label_count.Goals as goal

pub returns : goal.returns
returns c =
    let sides = c.args.closed.now.sides in
    ap (λ (starts : List ℕ). slice_index starts (length c.sides.result.now)) c.as_slice-all.ensures.value
    ∙ ap (λ (ss : List Side). slice_index c.in_ok-starts.starts.items (length ss)) c.sides.ensures.value
    ∙ c.in_ok-starts.ensures.each (length sides) (omega arith) ∙ before_all sides
