use Rattle.std.proofs.Common.{◌/◌, ◌%◌, ◌^◌, ◌∙◌, ap, arith}
use Rattle.rv_word.proofs.Masks.{and-shifted_mask}
use Rattle.rv_word.proofs.bits.field.Goals as goal

pub returns : goal.returns
returns c =
    and-shifted_mask _ c.args.len (omega arith)
    ∙ ap (λ w. w / 2 ^ c.args.lo % 2 ^ c.args.len) c.from.ensures
