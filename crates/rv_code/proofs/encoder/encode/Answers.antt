use Rattle.std.proofs.Common.{ap, ◌∙◌}
use Rattle.rv_code.specs.Decode.{decoded}
use Rattle.rv_code.proofs.ReadBack.{decoded-code_of}
use Rattle.rv_code.proofs.encoder.encode.Goals as goal

pub returns-clause-read_back : goal.returns-clause-read_back
returns-clause-read_back c = ap decoded c.word_of.ensures ∙ decoded-code_of c.args.instr c.in_range.ensures
