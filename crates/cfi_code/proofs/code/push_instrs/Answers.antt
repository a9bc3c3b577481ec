use Rattle.std.proofs.Common.{length}
use Rattle.cfi_rules.specs.Split.{code_words}
use Rattle.cfi_code.proofs.CodeBytes.{all_codes, all_size, next_code, next_size}
use Rattle.cfi_code.proofs.code.push_instrs.Goals as goal

pub loop-instr-preserved : goal.loop-instr-preserved
loop-instr-preserved c = (
  next_code (code_words c.args.bytes.now.items) (code_words c.loop-instr.bytes.items) (code_words c.push_word.new.bytes.items) c.args.instrs.now
      c.loop-instr.instr-index c.encode.result c.instr-item.result c.loop-instr-test.true c.instr-item.is c.encode.ensures.value
      c.loop-instr.invariant.0 c.in_ok-push_word.ensures.words,
  next_size (length c.args.bytes.now.items) (length c.loop-instr.bytes.items) (length c.push_word.new.bytes.items) c.loop-instr.instr-index
      c.loop-instr.invariant.1 c.in_ok-push_word.ensures.size,
)

pub returns : goal.returns
returns c = record {
  words = all_codes (code_words c.args.bytes.now.items) (code_words c.loop-instr.bytes.items) c.args.instrs.now c.loop-instr.instr-index
      c.loop-instr-test.false c.loop-instr.invariant.0;
  size = all_size (length c.args.bytes.now.items) (length c.loop-instr.bytes.items) c.loop-instr.instr-index (length c.args.instrs.now)
      c.loop-instr.auto.instr-index-end c.loop-instr-test.false c.loop-instr.invariant.1;
}
