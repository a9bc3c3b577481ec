use Rattle.std.proofs.Common.{length}
use Rattle.cfi_rules.specs.Split.{code_words}
use Rattle.cfi_code.proofs.CodeBytes.{all_size, all_words, next_size, next_word}
use Rattle.cfi_code.proofs.code.push_words.Goals as goal

pub loop-word-preserved : goal.loop-word-preserved
loop-word-preserved c = (
  next_word (code_words c.args.bytes.now.items) (code_words c.loop-word.bytes.items) (code_words c.push_word.new.bytes.items) c.args.words.now c.loop-word.word-index
      c.loop-word-test.true c.loop-word.invariant.0 c.in_ok-push_word.ensures.words,
  next_size (length c.args.bytes.now.items) (length c.loop-word.bytes.items) (length c.push_word.new.bytes.items) c.loop-word.word-index
      c.loop-word.invariant.1 c.in_ok-push_word.ensures.size,
)

pub returns : goal.returns
returns c = record {
  words = all_words (code_words c.args.bytes.now.items) (code_words c.loop-word.bytes.items) c.args.words.now c.loop-word.word-index
      c.loop-word-test.false c.loop-word.invariant.0;
  size = all_size (length c.args.bytes.now.items) (length c.loop-word.bytes.items) c.loop-word.word-index (length c.args.words.now)
      c.loop-word.auto.word-index-end c.loop-word-test.false c.loop-word.invariant.1;
}
