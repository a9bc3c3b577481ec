use Rattle.clap.specs.Words.{app_of}
use Rattle.tool_words.specs.Reading.{clap_reading, spelled}
use Rattle.tool_words.proofs.Answered.{read_as_asked, read_as_told}
use Rattle.tool_words.proofs.Top.{asks_as_read, asks_if_faultless, takes_marked, takes_plain}
use Rattle.tool_words.proofs.read.read_words.Goals as goal

pub returns-in-Ok : goal.returns-in-Ok
returns-in-Ok c = record {
  reading = read_as_asked (app_of c.in_ok-command.command) (spelled c.args.words.now) c.in_ok-command.ensures.0 c.in-Ok.matches
      c.in-Ok.ensures.kinds c.in-Ok.ensures.matches c.answer.result c.answer.ensures;
  faultless = asks_if_faultless (spelled c.args.words.now);
  asked = asks_as_read (spelled c.args.words.now);
  plain = takes_plain (spelled c.args.words.now);
  marked = takes_marked (spelled c.args.words.now);
}

pub returns-in-Err : goal.returns-in-Err
returns-in-Err c = record {
  reading = c.if_alone.ensures (clap_reading (spelled c.args.words.now)) (read_as_told (app_of c.in_ok-command.command) (spelled c.args.words.now)
      c.in_ok-command.ensures.0 c.in-Err.error c.end_of.result c.in-Err.ensures.kinds c.end_of.ensures);
  faultless = asks_if_faultless (spelled c.args.words.now);
  asked = asks_as_read (spelled c.args.words.now);
  plain = takes_plain (spelled c.args.words.now);
  marked = takes_marked (spelled c.args.words.now);
}

pub returns-in_err-command-clause-faultless : goal.returns-in_err-command-clause-faultless
returns-in_err-command-clause-faultless c = asks_if_faultless (spelled c.args.words.now)

pub returns-in_err-command-clause-plain : goal.returns-in_err-command-clause-plain
returns-in_err-command-clause-plain c = takes_plain (spelled c.args.words.now)

pub returns-in_err-command-clause-marked : goal.returns-in_err-command-clause-marked
returns-in_err-command-clause-marked c = takes_marked (spelled c.args.words.now)

pub returns-in_err-command-clause-asked : goal.returns-in_err-command-clause-asked
returns-in_err-command-clause-asked c = asks_as_read (spelled c.args.words.now)
