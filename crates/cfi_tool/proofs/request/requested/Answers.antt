use Rattle.tool_words.specs.Reading.{spelled}
use Rattle.cfi_tool.proofs.Taken.{kept, not_kept, taken_marked, taken_plainly}
use Rattle.cfi_tool.proofs.request.requested.Goals as goal

pub returns-in_err-asked-clause-plain : goal.returns-in_err-asked-clause-plain
returns-in_err-asked-clause-plain c = taken_plainly (spelled c.args.words.now) c.read_words.ensures.plain

pub returns-in_err-asked-clause-marked : goal.returns-in_err-asked-clause-marked
returns-in_err-asked-clause-marked c = taken_marked (spelled c.args.words.now) c.read_words.ensures.marked

pub returns-in-Some-clause-plain : goal.returns-in-Some-clause-plain
returns-in-Some-clause-plain c = taken_plainly (spelled c.args.words.now) c.read_words.ensures.plain

pub returns-in-Some-clause-marked : goal.returns-in-Some-clause-marked
returns-in-Some-clause-marked c = taken_marked (spelled c.args.words.now) c.read_words.ensures.marked

pub returns-in-None-clause-plain : goal.returns-in-None-clause-plain
returns-in-None-clause-plain c = taken_plainly (spelled c.args.words.now) c.read_words.ensures.plain

pub returns-in-None-clause-marked : goal.returns-in-None-clause-marked
returns-in-None-clause-marked c = taken_marked (spelled c.args.words.now) c.read_words.ensures.marked

pub returns-in-None-clause-taken : goal.returns-in-None-clause-taken
returns-in-None-clause-taken c = not_kept (spelled c.args.words.now) c.in_ok-asked.asked c.in_ok-asked.ensures.reading c.in-None.ensures.asked

pub returns-in-Some-clause-taken : goal.returns-in-Some-clause-taken
returns-in-Some-clause-taken c =
    kept (spelled c.args.words.now) c.in_ok-asked.asked c.in-Some.request c.in_ok-asked.ensures.reading c.in-Some.ensures.asked c.in-Some.ensures.right
