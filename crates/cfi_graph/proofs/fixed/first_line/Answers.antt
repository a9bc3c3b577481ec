use Rattle.cfi_graph.proofs.FixedLines.{spelled_first}
use Rattle.cfi_graph.proofs.fixed.first_line.Goals as goal

pub returns-in-Some : goal.returns-in-Some
returns-in-Some c version len = spelled_first version len c.in-Some.line.now c.in_ok-found.found c.in-Some.ensures (c.in_ok-found.ensures version)

pub returns : goal.returns
returns c version len = spelled_first version len c.in_ok-line.line.now c.in_ok-found-2.found c.in_ok-line.ensures (c.in_ok-found-2.ensures version)
