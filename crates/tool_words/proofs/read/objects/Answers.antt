use Rattle.std.proofs.Common.{◌∙◌, Some, ap, codes}
use Rattle.clap.proofs.WalkLemmas.{raw_values-rows}
use Rattle.clap.specs.Words.{found_of}
use Rattle.clap.specs.Walk.{texts}
use Rattle.tool_words.proofs.read.objects.Goals as goal

pub returns-in_ok-from_slice-in-Some : goal.returns-in_ok-from_slice-in-Some
returns-in_ok-from_slice-in-Some c =
    ap (λ all. Some (texts all)) c.in_ok-from_slice-in-Some.ensures.items ∙ c.in-Some.ensures ∙ raw_values-rows (found_of c.args.matches.now) (codes "OBJECT")

pub returns-in-None : goal.returns-in-None
returns-in-None c = c.in-None.ensures ∙ raw_values-rows (found_of c.args.matches.now) (codes "OBJECT")
