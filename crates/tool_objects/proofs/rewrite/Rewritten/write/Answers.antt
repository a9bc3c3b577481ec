use Rattle.std.proofs.Common.{◌≡◌, Err, rules}
use Rattle.tool_io.specs.declared.ends.OutEnd.TheVariants as ends
use Rattle.tool_objects.proofs.Writing.{first_cut, first_torn, second_cut, second_torn, third_cut, third_torn}
use Rattle.tool_objects.proofs.rewrite.Rewritten.write.Goals as goal

pub returns-in_err-write-clause-torn : goal.returns-in_err-write-clause-torn
returns-in_err-write-clause-torn g c = λ failed.
    let w = c.args.self.now in
    let same : c.write.result ≡ Err ends.Failed = search rules in
    first_torn g.F.Files w.image w.graph w.map c.requires.apart _ _ (c.write.ensures.torn same)

pub returns-in_err-write-clause-cut : goal.returns-in_err-write-clause-cut
returns-in_err-write-clause-cut g c = λ failed.
    let w = c.args.self.now in
    let same : c.write.result ≡ Err ends.NoMemory = search rules in
    first_cut g.F.Files w.image w.graph w.map c.requires.apart _ _ (c.write.ensures.unchanged same)

pub returns-in_err-write-2-clause-torn : goal.returns-in_err-write-2-clause-torn
returns-in_err-write-2-clause-torn g c = λ failed.
    let w = c.args.self.now in
    let same : c.write-2.result ≡ Err ends.Failed = search rules in
    second_torn g.F.Files w.image w.graph w.map c.requires.apart _ _ _ c.in_ok-write.ensures.whole (c.write-2.ensures.torn same)

pub returns-in_err-write-2-clause-cut : goal.returns-in_err-write-2-clause-cut
returns-in_err-write-2-clause-cut g c = λ failed.
    let w = c.args.self.now in
    let same : c.write-2.result ≡ Err ends.NoMemory = search rules in
    second_cut g.F.Files w.image w.graph w.map c.requires.apart _ _ _ c.in_ok-write.ensures.whole (c.write-2.ensures.unchanged same)

pub returns-clause-torn : goal.returns-clause-torn
returns-clause-torn g c = λ failed.
    let w = c.args.self.now in
    third_torn g.F.Files w.image w.graph w.map c.requires.apart _ _ _ _ c.in_ok-write.ensures.whole c.in_ok-write-2.ensures.whole
    (c.write-3.ensures.torn failed)

pub returns-clause-cut : goal.returns-clause-cut
returns-clause-cut g c = λ failed.
    let w = c.args.self.now in
    third_cut g.F.Files w.image w.graph w.map c.requires.apart _ _ _ _ c.in_ok-write.ensures.whole c.in_ok-write-2.ensures.whole
    (c.write-3.ensures.unchanged failed)
