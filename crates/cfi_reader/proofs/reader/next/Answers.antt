use Rattle.std.proofs.Common.{◌<◌, ◌^◌, ℕ, ap₂, subst, sym, ◌∙◌, arith}
use Rattle.rv_code.specs.Decode.{decoded}
use Rattle.cfi_reader.specs.Kept.{entry_by}
use Rattle.cfi_reader.specs.Nodes.{row_in}
use Rattle.cfi_reader.specs.Reading.{Leads}
use Rattle.cfi_reader.specs.declared.entry.Entry.{Entry}
use Rattle.cfi_reader.specs.declared.reader.Reader.{Reader}
use Rattle.cfi_reader.specs.declared.reader.Step.TheVariants.{Before, Done}
use Rattle.cfi_reader.proofs.Followed.{goes_before, goes_done, goes_more, goes_stuck, goes_try, later}
use Rattle.cfi_reader.proofs.reader.next.Goals as goal

pub returns-in-More : goal.returns-in-More
returns-in-More c held at reading e =
    let small : c.args.word < 2 ^ 32 = omega (arith, c.ranges.word.fits) in
    let asked : Reader = record { node = c.asked.node; numbers = c.args.reader.numbers; label = c.args.reader.label } in
    goes_more c.args.calls.now asked (row_in c.row_at-row.result.now) c.args.word c.args.here c.len-few.ensures.most small c.row_at-row.ensures held at
    (c.asked.invariant.tries held at reading e) e c.in-More.node _ _ c.count_by-numbers.ensures c.label_after-label.ensures (sym c.if-matches.ensures) c.in-More.is

pub returns-in-Done : goal.returns-in-Done
returns-in-Done c held at reading e =
    let small : c.args.word < 2 ^ 32 = omega (arith, c.ranges.word.fits) in
    let asked : Reader = record { node = c.asked.node; numbers = c.args.reader.numbers; label = c.args.reader.label } in
    subst (λ (d : Entry). Leads c.args.calls.now held c.args.word at (Done d))
    (sym (c.entry_by.ensures
    ∙ ap₂ (λ (n l : ℕ). entry_by c.args.calls.now c.in-Done.end n l (decoded c.args.word)) c.count_by-numbers.ensures c.label_after-label.ensures))
    (goes_done c.args.calls.now asked (row_in c.row_at-row.result.now) c.args.word c.args.here c.len-few.ensures.most small c.row_at-row.ensures held at
    (c.asked.invariant.tries held at reading e) e c.in-Done.end (sym c.if-matches.ensures) c.in-Done.is)

pub asked-smaller : goal.asked-smaller
asked-smaller c =
    let l = later c.asked.node (row_in c.row_at-row.result.now) c.in-Try.other c.row_at-row.ensures c.in-Try.is in
    omega arith

pub asked-preserved : goal.asked-preserved
asked-preserved c =
    let small : c.args.word < 2 ^ 32 = omega (arith, c.ranges.word.fits) in
    let asked : Reader = record { node = c.asked.node; numbers = c.args.reader.numbers; label = c.args.reader.label } in
    let l = later c.asked.node (row_in c.row_at-row.result.now) c.in-Try.other c.row_at-row.ensures c.in-Try.is in
    record {
      other = λ e. omega arith;
      tries = λ held at reading e.
          goes_try c.args.calls.now asked (row_in c.row_at-row.result.now) c.args.word c.args.here c.len-few.ensures.most small c.row_at-row.ensures held at
          (c.asked.invariant.tries held at reading e) e c.in-Try.other (sym c.if-matches.ensures) c.in-Try.is;
    }

pub returns-in-Ended : goal.returns-in-Ended
returns-in-Ended c held at reading e =
    let small : c.args.word < 2 ^ 32 = omega (arith, c.ranges.word.fits) in
    let asked : Reader = record { node = c.asked.node; numbers = c.args.reader.numbers; label = c.args.reader.label } in
    subst (λ (d : Entry). Leads c.args.calls.now held c.args.word at (Before d)) (sym c.open_entry.ensures)
    (goes_before c.args.calls.now asked (row_in c.row_at-row.result.now) c.args.word c.args.here c.len-few.ensures.most small c.row_at-row.ensures held at
    (c.asked.invariant.tries held at reading e) e c.in-Ended.end (sym c.if-matches.ensures) c.in-Ended.is)

pub returns-in-Stuck : goal.returns-in-Stuck
returns-in-Stuck c held at reading e =
    let small : c.args.word < 2 ^ 32 = omega (arith, c.ranges.word.fits) in
    let asked : Reader = record { node = c.asked.node; numbers = c.args.reader.numbers; label = c.args.reader.label } in
    goes_stuck c.args.calls.now asked (row_in c.row_at-row.result.now) c.args.word c.args.here c.len-few.ensures.most small c.row_at-row.ensures held at
    (c.asked.invariant.tries held at reading e) e (sym c.if-matches.ensures) c.in-Stuck.is
