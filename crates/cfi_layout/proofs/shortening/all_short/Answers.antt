use Rattle.std.proofs.Common.{◌∙◌, false, not, List, ap, arith}
use Rattle.std.proofs.lemmas.List.{length-set, take_all}
use Rattle.std.proofs.lemmas.Option.{slice_get-get_or}
use Rattle.std.proofs.lemmas.Result.{IfOk-from_err}
use Rattle.cfi_layout.specs.declared.short.Short.{Short}
use Rattle.cfi_layout.specs.LongSet.{is_branch}
use Rattle.cfi_layout.proofs.Flags.{no_branch, flags_more}
use Rattle.cfi_layout.proofs.shortening.all_short.Goals as goal

pub loop-branch-preserved : goal.loop-branch-preserved
loop-branch-preserved c =
    let known = c.loop-branch.invariant in
    let below = c.requires c.loop-branch.branch-index _ (slice_get-get_or c.args.branches.now c.loop-branch.branch-index no_branch c.loop-branch-test.true) in
    record {
      len = length-set c.loop-branch.long.items _ false ∙ known.len;
      flags = flags_more c.args.branches.now c.loop-branch.branch-index no_branch c.loop-branch.long.items c.loop-branch-test.true (omega (arith, below, known.len)) known.flags;
    }

pub returns-in_err-long-clause-len : goal.returns-in_err-long-clause-len
returns-in_err-long-clause-len c = IfOk-from_err c.from_residual.result _ c.from_residual.ensures.0

pub returns-in_err-long-clause-flags : goal.returns-in_err-long-clause-flags
returns-in_err-long-clause-flags c = IfOk-from_err c.from_residual.result _ c.from_residual.ensures.0

pub index_mut-requires : goal.index_mut-requires
index_mut-requires c =
    let there = slice_get-get_or c.args.branches.now c.loop-branch.branch-index no_branch c.loop-branch-test.true in
    omega (arith, c.requires c.loop-branch.branch-index _ there, c.loop-branch.invariant.len, c.loop-branch.long.ok.0)

pub returns-clause-len : goal.returns-clause-len
returns-clause-len c = c.loop-branch.invariant.len

pub returns-clause-flags : goal.returns-clause-flags
returns-clause-flags c = λ k.
    let whole = take_all c.loop-branch.branch-index c.args.branches.now c.loop-branch-test.false in
    c.loop-branch.invariant.flags k ∙ ap (λ (branches : List Short). not (is_branch branches k)) whole
