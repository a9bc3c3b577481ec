use Rattle.std.proofs.Common.{ℕ, ◌<◌, true, false, ap, sym, subst, ◌∙◌, Ok, refl, arith}
use Rattle.std.proofs.lemmas.Option.{slice_get_within}
use Rattle.std.proofs.lemmas.Result.{IfOk-from_err}
use Rattle.cfi_layout.proofs.Exits.{no_value, same_value}
use Rattle.cfi_layout.proofs.Passing.{passing_begins, passing_same, passing_more}
use Rattle.cfi_layout.proofs.worklist.settle_each.Goals as goal
use Rattle.cfi_layout.proofs.worklist.settle_each.Goals.{then-branch, else-branch}

pub loop-index-init : goal.loop-index-init
loop-index-init c = record {
  passing = passing_begins c.args.branches.now c.args.long.now.items c.args.distances.now.items;
  long = refl;
  still = refl;
  indexes = c.requires.indexes;
}

pub loop-index-preserved : goal.loop-index-preserved
loop-index-preserved c =
    let told = c.in_ok-settle.ensures in
    record {
      passing = elim c.if-branch.branch [
        | then-branch w ↦ rw w.changed-is (passing_more _ _ _ _ _ _ _ _ _ told.way (told.fewer (ap Ok w.if-branch.true)) c.loop-index.invariant.passing)
        | else-branch w ↦
            let no = ap Ok w.if-branch.false in
            let same = told.unchanged no in
            rw w.changed-is (passing_same _ _ _ _ _ _ _ _ _ told.way (same.0, same.1) (told.settled no) c.loop-index.invariant.passing)
      ];
      long = told.long ∙ c.loop-index.invariant.long;
      still = told.still ∙ c.loop-index.invariant.still;
      indexes = told.indexes;
    }

pub settle-requires-clause-index : goal.settle-requires-clause-index
settle-requires-clause-index c = c.loop-index-test.true

pub settle-requires-clause-parts : goal.settle-requires-clause-parts
settle-requires-clause-parts c = λ i b is. subst (λ (n : ℕ). b.at < n) (sym c.loop-index.invariant.long) (c.requires.parts i b is)

pub settle-requires-clause-counted : goal.settle-requires-clause-counted
settle-requires-clause-counted c = c.loop-index.invariant.still ∙ c.requires.counted

pub settle-requires-clause-indexes : goal.settle-requires-clause-indexes
settle-requires-clause-indexes c = c.loop-index.invariant.indexes

pub returns-in_err-settle-clause-long : goal.returns-in_err-settle-clause-long
returns-in_err-settle-clause-long c = c.in_err-settle.ensures.long ∙ c.loop-index.invariant.long

pub returns-in_err-settle-clause-still : goal.returns-in_err-settle-clause-still
returns-in_err-settle-clause-still c = c.in_err-settle.ensures.still ∙ c.loop-index.invariant.still

pub returns-in_err-settle-clause-indexes : goal.returns-in_err-settle-clause-indexes
returns-in_err-settle-clause-indexes c = IfOk-from_err c.from_residual.result _ c.from_residual.ensures.0

pub returns-in_err-settle-clause-way : goal.returns-in_err-settle-clause-way
returns-in_err-settle-clause-way c = IfOk-from_err c.from_residual.result _ c.from_residual.ensures.0

pub returns-in_err-settle-clause-unchanged : goal.returns-in_err-settle-clause-unchanged
returns-in_err-settle-clause-unchanged c = no_value c.from_residual.result false c.from_residual.ensures.0

pub returns-in_err-settle-clause-settled : goal.returns-in_err-settle-clause-settled
returns-in_err-settle-clause-settled c = no_value c.from_residual.result false c.from_residual.ensures.0

pub returns-in_err-settle-clause-fewer : goal.returns-in_err-settle-clause-fewer
returns-in_err-settle-clause-fewer c = no_value c.from_residual.result true c.from_residual.ensures.0

pub returns-clause-long : goal.returns-clause-long
returns-clause-long c = c.loop-index.invariant.long

pub returns-clause-still : goal.returns-clause-still
returns-clause-still c = c.loop-index.invariant.still

pub returns-clause-indexes : goal.returns-clause-indexes
returns-clause-indexes c = c.loop-index.invariant.indexes

pub returns-clause-way : goal.returns-clause-way
returns-clause-way c = c.loop-index.invariant.passing.way

pub returns-clause-unchanged : goal.returns-clause-unchanged
returns-clause-unchanged c = λ e. (c.loop-index.invariant.passing.unchanged (same_value c.loop-index.changed false e)).0

pub returns-clause-settled : goal.returns-clause-settled
returns-clause-settled c = λ e i b is.
    let past = c.loop-index-test.false in
    let within = slice_get_within c.args.branches.now i b is in
    c.loop-index.invariant.passing.settled (same_value c.loop-index.changed false e) i b (omega (arith, past, within)) is

pub returns-clause-fewer : goal.returns-clause-fewer
returns-clause-fewer c = λ e. c.loop-index.invariant.passing.fewer (same_value c.loop-index.changed true e)
