use Rattle.std.proofs.Common.{◌≡◌, ℕ, Bool, List, ◌+◌, ◌<◌, true, Some, length, slice_get, arith, set, get_or, min, sym, subst, ◌∙◌}
use Rattle.std.proofs.lemmas.List.{length-set, get_or_default}
use Rattle.std.proofs.lemmas.List.Elements.{All-push}
use Rattle.std.proofs.lemmas.Option.{slice_get-get_or, get_or_from_slice_get}
use Rattle.std.proofs.lemmas.Result.{IfOk-from_err}
use Rattle.cfi_layout.specs.declared.short.Short.{Short}
use Rattle.cfi_layout.specs.Lengthening.{IsWidened, spans}
use Rattle.cfi_layout.proofs.Widening.{Widening, widening_begins, widening_counts, widening_passes}
use Rattle.cfi_layout.proofs.worklist.widen.Goals as goal
use Rattle.cfi_layout.proofs.worklist.widen.Goals.{then-spans+then-not-is_far+then-is_far+in_ok-push, then-spans+else-not-is_far, else-spans}

-- a word more is counted at the branch with number n, which lies over the part
counts : (branches : List Short) (part : ℕ) (before now : List ℕ) (n read value : ℕ) (none : Short) (over : Bool) → n < length branches →
    length now ≡ length branches → over ≡ spans (get_or branches n none) part → over ≡ true → read ≡ get_or now n read → value ≡ min (read + 4) 18446744073709551615 →
    Widening branches part before now n → Widening branches part before (set now n value) (n + 1)
counts branches part before now n read value none over lt same tells is reads sums w =
    let here : read ≡ get_or now n 0 = reads ∙ get_or_default now n read 0 (omega arith) in
    widening_counts branches part before now n value (get_or branches n none) (omega arith) (slice_get-get_or branches n none lt) (sym tells ∙ is) (omega arith) w

pub loop-i-preserved : goal.loop-i-preserved
loop-i-preserved c =
    let lt : c.loop-i.i < length c.args.branches.now = omega arith in
    elim c.if-spans.branch [
      | then-spans+then-not-is_far+then-is_far+in_ok-push w ↦ rw (w.distances-is, w.work-is) (record {
        widening = counts _ _ _ c.loop-i.distances.items c.loop-i.i _ _ _ _ lt c.loop-i.invariant.counted c.spans.ensures w.if-spans.true w.index-before.ensures w.saturating_add-after.ensures c.loop-i.invariant.widening;
        counted = length-set c.loop-i.distances.items c.loop-i.i _ ∙ c.loop-i.invariant.counted;
        indexes = rw w.in_ok-push.ensures.items (All-push (λ (i : ℕ). i < length c.args.branches.now) c.loop-i.work.items c.loop-i.i c.loop-i.invariant.indexes lt);
        few = omega (arith, c.loop-i.invariant.few, w.in_ok-push.ensures.len);
        within = omega arith;
      })
      | then-spans+else-not-is_far w ↦ rw (w.distances-is, w.work-is) (record {
        widening = counts _ _ _ c.loop-i.distances.items c.loop-i.i _ _ _ _ lt c.loop-i.invariant.counted c.spans.ensures w.if-spans.true w.index-before.ensures w.saturating_add-after.ensures c.loop-i.invariant.widening;
        counted = length-set c.loop-i.distances.items c.loop-i.i _ ∙ c.loop-i.invariant.counted;
        indexes = c.loop-i.invariant.indexes;
        few = omega (arith, c.loop-i.invariant.few);
        within = omega arith;
      })
      | else-spans w ↦ rw (w.distances-is, w.work-is) (record {
        widening = widening_passes _ _ _ _ _ c.loop-i.invariant.widening;
        counted = c.loop-i.invariant.counted;
        indexes = c.loop-i.invariant.indexes;
        few = omega (arith, c.loop-i.invariant.few);
        within = omega arith;
      })
    ]

at_branch : (branches : List Short) (index : ℕ) (none b : Short) (before now : List ℕ) (n : ℕ) → slice_get branches index ≡ Some b →
    Widening branches ((get_or branches index none).at) before now n → IsWidened branches b.at before now
at_branch branches index none b before now n is w =
    subst (λ (x : Short). IsWidened branches x.at before now) (get_or_from_slice_get branches index b none is) w.so_far

pub returns-clause-widened : goal.returns-clause-widened
returns-clause-widened c = λ b is. at_branch c.args.branches.now c.args.index _ b c.args.distances.now.items c.loop-i.distances.items c.loop-i.i is c.loop-i.invariant.widening

pub loop-i-init : goal.loop-i-init
loop-i-init c = record {
  widening = widening_begins c.args.branches.now _ c.args.distances.now.items c.saturating_sub-i.result;
  counted = c.requires.counted;
  indexes = c.requires.indexes;
  few = omega arith;
  within = omega (arith, c.requires.index, c.saturating_sub-i.ensures);
}

pub index-before-requires : goal.index-before-requires
index-before-requires c = omega (arith, c.loop-i-test.true, c.min-end.ensures, c.loop-i.invariant.counted, c.loop-i.distances.ok.0)

pub index_mut-requires : goal.index_mut-requires
index_mut-requires c = omega (arith, c.loop-i-test.true, c.min-end.ensures, c.loop-i.invariant.counted, c.loop-i.distances.ok.0)

pub returns-in_err-push-clause-still : goal.returns-in_err-push-clause-still
returns-in_err-push-clause-still c = length-set c.loop-i.distances.items c.loop-i.i _ ∙ c.loop-i.invariant.counted ∙ sym c.requires.counted

pub returns-in_err-push-clause-widened : goal.returns-in_err-push-clause-widened
returns-in_err-push-clause-widened c = IfOk-from_err c.from_residual.result _ c.from_residual.ensures.0

pub returns-in_err-push-clause-indexes : goal.returns-in_err-push-clause-indexes
returns-in_err-push-clause-indexes c = IfOk-from_err c.from_residual.result _ c.from_residual.ensures.0

pub returns-in_err-push-clause-few : goal.returns-in_err-push-clause-few
returns-in_err-push-clause-few c = IfOk-from_err c.from_residual.result _ c.from_residual.ensures.0

pub returns-clause-still : goal.returns-clause-still
returns-clause-still c = c.loop-i.invariant.counted ∙ sym c.requires.counted

pub returns-clause-indexes : goal.returns-clause-indexes
returns-clause-indexes c = c.loop-i.invariant.indexes

pub returns-clause-few : goal.returns-clause-few
returns-clause-few c = omega (arith, c.loop-i.invariant.few, c.loop-i.invariant.within)
