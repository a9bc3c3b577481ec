use Rattle.std.proofs.Common.{◌≡◌, ℕ, ◌<◌, List, length, ap, sym, subst, ◌∙◌, IfOk}
use Rattle.std.specs.List.{All, Contains}
use Rattle.std.specs.List.Sorted.{IsStrictlyIncreasing}
use Rattle.std.proofs.lemmas.Result.{IfOk-from_err, IfOk-weaker}
use Rattle.cfi_class.specs.Passes.{AreNumbers, AreGroups}
use Rattle.cfi_class.proofs.Chains.{members, apart, joined}
use Rattle.cfi_class.proofs.class.classes.Goals as goal

pub numbers_of-requires-clause-among : goal.numbers_of-requires-clause-among
numbers_of-requires-clause-among c = λ a h.
    subst (λ (xs : List ℕ). Contains xs a) (sym c.as_slice.ensures.value) ((c.in_ok-targets.ensures.members a).1 h)

numbered : (c : goal.After-drop-targets-2) → AreNumbers c.args.sets.now c.in_ok-targets.targets.items (length c.args.sets.now) c.in_ok-numbers.numbers.items
numbered c = rw (← c.as_slice.ensures.value) c.in_ok-numbers.ensures

grouped : (c : goal.After-drop-targets-2) → IfOk c.grouped.result (λ v. AreGroups c.in_ok-targets.targets.items c.in_ok-numbers.numbers.items v.items)
grouped c =
    rw (← c.as_slice-2.ensures.value, ← c.as_slice-3.ensures.value) c.grouped.ensures

pub returns-clause-joined : goal.returns-clause-joined
returns-clause-joined c =
    IfOk-weaker c.grouped.result _ _ (λ v g. joined _ _ _ v.items c.in_ok-targets.ensures.members (numbered c) g) (grouped c)

pub returns-clause-members : goal.returns-clause-members
returns-clause-members c =
    IfOk-weaker c.grouped.result _ _ (λ v g. members _ _ _ v.items c.in_ok-targets.ensures.members (numbered c) g) (grouped c)

pub returns-clause-apart : goal.returns-clause-apart
returns-clause-apart c =
    IfOk-weaker c.grouped.result _ _ (λ v g. apart _ _ _ v.items c.in_ok-targets.ensures.members (numbered c) g) (grouped c)

pub returns-in_err-targets-clause-joined : goal.returns-in_err-targets-clause-joined
returns-in_err-targets-clause-joined c = IfOk-from_err c.from_residual.result _ c.from_residual.ensures.0

pub returns-in_err-targets-clause-members : goal.returns-in_err-targets-clause-members
returns-in_err-targets-clause-members c = IfOk-from_err c.from_residual.result _ c.from_residual.ensures.0

pub returns-in_err-targets-clause-apart : goal.returns-in_err-targets-clause-apart
returns-in_err-targets-clause-apart c = IfOk-from_err c.from_residual.result _ c.from_residual.ensures.0

pub returns-in_err-targets-clause-rising : goal.returns-in_err-targets-clause-rising
returns-in_err-targets-clause-rising c = IfOk-from_err c.from_residual.result _ c.from_residual.ensures.0

pub returns-in_err-targets-clause-some : goal.returns-in_err-targets-clause-some
returns-in_err-targets-clause-some c = IfOk-from_err c.from_residual.result _ c.from_residual.ensures.0

pub returns-in_err-targets-clause-in_order : goal.returns-in_err-targets-clause-in_order
returns-in_err-targets-clause-in_order c = IfOk-from_err c.from_residual.result _ c.from_residual.ensures.0

pub returns-in_err-numbers-clause-joined : goal.returns-in_err-numbers-clause-joined
returns-in_err-numbers-clause-joined c = IfOk-from_err c.from_residual-in_err-numbers.result _ c.from_residual-in_err-numbers.ensures.0

pub returns-in_err-numbers-clause-members : goal.returns-in_err-numbers-clause-members
returns-in_err-numbers-clause-members c = IfOk-from_err c.from_residual-in_err-numbers.result _ c.from_residual-in_err-numbers.ensures.0

pub returns-in_err-numbers-clause-apart : goal.returns-in_err-numbers-clause-apart
returns-in_err-numbers-clause-apart c = IfOk-from_err c.from_residual-in_err-numbers.result _ c.from_residual-in_err-numbers.ensures.0

pub returns-in_err-numbers-clause-rising : goal.returns-in_err-numbers-clause-rising
returns-in_err-numbers-clause-rising c = IfOk-from_err c.from_residual-in_err-numbers.result _ c.from_residual-in_err-numbers.ensures.0

pub returns-in_err-numbers-clause-some : goal.returns-in_err-numbers-clause-some
returns-in_err-numbers-clause-some c = IfOk-from_err c.from_residual-in_err-numbers.result _ c.from_residual-in_err-numbers.ensures.0

pub returns-in_err-numbers-clause-in_order : goal.returns-in_err-numbers-clause-in_order
returns-in_err-numbers-clause-in_order c = IfOk-from_err c.from_residual-in_err-numbers.result _ c.from_residual-in_err-numbers.ensures.0

pub numbers_of-requires-clause-rising : goal.numbers_of-requires-clause-rising
numbers_of-requires-clause-rising c =
    subst (λ (xs : List ℕ). IsStrictlyIncreasing xs) (sym c.as_slice.ensures.value) c.in_ok-targets.ensures.rising

pub grouped-requires-clause-rising : goal.grouped-requires-clause-rising
grouped-requires-clause-rising c =
    subst (λ (xs : List ℕ). IsStrictlyIncreasing xs) (sym c.as_slice-2.ensures.value) c.in_ok-targets.ensures.rising

pub grouped-requires-clause-each : goal.grouped-requires-clause-each
grouped-requires-clause-each c =
    ap length c.as_slice-3.ensures.value ∙ c.in_ok-numbers.ensures.same_length ∙ ap length c.as_slice.ensures.value ∙ sym (ap length c.as_slice-2.ensures.value)

in_range : (numbers read targets shown again : List ℕ) → read ≡ numbers → shown ≡ targets → again ≡ targets → All (λ (number : ℕ). number < length shown) numbers →
    All (λ (number : ℕ). number < length again) read
in_range numbers read targets shown again is first second within = rw (is, second) (rw first at within)

pub grouped-requires-clause-in_range : goal.grouped-requires-clause-in_range
grouped-requires-clause-in_range c =
    in_range c.in_ok-numbers.numbers.items c.as_slice-3.result.now c.in_ok-targets.targets.items c.as_slice.result.now c.as_slice-2.result.now c.as_slice-3.ensures.value c.as_slice.ensures.value c.as_slice-2.ensures.value c.in_ok-numbers.ensures.in_range

pub returns-clause-rising : goal.returns-clause-rising
returns-clause-rising c = IfOk-weaker c.grouped.result _ _ (λ v g. g.rising) c.grouped.ensures

pub returns-clause-some : goal.returns-clause-some
returns-clause-some c = IfOk-weaker c.grouped.result _ _ (λ v g. g.some) c.grouped.ensures

pub returns-clause-in_order : goal.returns-clause-in_order
returns-clause-in_order c = IfOk-weaker c.grouped.result _ _ (λ v g. g.in_order) c.grouped.ensures
