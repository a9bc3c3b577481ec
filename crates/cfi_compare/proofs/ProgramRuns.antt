-- A program's run that is under way: its first steps, each of which ran, and what comes after them.
use Rattle.std.proofs.Common.{◌≡◌, Bool, true, false, ℕ, zero, suc, ◌+◌, ◌-◌, ◌<◌, ◌≤◌, refl, sym, ap, ◌∙◌, arith}
use Rattle.cfi_compare.proofs.Prelude.{ProgramAtMap, Source, StepTurn, breaks, exits, ran, source_step, untame, Program, IsStep, IsUnchanged, SourceParts, counted, source_of, told, SourceTurn, SourceRun, run_from, source_run, IsFinished, IsOwnState}
use Rattle.src_machine.specs.declared.turn.SourceTurn.TheVariants as ends

-- so many steps that ran
abbrev pub going : ℕ → Source → SourceRun
going n st = record { steps = n; state = st; turn = ran }

abbrev pub after : ℕ → SourceRun → SourceRun
after n rest = record { steps = n + rest.steps; state = rest.state; turn = rest.turn }

abbrev is_ran : StepTurn → Bool
is_ran ran = true
is_ran (exits status) = false
is_ran (breaks k) = false
is_ran (untame why k) = false

-- an untame step is not taken
abbrev taken : StepTurn → ℕ
taken ran = 1
taken (exits status) = 1
taken (breaks k) = 1
taken (untame why k) = 0

-- a run of one step that ended it
abbrev last_of : StepTurn → Source → SourceRun
last_of turn st = record { steps = taken turn; state = st; turn = turn }

ended : (turn : StepTurn) (next : Source) (rest : SourceRun) → is_ran turn ≡ false → run_from turn next rest ≡ last_of turn next
ended ran next rest e = absurd (cc)
ended (exits status) next rest e = refl
ended (breaks k) next rest e = refl
ended (untame why k) next rest e = refl

ran_told : (p : Program) (turn : StepTurn) → told p turn ≡ ends.Ran → turn ≡ ran
ran_told p ran e = refl
ran_told p (exits status) e = absurd (cc)
ran_told p (breaks k) e = absurd (cc)
ran_told p (untame why k) e = absurd (cc)

not_ran : (p : Program) (turn : StepTurn) (told_turn : SourceTurn) → told_turn ≡ told p turn → (told_turn ≡ ends.Ran → ⊥) → is_ran turn ≡ false
not_ran p ran t e never = absurd (never e)
not_ran p (exits status) t e never = refl
not_ran p (breaks k) t e never = refl
not_ran p (untame why k) t e never = refl

counted_told : (p : Program) (turn : StepTurn) (told_turn : SourceTurn) (n : ℕ) → told_turn ≡ told p turn → counted told_turn n ≡ n + taken turn
counted_told p ran t n e = rw e refl
counted_told p (exits status) t n e = rw e refl
counted_told p (breaks k) t n e = rw e refl
counted_told p (untame why k) t n e = rw e (omega arith)

pub counts_one : (told_turn : SourceTurn) (n : ℕ) → told_turn ≡ ends.Ran → counted told_turn n ≡ n + 1
counts_one t n e = ap (λ (turn : SourceTurn). counted turn n) e

few_told : (turn : StepTurn) → taken turn ≤ 1
few_told ran = omega arith
few_told (exits status) = omega arith
few_told (breaks k) = omega arith
few_told (untame why k) = omega arith

is_going : (r : SourceRun) (n : ℕ) (s : Source) → r.steps ≡ n → r.state ≡ s → r.turn ≡ ran → r ≡ going n s
is_going r n s steps state turn =
    ap (λ (k : ℕ). record { steps = k; state = r.state; turn = r.turn }) steps
    ∙ ap (λ (x : Source). record { steps = n; state = x; turn = r.turn }) state
    ∙ ap (λ (t : StepTurn). record { steps = n; state = s; turn = t }) turn

abbrev of_steps : SourceRun → ℕ → SourceRun
of_steps r k = record { steps = k; state = r.state; turn = r.turn }

counts : (r : SourceRun) (a b : ℕ) → a ≡ b → of_steps r a ≡ of_steps r b
counts r a b e = ap (λ (k : ℕ). of_steps r k) e

module _ (layout : ProgramAtMap) where
  abbrev GoesOn : ℕ → Type 0
  GoesOn n = (m : ℕ) (st s : Source) → source_run layout n st ≡ going n s → source_run layout (n + m) st ≡ after n (source_run layout m s)

  one_more : (n m : ℕ) (turn : StepTurn) (next s : Source) → GoesOn n → run_from turn next (source_run layout n next) ≡ going (suc n) s →
      run_from turn next (source_run layout (n + m) next) ≡ after (suc n) (source_run layout m s)
  one_more n m ran next s on e =
      let r = source_run layout n next in
      let steps : suc r.steps ≡ suc n = ap (λ (x : SourceRun). x.steps) e in
      let same : r.steps ≡ n = omega (arith, steps) in
      let state : r.state ≡ s = ap (λ (x : SourceRun). x.state) e in
      let turn : r.turn ≡ ran = ap (λ (x : SourceRun). x.turn) e in
      let whole : r ≡ going n s = is_going r n s same state turn in
      let rest = source_run layout m s in
      ap (λ (x : SourceRun). run_from ran next x) (on m next s whole) ∙ counts rest (suc (n + rest.steps)) (suc n + rest.steps) (omega arith)
  one_more n m (exits status) next s on e = let turn : exits status ≡ ran = ap (λ (x : SourceRun). x.turn) e in absurd (cc)
  one_more n m (breaks k) next s on e = let turn : breaks k ≡ ran = ap (λ (x : SourceRun). x.turn) e in absurd (cc)
  one_more n m (untame why k) next s on e = let turn : untame why k ≡ ran = ap (λ (x : SourceRun). x.turn) e in absurd (cc)

  pub goes_on : (n : ℕ) → GoesOn n
  unfolding source_run
  goes_on zero m st s e = let same : st ≡ s = ap (λ (x : SourceRun). x.state) e in
      let rest = source_run layout m s in
      let none : 0 + m ≡ m = omega arith in
      ap (λ (k : ℕ). source_run layout k st) none ∙ ap (λ (x : Source). source_run layout m x) same ∙ counts rest rest.steps (0 + rest.steps) (omega arith)
  goes_on (suc n) m st s e =
      let longer : suc n + m ≡ suc (n + m) = omega arith in
      rw longer (one_more n m (source_step layout st).turn (source_step layout st).state s (goes_on n) e)

  run_one : (rest : ℕ) (s : Source) → source_run layout (suc rest) s
      ≡ run_from (source_step layout s).turn (source_step layout s).state (source_run layout rest (source_step layout s).state)
  unfolding source_run
  run_one rest s = refl

  step_run : (n rest : ℕ) (st s : Source) → source_run layout n st ≡ going n s → source_run layout (n + suc rest) st
      ≡ after n (run_from (source_step layout s).turn (source_step layout s).state (source_run layout rest (source_step layout s).state))
  step_run n rest st s e = goes_on n (suc rest) st s e ∙ ap (λ (x : SourceRun). after n x) (run_one rest s)

  run_next : (n : ℕ) (st s : Source) → source_run layout n st ≡ going n s → (source_step layout s).turn ≡ ran →
      source_run layout (n + 1) st ≡ going (n + 1) (source_step layout s).state
  unfolding source_run
  run_next n st s e is =
      step_run n 0 st s e
      ∙ ap (λ (turn : StepTurn). after n (run_from turn (source_step layout s).state (source_run layout 0 (source_step layout s).state))) is

  -- the step ended the run
  run_over : (n limit : ℕ) (st s : Source) → source_run layout n st ≡ going n s → n < limit → is_ran (source_step layout s).turn ≡ false →
      source_run layout limit st ≡ after n (last_of (source_step layout s).turn (source_step layout s).state)
  run_over n limit st s e less stops =
      let rest = limit - (n + 1) in
      let longer : limit ≡ n + suc rest = omega arith in
      ap (λ (k : ℕ). source_run layout k st) longer ∙ step_run n rest st s e
      ∙ ap (λ (x : SourceRun). after n x) (ended (source_step layout s).turn (source_step layout s).state (source_run layout rest (source_step layout s).state) stops)

-- a run has come from its start to where it is by steps that ran
pub record Came (before now : SourceParts) : Type 0 where
  pub came : source_run before.layout now.steps (source_of before) ≡ going now.steps (source_of now)
  pub layout : now.layout ≡ before.layout

pub at_start : (before : SourceParts) → before.steps ≡ 0 → Came before before
unfolding source_run
at_start before fresh = record { came = rw fresh refl; layout = refl }

module _ (before now : SourceParts) (c : Came before now) where
  pub came_next : (next : SourceParts) (turn : SourceTurn) → IsStep now turn next → turn ≡ ends.Ran → Came before next
  came_next next turn step is =
      let state = rw c.layout at step.state in
      let turn_is : turn ≡ told before.layout.program (source_step before.layout (source_of now)).turn = rw c.layout at step.turn in
      let goes = ran_told before.layout.program _ (sym turn_is ∙ is) in
      let steps : next.steps ≡ now.steps + 1 = step.steps ∙ counts_one turn now.steps is in
      record {
        came = rw (steps, state) (run_next before.layout now.steps (source_of before) (source_of now) c.came goes);
        layout = step.layout ∙ c.layout;
      }

  pub came_over : (limit : ℕ) (next : SourceParts) (turn : SourceTurn) → now.steps < limit → IsStep now turn next → (turn ≡ ends.Ran → ⊥) →
      IsFinished before limit turn next
  came_over limit next turn less step never =
      let state = rw c.layout at step.state in
      let turn_is : turn ≡ told before.layout.program (source_step before.layout (source_of now)).turn = rw c.layout at step.turn in
      let stops = not_ran before.layout.program _ turn turn_is never in
      let over = run_over before.layout now.steps limit (source_of before) (source_of now) c.came less stops in
      let steps : next.steps ≡ now.steps + taken (source_step before.layout (source_of now)).turn =
      step.steps ∙ counted_told before.layout.program _ turn now.steps turn_is in
      let one = few_told (source_step before.layout (source_of now)).turn in
      record {
        turn_is = turn_is ∙ ap (λ (r : SourceRun). told before.layout.program r.turn) (sym over);
        state = state ∙ ap (λ (r : SourceRun). r.state) (sym over);
        steps = steps ∙ ap (λ (r : SourceRun). r.steps) (sym over);
        few = omega (arith, one, steps, less);
        layout = step.layout ∙ c.layout;
      }

  pub came_all : (limit : ℕ) → now.steps ≡ limit → IsFinished before limit ends.Ran now
  came_all limit all =
      let whole : source_run before.layout limit (source_of before) ≡ going now.steps (source_of now) = rw (sym all) c.came in
      record {
        turn_is = ap (λ (r : SourceRun). told before.layout.program r.turn) (sym whole);
        state = ap (λ (r : SourceRun). r.state) (sym whole);
        steps = ap (λ (r : SourceRun). r.steps) (sym whole);
        few = omega (arith, all);
        layout = c.layout;
      }

  -- a refused step leaves the run where its own steps have led it
  pub came_own : (limit : ℕ) (after : SourceParts) → now.steps ≤ limit → IsUnchanged now after → IsOwnState before limit after
  came_own limit after few same = record {
    taken = now.steps;
    within = few;
    state = same.state ∙ ap (λ (r : SourceRun). r.state) (sym c.came);
    steps = same.steps ∙ ap (λ (r : SourceRun). r.steps) (sym c.came);
    layout = same.layout ∙ c.layout;
  }

pub finished_own : (before now : SourceParts) (limit : ℕ) (turn : SourceTurn) → IsFinished before limit turn now → IsOwnState before limit now
finished_own before now limit turn f = record {
  taken = limit;
  within = omega arith;
  state = f.state;
  steps = f.steps;
  layout = f.layout;
}
