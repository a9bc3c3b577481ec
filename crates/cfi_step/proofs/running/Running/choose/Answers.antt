use Rattle.std.proofs.Common.{◌∙◌, ◌+◌, ◌++◌, ◌∷◌, [], ℕ, ap, subst, sym}
use Rattle.std.specs.Prelude.{length}
use Rattle.cfi_script.specs.Plan.{IsOneHart, IsQuietPlan, Plan}
use Rattle.cfi_step.specs.Taken.{AreTurnsOf}
use Rattle.cfi_step.specs.declared.turns.TakenTurns.{TakenTurns}
use Rattle.cfi_step.proofs.Preparing.{still_so}
use Rattle.cfi_step.proofs.running.Running.choose.Goals as goal

pub returns-clause-prepared : goal.returns-clause-prepared
returns-clause-prepared g c =
    let now = c.args.self.now in
    let kept = ap g.M.Meddler.plan c.turn-hart.ensures.kept in
    let plan = g.M.Meddler.plan c.args.meddler.now in
    let made = rw kept at c.in_ok-disturb.ensures.made in
    let shared = rw kept at c.in_ok-disturb.ensures.shared in
    let allowed = rw kept at c.in_ok-disturb.ensures.allowed in
    let turned = c.in_ok-turn_to.ensures in
    let quiet = subst (λ (n : ℕ). IsQuietPlan (c.args.step + 1) n plan) (sym turned.quiet)
    (subst (λ (x : Plan). IsQuietPlan (c.args.step + 1) c.disturb.new.self.quiet x) kept c.in_ok-disturb.ensures.still) in
    let own = turned.hart ∙ c.turn-hart.ensures.answered in
    record {
      hart = own;
      below = rw turned.hart c.turn-hart.ensures.below;
      since = turned.since;
      current = turned.current ∙ sym turned.hart;
      taken = λ harts len are.
          let before = subst (λ (t : TakenTurns). AreTurnsOf harts t) (sym c.in_ok-disturb.ensures.taken) are in
          subst (λ (h : ℕ). AreTurnsOf (harts ++ h ∷ []) c.turn_to.new.self.taken) (sym turned.hart) (turned.taken harts len before);
      allowed = allowed;
      harts = turned.harts ∙ c.in_ok-disturb.ensures.harts;
      shared = turned.shared ∙ shared;
      made = turned.made ∙ made;
      count = turned.count ∙ c.in_ok-disturb.ensures.count;
      version = turned.version ∙ c.in_ok-disturb.ensures.version;
      trails = ap (λ trails. trails.items) (c.turn_to.ensures.trails ∙ c.in_ok-disturb.ensures.trails);
      quiet = quiet;
    }

pub returns-clause-still : goal.returns-clause-still
returns-clause-still g c =
    let now = c.args.self.now in
    let kept = ap g.M.Meddler.plan c.turn-hart.ensures.kept in
    let plan = g.M.Meddler.plan c.args.meddler.now in
    let turned = c.in_ok-turn_to.ensures in
    let quiet = subst (λ (n : ℕ). IsQuietPlan (c.args.step + 1) n plan) (sym turned.quiet)
    (subst (λ (x : Plan). IsQuietPlan (c.args.step + 1) c.disturb.new.self.quiet x) kept c.in_ok-disturb.ensures.still) in
    let one = subst (λ (h : ℕ). IsOneHart c.args.step c.turn-hart.result.1 (length now.machine.resting) h plan) (sym turned.hart) c.turn-hart.ensures.until in
    still_so plan c.args.step c.turn_to.new.self.quiet c.turn-hart.result.1 c.lesser.result (length now.machine.resting) c.turn_to.new.self.taken.hart c.lesser.ensures quiet one
