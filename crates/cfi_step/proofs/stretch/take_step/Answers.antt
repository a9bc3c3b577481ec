use Rattle.std.proofs.Common.{◌++◌, ℕ, List, arith, subst}
use Rattle.cfi_step.specs.Trail.{IsTrailOf}
use Rattle.cfi_step.proofs.Noting.{starts_as}
use Rattle.cfi_step.proofs.Stepping.{ok_both}
use Rattle.cfi_step.proofs.Stretched.{start_at}
use Rattle.cfi_step.proofs.stretch.take_step.Goals as goal

pub at-requires : goal.at-requires
at-requires c = omega (arith, c.fetch_known-word.ensures.word, c.requires.inside)

pub returns : goal.returns
returns c =
    let noted = c.note_start.ensures in
    ok_both _ _ _ c.step_at.result c.step_at.ensures.stepped c.step_at.ensures.going (λ turn stepped going p words are.
    record {
      stepped = stepped;
      going = going;
      walk = λ walk is.
          subst (λ (more : List ℕ). IsTrailOf (walk ++ more) c.note_start.new.self) (starts_as _ c.args.pc.now _ (start_at p words _ _ c.args.pc.now _ c.fetch_known-word.ensures.word c.at.ensures are)) (noted.walk walk is);
      count = noted.count;
      current = c.step_at.ensures.current;
      resting = c.step_at.ensures.resting;
      version = c.step_at.ensures.version;
    })
