use Rattle.std.proofs.Common.{[], ◌∷◌, arith, refl}
use Rattle.std.proofs.lemmas.Result.{IfOk-weaker}
use Rattle.tool_common.proofs.Gave.{gave_at}
use Rattle.tool_objects.specs.Rewrite.{rewrite_asked}
use Rattle.tool_objects.proofs.rewrite.rewrite_read.Goals as goal

pub returns : goal.returns
returns c = λ content read.
    let words = rewrite_asked c.args.request.now in
    let names = words.policy ∷ [] in
    let (objects_gave, others_gave) = c.split.ensures.gave content names refl read in
    let gave = gave_at (λ b. b.items) content names c.split.result.1.now others_gave in
    let told = rw c.text_named-policy.ensures at c.rewrite_given.ensures in
    IfOk-weaker c.rewrite_given.result _ _ (λ outcome is. record {
      given = _;
      policy_bytes = c.deref.result.now;
      objects_gave = objects_gave;
      policy_gave = gave 0 c.index-others-0.result c.deref.result.now (omega arith) c.index-others-0.is c.deref.ensures.value;
      apart = c.requires.apart;
      rewrite_is = is;
    }) told
