use Rattle.std.proofs.Common.{[], ◌∷◌, Some, arith, refl}
use Rattle.std.proofs.lemmas.Result.{IfOk-weaker}
use Rattle.tool_common.proofs.Gave.{gave_at}
use Rattle.tool_objects.specs.Compare.{compare_asked}
use Rattle.tool_objects.proofs.compare.compare_read.Goals as goal

pub returns : goal.returns
returns c = λ content read.
    let words = compare_asked c.args.request.now in
    let names = words.policy ∷ Some words.image ∷ Some words.map ∷ words.input ∷ [] in
    let (objects_gave, others_gave) = c.split.ensures.gave content names refl read in
    let gave = gave_at (λ b. b.items) content names c.split.result.1.now others_gave in
    let told = rw c.text_named-policy.ensures at c.compare_bytes.ensures in
    IfOk-weaker c.compare_bytes.result _ _ (λ outcome is. record {
      given = _;
      policy_bytes = c.deref.result.now;
      image_bytes = c.deref-2.result.now;
      map_bytes = c.deref-3.result.now;
      input_bytes = c.deref-4.result.now;
      objects_gave = objects_gave;
      policy_gave = gave 0 c.index-others-0.result c.deref.result.now (omega arith) c.index-others-0.is c.deref.ensures.value;
      image_gave = gave 1 c.index-others-1.result c.deref-2.result.now (omega arith) c.index-others-1.is c.deref-2.ensures.value;
      map_gave = gave 2 c.index-others-2.result c.deref-3.result.now (omega arith) c.index-others-2.is c.deref-3.ensures.value;
      input_gave = gave 3 c.index-others-3.result c.deref-4.result.now (omega arith) c.index-others-3.is c.deref-4.ensures.value;
      compare_is = is;
    }) told
