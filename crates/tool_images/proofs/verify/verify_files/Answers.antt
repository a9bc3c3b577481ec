use Rattle.std.proofs.Common.{◌≡◌, arith, get_or, refl}
use Rattle.std.proofs.lemmas.Grind.{common_steps}
use Rattle.tool_common.specs.Reads.{Content}
use Rattle.tool_images.specs.Verify.{verify_asked, verify_names}
use Rattle.tool_common.proofs.Gave.{gave_at}
use Rattle.tool_common.proofs.InOrder.{read_less}
use Rattle.tool_images.proofs.verify.verify_files.Goals as goal

pub returns-clause-explained : goal.returns-clause-explained
returns-clause-explained g c =
    let content : Content = g.F.Files.content c.args.files.now in
    let names = verify_names (verify_asked c.args.request.now) in
    let gave = gave_at (λ b. b.items) content names c.in_ok-bytes.bytes.items c.in_ok-bytes.ensures.gave in
    let kept : c.index.result.now ≡ get_or c.in_ok-bytes.bytes.items 0 c.index.result.now = grind (arith, common_steps) in
    record {
      image_bytes = c.deref.result.now;
      graph_bytes = c.remove-graph.result.items;
      image_gave = gave 0 c.index.result.now c.deref.result.now (omega arith) kept c.deref.ensures.value;
      graph_gave = gave 1 c.remove-graph.result c.remove-graph.result.items (omega arith) c.remove-graph.ensures.value refl;
      verdict_is = c.in_ok-verdict_of.ensures;
    }

pub returns-in_err-verdict_of-clause-in_order : goal.returns-in_err-verdict_of-clause-in_order
returns-in_err-verdict_of-clause-in_order g c = read_less _ _ _ _ _ c.in_ok-bytes.ensures.in_order (λ _. refl)
