use Rattle.std.proofs.Common.{arith, refl}
use Rattle.tool_common.specs.Reads.{Content}
use Rattle.tool_images.specs.Run.{run_asked, run_names}
use Rattle.tool_common.proofs.Gave.{gave_at}
use Rattle.tool_common.proofs.InOrder.{read_less}
use Rattle.tool_images.proofs.run.run_files.Goals as goal

pub returns-clause-explained : goal.returns-clause-explained
returns-clause-explained g c =
    let content : Content = g.F.Files.content c.args.files.now in
    let names = run_names (run_asked c.args.request.now) in
    let gave = gave_at (λ b. b.items) content names c.in_ok-bytes.bytes.items c.in_ok-bytes.ensures.gave in
    record {
      image_bytes = c.deref-2.result.now;
      graph_bytes = c.deref-3.result.now;
      script_bytes = c.deref.result.now;
      input_bytes = c.deref-4.result.now;
      image_gave = gave 0 c.index-2.result.now c.deref-2.result.now (omega arith) c.index-2.ensures c.deref-2.ensures.value;
      graph_gave = gave 1 c.index-3.result.now c.deref-3.result.now (omega arith) c.index-3.ensures c.deref-3.ensures.value;
      script_gave = gave 2 c.index.result.now c.deref.result.now (omega arith) c.index.ensures c.deref.ensures.value;
      input_gave = gave 3 c.index-4.result.now c.deref-4.result.now (omega arith) c.index-4.ensures c.deref-4.ensures.value;
      run_is = rw c.text_named-script.ensures at c.in_ok-run_bytes.ensures;
    }

pub returns-in_err-run_bytes-clause-in_order : goal.returns-in_err-run_bytes-clause-in_order
returns-in_err-run_bytes-clause-in_order g c = read_less _ _ _ _ _ c.in_ok-bytes.ensures.in_order (λ _. refl)
