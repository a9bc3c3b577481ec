use Rattle.std.proofs.Common.{ℕ, List, ap, ◌∙◌, ◌++◌, ◌∷◌}
use Rattle.std.proofs.lemmas.Result.{IfOk-equal}
use Rattle.std.specs.Fmt.{decimal}
use Rattle.std.specs.List.{flat_map}
use Rattle.cfi_graph.proofs.Printed.{calls_written}
use Rattle.cfi_graph.proofs.write.push_list.Goals as goal

pub returns : goal.returns
returns c =
    let named = c.in_ok-extend_from_slice.ensures.items in
    let lent = ap (λ (ns : List ℕ). c.extend_from_slice.new.self.items ++ flat_map (λ n. 32 ∷ decimal n) ns) c.as_slice.ensures.items in
    IfOk-equal c.push_calls.result _ _ _ c.push_calls.ensures (lent ∙ calls_written c.args.out.now.items c.extend_from_slice.new.self.items c.args.numbers.now named)
