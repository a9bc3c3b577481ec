use Rattle.std.proofs.Common.{◌≡◌, ◌++◌, ◌∷◌, [], take}
use Rattle.std.specs.List.{flat_map}
use Rattle.cfi_graph.specs.Text.{words_of_line}
use Rattle.text_lines.specs.Lines.{spaced}
use Rattle.cfi_graph.proofs.write.push_lines.Given as goal

abbrev pub invariant-loop-line : goal.invariant-loop-line
invariant-loop-line l =
    l.out.items ≡ l.initial.out.items ++ flat_map (λ x. spaced (words_of_line x) ++ 10 ∷ []) (take l.line-index l.lines)
