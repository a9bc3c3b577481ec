use Rattle.std.proofs.Common.{◌≡◌, ◌++◌, ◌∷◌, [], take}
use Rattle.std.specs.List.{flat_map}
use Rattle.text_lines.specs.Lines.{spaced}
use Rattle.cfi_map_text.specs.MapText.{map_words}
use Rattle.cfi_map_text.proofs.map_form.push_lines.Given as goal

abbrev pub invariant-loop-line : goal.invariant-loop-line
invariant-loop-line l =
    l.out.items ≡ l.initial.out.items ++ flat_map (λ x. spaced (map_words x) ++ 10 ∷ []) (take l.line-index l.lines)
