use Rattle.std.proofs.Common.{◌≡◌, ℕ, List, ◌∙◌, ap, ◌++◌, ◌∷◌, []}
use Rattle.std.specs.List.{flat_map}
use Rattle.text_lines.specs.Lines.{spaced}
use Rattle.cfi_map_text.specs.MapText.{map_text, map_words}
use Rattle.cfi_map_text.proofs.MapLaws.{map_of-map_text}
use Rattle.cfi_map_text.proofs.MapWritten.{map_written}
use Rattle.cfi_map_text.proofs.map_form.write_map.Goals.{In_ok-extend_from_slice-2}
use Rattle.cfi_map_text.proofs.map_form.write_map.Goals as goal

written : (c : In_ok-extend_from_slice-2) → c.extend_from_slice-2.new.self.items ≡ map_text c.args.map.now
written c =
    let name = c.in_ok-extend_from_slice.ensures.items ∙ ap (λ (n : List ℕ). c.new-out.result.items ++ n) c.name_of.ensures in
    let lines = c.in_ok-push_lines.ensures ∙ ap (λ ls. c.push.new.self.items ++ flat_map (λ l. spaced (map_words l) ++ 10 ∷ []) ls) c.as_slice.ensures in
    rw (← c.map.view_is) (map_written _ c.new-out.ensures.items name c.in_ok-push.ensures.items lines c.in_ok-extend_from_slice-2.ensures.items)

pub returns-clause-text : goal.returns-clause-text
returns-clause-text c = written c

pub returns-clause-read_back : goal.returns-clause-read_back
returns-clause-read_back c = rw (written c) (map_of-map_text c.args.map.now (rw (← c.map.view_is) c.map.invariant))
