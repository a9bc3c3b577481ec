use Rattle.std.proofs.Common.{◌≡◌, ◌+◌, ◌++◌, length}
use Rattle.std.specs.Option.{option_map, option_map_or}
use Rattle.cfi_policy.specs.Policy.{places_of}
use Rattle.text_lines.specs.Lines.{parts_after}
use Rattle.cfi_policy.proofs.policy_form.places.Given as goal

abbrev pub invariant-loop-left : goal.invariant-loop-left
invariant-loop-left l =
    option_map (λ others. l.items.items ++ others) (places_of (parts_after 32 (option_map (λ r. r.now) l.left))) ≡ places_of (parts_after 32 (option_map (λ r. r.now) l.words))

abbrev pub decreases-loop-left : goal.decreases-loop-left
decreases-loop-left l = option_map_or (λ r. length r.now + 1) l.left 0
