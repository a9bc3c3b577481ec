use Rattle.std.proofs.Common.{ℕ, List, ◌<◌, ◌^◌, get_or, ap, subst, sym, ◌∙◌}
use Rattle.cfi_map.specs.Placement.{words_from}
use Rattle.cfi_map.proofs.mapped.Mapped.of.Goals as goal

pub words_behind-requires-clause-near : goal.words_behind-requires-clause-near
words_behind-requires-clause-near c = subst (λ (gs : List ℕ). (k : ℕ) → get_or gs k 0 < 2 ^ 32) (sym c.as_slice.ensures.value) c.requires.near

pub invariant_of-result : goal.invariant_of-result
invariant_of-result c = record {
  version = c.requires.version;
  counted = c.requires.counted;
  near = c.requires.near;
  rising = c.requires.rising;
  words_are = c.in_ok-words.ensures ∙ ap (words_from c.args.leads 0) c.as_slice.ensures.value;
  entry = c.requires.entry;
}
