use Rattle.std.proofs.Common.{◌≡◌, ℕ, ◌<◌, ◌^◌, List, subst}
use Rattle.std.specs.Prelude.{slice_index}
use Rattle.cfi_verify.proofs.verifier.are_bytes.Goals as goal

-- the bytes of a slice that a list is
small : (xs ys : List ℕ) → xs ≡ ys → ((k : ℕ) → slice_index xs k < 2 ^ 8) → (k : ℕ) → slice_index ys k < 2 ^ 8
small xs ys same bytes = subst (λ (l : List ℕ). (k : ℕ) → slice_index l k < 2 ^ 8) same bytes

pub returns : goal.returns
returns c = record {
  code = small _ _ c.code.ensures.value c.are_small.ensures;
  init = small _ _ c.init.ensures c.are_small-2.ensures;
  size = c.code.ensures.size;
}
