use Rattle.std.proofs.Common.{rules, ◌≡◌, ◌≤◌, length, ℕ, ◌<◌, ◌^◌, arith}
use Rattle.std.specs.Prelude.{sum}
use Rattle.std.specs.List.{All}
use Rattle.std.proofs.lemmas.List.Sums.{sum_by-le}
use Rattle.std.proofs.lemmas.List.Elements.{All-from_get_or}
use Rattle.cfi_layout.proofs.starts.code_size.Goals as goal

pub overflow_add-result : goal.overflow_add-result
overflow_add-result c =
    let total : c.sum-parts.result ≡ sum c.args.sizes.now = search rules in
    let few : length c.args.sizes.now < 2 ^ 64 = search rules in
    let each : All (λ (size : ℕ). size ≤ 4294967295) c.args.sizes.now = All-from_get_or (λ (size : ℕ). size ≤ 4294967295) c.args.sizes.now 0 (λ i lt. omega (arith, c.type_inv.sizes i)) in
    omega (arith, sum_by-le (λ (x : ℕ). x) 4294967295 c.args.sizes.now each)
