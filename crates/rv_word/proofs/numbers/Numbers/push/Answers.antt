use Rattle.std.proofs.Common.{ℕ, ◌<◌, ◌≤◌, List, length, sym, subst, ◌∙◌, arith}
use Rattle.std.proofs.lemmas.List.{length-take-le}
use Rattle.rv_word.specs.Numbers.{IsNumber}
use Rattle.rv_word.proofs.Arrays.{set_all, set_length, tail_next}
use Rattle.rv_word.proofs.numbers.Numbers.push.Goals as goal

pub invariant_of-self : goal.invariant_of-self
invariant_of-self c =
    let whole = c.self.invariant.1 in
    let few = c.self.invariant.0 in
    let within : c.self.inside.count ≤ length c.self.inside.items = omega arith in
    let held = length-take-le c.self.inside.count c.self.inside.items within in
    let room = subst (λ (l : List ℕ). length l < 8) (sym c.self.view_is) c.requires.room in
    let below : c.self.inside.count < 8 = omega arith in (
      omega arith,
      set_length c.self.inside.items c.self.inside.count c.args.number ∙ whole,
      tail_next c.self.inside.items 8 c.self.inside.count c.args.number 0 below c.self.invariant.2,
      set_all IsNumber c.self.inside.items c.self.inside.count c.args.number c.self.invariant.3 c.requires.small,
    )
