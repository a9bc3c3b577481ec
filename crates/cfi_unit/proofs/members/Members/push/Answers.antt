use Rattle.std.proofs.Common.{◌<◌, ◌≤◌, List, length, sym, subst, ◌∙◌, arith}
use Rattle.std.proofs.lemmas.List.{length-take-le}
use Rattle.cfi_unit.specs.declared.members.Member.{Member}
use Rattle.cfi_unit.specs.Members.{FILLER}
use Rattle.rv_word.proofs.Arrays.{set_length, tail_next}
use Rattle.cfi_unit.proofs.members.Members.push.Goals as goal

pub invariant_of-self : goal.invariant_of-self
invariant_of-self c =
    let whole = c.self.invariant.1 in
    let few = c.self.invariant.0 in
    let within : c.self.inside.count ≤ length c.self.inside.items = omega arith in
    let held = length-take-le c.self.inside.count c.self.inside.items within in
    let room = subst (λ (l : List Member). length l < 16) (sym c.self.view_is) c.requires in
    let below : c.self.inside.count < 16 = omega arith in (
      omega arith,
      set_length c.self.inside.items c.self.inside.count c.args.member ∙ whole,
      tail_next c.self.inside.items 16 c.self.inside.count c.args.member FILLER below c.self.invariant.2,
    )
