use Rattle.std.proofs.Common.{refl}
use Rattle.rvcfi_c.proofs.Planned.{are_there}
use Rattle.rvcfi_c.proofs.plan.plan_of.Goals as goal

pub overflow_sub-result : goal.overflow_sub-result
overflow_sub-result c =
    let image = c.in_ok-image.image in
    let there = are_there _ image.version image.code image.init c.code.ensures.size c.in_ok-image.ensures.spelled in
    rw c.init-init.ensures there.room

pub returns-clause-plan : goal.returns-clause-plan
returns-clause-plan c =
    let image = c.in_ok-image.image in
    let there = are_there _ image.version image.code image.init c.code.ensures.size c.in_ok-image.ensures.spelled in
    rw (c.from.ensures, c.number.ensures, c.most_harts.ensures, c.shadow_size.ensures.value, c.version-version.ensures, c.init-init.ensures, c.code.ensures.value) (record {
      image = image;
      spelled = c.in_ok-image.ensures.spelled;
      size = c.code.ensures.size;
      version = refl;
      harts = refl;
      entry = refl;
      code_there = there.code_there;
      code_length = refl;
      code_address = refl;
      code_size = refl;
      data_there = there.data_there;
      data_length = refl;
      data_ends = there.data_ends;
      data_address = refl;
      data_end = refl;
      shadow_address = refl;
      shadow_size = refl;
    })
