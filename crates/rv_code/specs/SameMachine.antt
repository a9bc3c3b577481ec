-- Machines of two profiles that take the same steps: a step asks nothing of its profile but how many bytes the shadow stack has.
use Rattle.std.specs.Prelude.{◌≡◌}
use Rattle.rv_image.specs.MemoryMap.{Profile}

abbrev pub IsSameMachine : Profile → Profile → Type 0
IsSameMachine q p = q.shadow_size ≡ p.shadow_size
