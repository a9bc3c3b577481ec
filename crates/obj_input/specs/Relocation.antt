-- A relocation with what its symbol stands for.
use Rattle.std.specs.Prelude.{Bool, not}
use Rattle.obj_input.specs.declared.parts.Relocation.{Relocation}
use Rattle.obj_input.specs.Kinds.{is_idle, kind_of}

-- a relocation that does something
abbrev pub is_acting : Relocation → Bool
is_acting u = not (is_idle (kind_of u.number))
