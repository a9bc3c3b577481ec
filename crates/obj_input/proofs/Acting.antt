-- Relocations that name a pair's target, or are the high part of a distance, do something.
use Rattle.std.proofs.Common.{◌≡◌, true, refl}
use Rattle.obj_input.specs.declared.parts.Relocation.{Relocation}
use Rattle.obj_input.specs.declared.reloc_kind.RelocKind.{RelocKind}
use Rattle.obj_input.specs.declared.reloc_kind.RelocKind.TheVariants.{PairTarget, RelativeHigh, TableHigh}
use Rattle.obj_input.specs.Kinds.{is_idle, is_pair_target, is_relative_high, kind_of}
use Rattle.obj_input.specs.Relocation.{is_acting}
use Rattle.obj_input.specs.InOrder.{is_high_use, is_pair_use}
use Rattle.std.specs.Prelude.{not}

pair_does : (kind : RelocKind) → is_pair_target kind ≡ true → not (is_idle kind) ≡ true
pair_does PairTarget e = refl
pair_does other e = absurd (cc)

high_does : (kind : RelocKind) → is_relative_high kind ≡ true → not (is_idle kind) ≡ true
high_does RelativeHigh e = refl
high_does TableHigh e = refl
high_does other e = absurd (cc)

pub pair_is_acting : (u : Relocation) → is_pair_use u ≡ true → is_acting u ≡ true
pair_is_acting u e = pair_does (kind_of u.number) e

pub high_is_acting : (u : Relocation) → is_high_use u ≡ true → is_acting u ≡ true
high_is_acting u e = high_does (kind_of u.number) e
