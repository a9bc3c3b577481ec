-- What a prepared program comes to before its units are written: a placement in which its data have room and no value leaves its range,
-- or the first of three refusals.
use Rattle.std.specs.Prelude.{◌≡◌, ◌<◌, ◌≤◌, Some, None}
use Rattle.rv_image.specs.MemoryMap.{CODE_SIZE}
use Rattle.obj_program.specs.DataAtMap.{init_size}
use Rattle.refusals.specs.declared.refusal.Refusal.{Refusal}
use Rattle.refusals.specs.declared.refusal.Refusal.TheVariants.{CodeTooLarge, DataTooLarge, RelocRange}
use Rattle.cfi_harden.specs.Room.{HasDataRoom}
use Rattle.cfi_map.specs.Placing.{IsPlacementOf, Spaced}
use Rattle.cfi_harden.specs.Prepared.{PreparedParts, entered_of}
use Rattle.cfi_map.specs.Sizes.{whole_size}
use Rattle.cfi_map.specs.Source.{first_astray}

pub record IsFitting (p : PreparedParts) (s : Spaced) : Type 0 where
  pub placed : IsPlacementOf p.form p.program p.closed p.entry s
  pub room : HasDataRoom p.program
  pub in_range : first_astray s.layout ≡ None

-- a refusal of a prepared program
abbrev pub RefusesPlaced : PreparedParts → Refusal → Type 0
RefusesPlaced p (CodeTooLarge bytes) = (bytes ≡ whole_size p.form (entered_of p)) × (CODE_SIZE < bytes)
RefusesPlaced p (DataTooLarge init end) =
    (whole_size p.form (entered_of p) ≤ CODE_SIZE) × (init ≡ init_size p.program) × (end ≡ p.program.data_end) × (HasDataRoom p.program → ⊥)
RefusesPlaced p (RelocRange section offset) =
    (s : Spaced) × IsPlacementOf p.form p.program p.closed p.entry s × HasDataRoom p.program
    × (first_astray s.layout ≡ Some (record { section = section; offset = offset }))
RefusesPlaced p other = ⊥
