-- What is found at a place, and the nearest of what is found in the sections.
use Rattle.std.specs.Prelude.{ℕ, Option, option_map}
use Rattle.least.specs.declared.place.Place.{Place}
use Rattle.least.specs.declared.place.Found.{Found}
use Rattle.least.specs.Nearest.{nearest_below}
use Rattle.obj_input.specs.Input.{InputParts, section_count}
use Rattle.obj_check.specs.declared.fault.ItemFault.{ItemFault}

abbrev pub found_at : ℕ → ℕ → ItemFault → Found ItemFault
found_at k offset fault = record { place = record { section = k; offset = offset }; what = fault }

abbrev pub place_of : Found ItemFault → Place
place_of f = f.place

-- the fault with the least place of those that a function finds, each in the section with its index
abbrev pub nearest_in : InputParts → (ℕ → Option (Found ItemFault)) → Option ItemFault
nearest_in input given = option_map (λ f. f.what) (nearest_below place_of given (section_count input))
