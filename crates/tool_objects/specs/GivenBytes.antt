-- What the bytes of objects give, as the tool keeps them. Only private contracts cite this.
use Rattle.std.specs.Prelude.{map}
use Rattle.cfi_harden.specs.Given.{Given, alone, joined}
use Rattle.tool_objects.specs.declared.objects.ObjectBytes as bytes
use Rattle.tool_objects.specs.declared.objects.ObjectBytes.TheVariants as given

abbrev pub given_by : bytes.ObjectBytes → Given
given_by (given.Alone object) = alone object.now
given_by (given.Joined objects) = joined (map (λ object. object.items) objects.now)
