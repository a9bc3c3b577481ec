-- The forms in which a program is hardened: each has images of one version, graphs of one version, and a name.
use Rattle.std.specs.Prelude.{ℕ, List, Option, Some, None, codes, if◌then◌else◌}
use Rattle.std.specs.Str.{bytes_eq}
use Rattle.rv_image.specs.MemoryMap.{Profile, profile_under}
use Rattle.rv_image.specs.declared.version.ImageVersion.{ImageVersion}
use Rattle.rv_image.specs.declared.version.ImageVersion.TheVariants.{OneHart, EightHarts}
use Rattle.rv_image.specs.declared.version.GraphVersion.{GraphVersion}
use Rattle.rv_image.specs.declared.version.GraphVersion.TheVariants.{OneLabel, TwoLabels, CalleeSaves}
use Rattle.rv_image.specs.declared.form.Form.{Form}
use Rattle.rv_image.specs.declared.form.Form.TheVariants.{Plain, Harts, Split, HartsSplit, Lean, HartsLean}

abbrev pub image_version : Form → ImageVersion
image_version Plain = OneHart
image_version Harts = EightHarts
image_version Split = OneHart
image_version HartsSplit = EightHarts
image_version Lean = OneHart
image_version HartsLean = EightHarts

abbrev pub graph_version : Form → GraphVersion
graph_version Plain = OneLabel
graph_version Harts = OneLabel
graph_version Split = TwoLabels
graph_version HartsSplit = TwoLabels
graph_version Lean = CalleeSaves
graph_version HartsLean = CalleeSaves

-- the form with images and graphs of these versions
abbrev pub form_of : ImageVersion → GraphVersion → Form
form_of OneHart OneLabel = Plain
form_of EightHarts OneLabel = Harts
form_of OneHart TwoLabels = Split
form_of EightHarts TwoLabels = HartsSplit
form_of OneHart CalleeSaves = Lean
form_of EightHarts CalleeSaves = HartsLean

-- what images of a form have of both versions
abbrev pub profile_for : Form → Profile
profile_for form = profile_under (graph_version form) (image_version form)

-- the word by which it is called in command lines and in the first lines of maps
abbrev pub form_name : Form → List ℕ
form_name Plain = codes "plain"
form_name Harts = codes "harts"
form_name Split = codes "split"
form_name HartsSplit = codes "harts-split"
form_name Lean = codes "lean"
form_name HartsLean = codes "harts-lean"

-- the form of a name
abbrev pub form_named : List ℕ → Option Form
form_named name =
    if bytes_eq name (form_name Plain) then Some Plain else
    if bytes_eq name (form_name Harts) then Some Harts else
    if bytes_eq name (form_name Split) then Some Split else
    if bytes_eq name (form_name HartsSplit) then Some HartsSplit else
    if bytes_eq name (form_name Lean) then Some Lean else
    if bytes_eq name (form_name HartsLean) then Some HartsLean else None
