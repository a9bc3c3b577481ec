-- A pair's profile has as many harts as the image's version.
use Rattle.std.proofs.Common.{ℕ}
use Rattle.rv_image.specs.declared.version.GraphVersion.{GraphVersion}
use Rattle.rv_image.specs.declared.version.GraphVersion.TheVariants.{OneLabel, TwoLabels, CalleeSaves}
use Rattle.rv_image.specs.declared.version.ImageVersion.{ImageVersion}
use Rattle.rv_image.specs.declared.version.ImageVersion.TheVariants.{OneHart, EightHarts}
use Rattle.rv_image.specs.MemoryMap.{MayRun, profile_of, profile_under}

pub may_run : (graph : GraphVersion) (image : ImageVersion) (harts : ℕ) → MayRun (profile_of image) harts → MayRun (profile_under graph image) harts
may_run OneLabel image harts may = may
may_run TwoLabels image harts may = may
may_run CalleeSaves OneHart harts may = record { some = may.some; most = may.most }
may_run CalleeSaves EightHarts harts may = record { some = may.some; most = may.most }
