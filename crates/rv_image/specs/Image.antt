-- An image: its version, the bytes of its code and of its initialised data, and the memory that it is loaded to.
use Rattle.std.specs.Prelude.{◌≡◌, ℕ, ◌%◌, ◌≤◌, ◌^◌, List}
use Rattle.rv_word.specs.Memory.{Memory, placed, zeros}
use Rattle.rv_image.specs.MemoryMap.{CODE_START, DATA_START, Profile, profile_of}
use Rattle.rv_image.specs.declared.version.ImageVersion.{ImageVersion}

pub record Contents : Type 0 where
  pub version : ImageVersion
  pub code : List ℕ
  pub init : List ℕ

-- what an image's version differs in
abbrev pub image_profile : Contents → Profile
image_profile image = profile_of image.version

-- the lengths that an image may have, in bytes
pub record IsImageSize (code init : ℕ) : Type 0 where
  pub some : 4 ≤ code
  pub most : code ≤ 2 ^ 20
  pub words : code % 4 ≡ 0
  pub data_most : init ≤ 2 ^ 25

-- the memory in which a run of an image starts
unfoldable pub loaded : Contents → Memory
loaded image = placed (placed zeros DATA_START image.init) CODE_START image.code
