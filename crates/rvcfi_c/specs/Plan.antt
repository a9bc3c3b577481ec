-- What a loader maps of an image.
use Rattle.std.specs.Prelude.{◌≡◌, ℕ, ◌+◌, List, length, take, drop}
use Rattle.rv_image.specs.Image.{Contents, IsImageSize}
use Rattle.rv_image.specs.MemoryMap.{CODE_SIZE, CODE_START, DATA_END, DATA_START, SHADOW_START, START, profile_of}
use Rattle.rv_image.specs.Version.{image_number}
use Rattle.elf_image.specs.Spelling.{spelling}
use Rattle.rvcfi_c.specs.declared.plan.RvcfiPlan.{RvcfiPlan}

-- the `n` bytes from an offset on
abbrev pub bytes_at : List ℕ → ℕ → ℕ → List ℕ
bytes_at bytes offset n = take n (drop offset bytes)

-- the file spells an image, and each number is that image's
pub record IsPlanOf (bytes : List ℕ) (plan : RvcfiPlan) : Type 0 where
  pub image : Contents
  pub spelled : bytes ≡ spelling image.version image.code image.init
  pub size : IsImageSize (length image.code) (length image.init)
  pub version : plan.version ≡ image_number image.version
  pub harts : plan.harts ≡ (profile_of image.version).harts
  pub entry : plan.entry ≡ START
  pub code_there : bytes_at bytes plan.code_offset plan.code_length ≡ image.code
  pub code_length : plan.code_length ≡ length image.code
  pub code_address : plan.code_address ≡ CODE_START
  pub code_size : plan.code_size ≡ CODE_SIZE
  pub data_there : bytes_at bytes plan.data_offset plan.data_length ≡ image.init
  pub data_length : plan.data_length ≡ length image.init
  pub data_ends : plan.data_offset + plan.data_length ≡ length bytes
  pub data_address : plan.data_address ≡ DATA_START
  pub data_end : plan.data_end ≡ DATA_END
  pub shadow_address : plan.shadow_address ≡ SHADOW_START
  pub shadow_size : plan.shadow_size ≡ (profile_of image.version).shadow_size
