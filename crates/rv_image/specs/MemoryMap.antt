-- The machine's memory map: three regions, and what each allows. Its addresses and sizes are the
-- constants of `src/memory_map.rt` and `src/profile.rt`, under the same names.
use Rattle.std.specs.Prelude.{◌≡◌, ℕ, ◌+◌, ◌*◌, ◌≤◌, nat_le, ◌⊎◌, Bool, ◌&&◌, ◌||◌, true, false, Option, Some, None, if◌then◌else◌}
use Rattle.rv_image.specs.declared.version.ImageVersion.{ImageVersion}
use Rattle.rv_image.specs.declared.version.ImageVersion.TheVariants.{OneHart, EightHarts}
use Rattle.rv_image.specs.declared.version.GraphVersion.{GraphVersion}
use Rattle.rv_image.specs.declared.version.GraphVersion.TheVariants.{OneLabel, TwoLabels, CalleeSaves}
use Rattle.rv_image.specs.declared.version.Versions.{Versions}
use Rattle.rv_image.specs.declared.region.Region.{Region}
use Rattle.rv_image.specs.declared.region.Region.TheVariants.{Data, Code, Shadow}
use Rattle.rv_image.specs.declared.memory_map.TheConstants as map
use Rattle.rv_image.specs.declared.profile.TheConstants as profile

-- data, which begin at 0: where they end, and where an image's initialised data begin
abbrev pub DATA_END : ℕ
DATA_END = map.DATA_END

abbrev pub DATA_START : ℕ
DATA_START = map.DATA_START

-- where code begins, and how many bytes its region has
abbrev pub CODE_START : ℕ
CODE_START = map.CODE_START

abbrev pub CODE_SIZE : ℕ
CODE_SIZE = map.CODE_SIZE

-- how many bytes past code loads may read: they are zero, and of no region
abbrev pub CODE_TAIL : ℕ
CODE_TAIL = map.CODE_TAIL

-- where the shadow stack begins, and how many of its bytes belong to one hart
abbrev pub SHADOW_START : ℕ
SHADOW_START = map.SHADOW_START

abbrev pub PART_SIZE : ℕ
PART_SIZE = map.PART_SIZE

-- where a run starts, in every version
abbrev pub START : ℕ
START = profile.START

-- where the prologue's call of the entry, its closing and the first unit stand in version 1
abbrev pub OPENING_CALL : ℕ
OPENING_CALL = profile.OPENING_CALL

abbrev pub CLOSING : ℕ
CLOSING = profile.CLOSING

abbrev pub UNITS_START : ℕ
UNITS_START = profile.UNITS_START

-- where the part of the shadow stack begins that belongs to a hart, by the hart's number
abbrev pub part_of : ℕ → ℕ
part_of hart = SHADOW_START + PART_SIZE * hart

-- what differs between the versions of images and graphs: how many harts a run has at most, how many bytes the
-- shadow region has, where the prologue's call of the entry, its closing and the first unit stand, and whether a
-- function saves the site of its own call
pub record Profile : Type 0 where
  pub harts : ℕ
  pub shadow_size : ℕ
  pub opening_call : ℕ
  pub closing : ℕ
  pub units_from : ℕ
  pub callee_saves : Bool

-- images for one hart
abbrev pub version_1 : Profile
version_1 = record {
  harts = 1;
  shadow_size = map.SHADOW_SIZE;
  opening_call = OPENING_CALL;
  closing = CLOSING;
  units_from = UNITS_START;
  callee_saves = false;
}

-- images for several harts
abbrev pub version_2 : Profile
version_2 = record {
  harts = profile.MOST_HARTS;
  shadow_size = profile.SHADOW_SIZE_OF_HARTS;
  opening_call = profile.OPENING_CALL_OF_HARTS;
  closing = profile.CLOSING_OF_HARTS;
  units_from = profile.UNITS_START_OF_HARTS;
  callee_saves = false;
}

-- lean images, under graphs of version 3: for one hart, and for several
abbrev pub lean_version_1 : Profile
lean_version_1 = record {
  harts = 1;
  shadow_size = map.SHADOW_SIZE;
  opening_call = profile.LEAN_OPENING_CALL;
  closing = profile.LEAN_CLOSING;
  units_from = profile.LEAN_UNITS_START;
  callee_saves = true;
}

abbrev pub lean_version_2 : Profile
lean_version_2 = record {
  harts = profile.MOST_HARTS;
  shadow_size = profile.SHADOW_SIZE_OF_HARTS;
  opening_call = profile.LEAN_OPENING_CALL_OF_HARTS;
  closing = profile.LEAN_CLOSING_OF_HARTS;
  units_from = profile.LEAN_UNITS_START_OF_HARTS;
  callee_saves = true;
}

-- the profile of a version's images, under a graph of version 1 or 2, and under one of version 3
abbrev pub profile_of : ImageVersion → Profile
profile_of OneHart = version_1
profile_of EightHarts = version_2

abbrev pub lean_profile_of : ImageVersion → Profile
lean_profile_of OneHart = lean_version_1
lean_profile_of EightHarts = lean_version_2

-- the profile of an image's version with a graph's
abbrev pub profile_under : GraphVersion → ImageVersion → Profile
profile_under OneLabel version = profile_of version
profile_under TwoLabels version = profile_of version
profile_under CalleeSaves version = lean_profile_of version

abbrev pub profile_with : Versions → Profile
profile_with versions = profile_under versions.graph versions.image

-- the profiles of images in which callers save sites, and of lean ones
abbrev pub IsFullProfile : Profile → Type 0
IsFullProfile p = (p ≡ version_1) ⊎ (p ≡ version_2)

abbrev pub IsLeanProfile : Profile → Type 0
IsLeanProfile p = (p ≡ lean_version_1) ⊎ (p ≡ lean_version_2)

abbrev pub IsProfile : Profile → Type 0
IsProfile p = IsFullProfile p ⊎ IsLeanProfile p

-- a run may have so many harts
pub record MayRun (p : Profile) (harts : ℕ) : Type 0 where
  pub some : 1 ≤ harts
  pub most : harts ≤ p.harts

-- the `n` bytes from `a` on lie whole in the `size` bytes from `start` on
abbrev pub lies_within : ℕ → ℕ → ℕ → ℕ → Bool
lies_within start size a n = nat_le start a && nat_le (a + n) (start + size)

-- loads may read all three regions and the bytes past code, stores may write data and shadow
abbrev pub can_load : Profile → ℕ → ℕ → Bool
can_load p a n =
    lies_within 0 DATA_END a n || lies_within CODE_START (CODE_SIZE + CODE_TAIL) a n || lies_within SHADOW_START p.shadow_size a n

abbrev pub can_store : Profile → ℕ → ℕ → Bool
can_store p a n = lies_within 0 DATA_END a n || lies_within SHADOW_START p.shadow_size a n

-- the region of an address, if it is in one
abbrev pub region_of : Profile → ℕ → Option Region
region_of p a =
    if lies_within 0 DATA_END a 1 then Some Data else
    if lies_within CODE_START CODE_SIZE a 1 then Some Code else
    if lies_within SHADOW_START p.shadow_size a 1 then Some Shadow else None
