-- What an input's code has to be like, for its program to be one that maps can name: whole words, in sections whose indices have 16
-- bits.
use Rattle.std.specs.Prelude.{◌≡◌, ℕ, ◌%◌, ◌^◌, ◌<◌, true}
use Rattle.obj_input.specs.Input.{InputParts, is_code, section_of}

pub record HasFitCode (input : InputParts) : Type 0 where
  pub words : (k : ℕ) → is_code (section_of input k) ≡ true → (section_of input k).size % 4 ≡ 0
  pub named : (k : ℕ) → is_code (section_of input k) ≡ true → k < 2 ^ 16
