-- What comparing comes to part by part. Only private contracts cite this.
use Rattle.std.specs.Prelude.{◌≡◌, ℕ, List, ⊤, Some, None}
use Rattle.rv_image.specs.Image.{Contents, image_profile}
use Rattle.rv_word.specs.declared.end.End.{End}
use Rattle.rv_word.specs.declared.end.End.TheVariants.{Fault, NoMemory}
use Rattle.elf_image.specs.Fault.{fault_of}
use Rattle.elf_image.specs.declared.refusal.ImageRefusal.{ImageRefusal}
use Rattle.cfi_harden.specs.Request as asks
use Rattle.cfi_map.specs.Source.{source_start}
use Rattle.src_machine.specs.Running.{SourceParts, source_of}
use Rattle.cfi_meaning.specs.Compared.{compared}
use Rattle.cfi_compare.specs.Told.{told_answer}
use Rattle.cfi_compare.specs.declared.answer.Compared as A
use Rattle.cfi_pair.specs.Spelled.{IsImage}
use Rattle.refusals.specs.declared.refusal.Refusal.{Refusal}
use Rattle.refusals.specs.declared.refusal.Refusal.TheVariants.{Image}
use Rattle.tool_objects.specs.Compare.{IsCompareRefused}
use Rattle.tool_objects.specs.declared.compare.CompareOutcome.{CompareOutcome}
use Rattle.tool_objects.specs.declared.compare.CompareOutcome.TheVariants as outcome

-- why there is no program whose data have room, where only want of memory is free
abbrev pub IsRoomyEnd : asks.Request → End Refusal → Type 0
IsRoomyEnd request (Fault refusal) = (image map : List ℕ) → IsCompareRefused request image map refusal
IsRoomyEnd request NoMemory = ⊤

-- what is told of a map that is none, where an image's own refusal goes first
pub record IsAfterImage (image : List ℕ) (map result : Refusal) : Type 0 where
  pub wrong : (refusal : ImageRefusal) → fault_of image ≡ Some refusal → result ≡ Image refusal
  pub right : fault_of image ≡ None → result ≡ map

-- a program's run is at its start
pub record IsFresh (input : List ℕ) (run : SourceParts) : Type 0 where
  pub steps : run.steps ≡ 0
  pub state : source_of run ≡ source_start run.layout input

-- what comes of a program at its start and of a file that should be an image
pub record IsResult (run : SourceParts) (image input : List ℕ) (limit : ℕ) (result : A.Compared) : Type 0 where
  pub contents : Contents
  pub image_is : IsImage image contents
  pub result_is : result ≡ told_answer run.layout.program (compared (image_profile contents) run.layout contents input limit)

abbrev pub IsImageCompared : SourceParts → List ℕ → List ℕ → ℕ → CompareOutcome → Type 0
IsImageCompared run image input limit (outcome.Refused (Image refusal)) = fault_of image ≡ Some refusal
IsImageCompared run image input limit (outcome.Refused other) = ⊥
IsImageCompared run image input limit (outcome.Compared result) = IsResult run image input limit result
