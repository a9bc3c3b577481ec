-- `compare OBJECT ENTRY POLICY IMAGE MAP INPUT STEPS`: the system calls of an image against those of its object, which is run as a
-- program at the map, in the map's form. The word `none` for POLICY or INPUT means no file. `compare-link ENTRY POLICY IMAGE MAP INPUT
-- STEPS OBJECT ..` compares an image with several objects, which are joined.
use Rattle.std.specs.Prelude.{◌≡◌, ℕ, List, [], ◌∷◌, ◌++◌, codes, Option, Some, None, option_map, Result, Ok, Err}
use Rattle.rv_image.specs.Image.{Contents, image_profile}
use Rattle.rv_word.specs.declared.end.End.{End}
use Rattle.rv_image.specs.declared.form.Form.{Form}
use Rattle.rv_image.specs.declared.form.Form.TheVariants.{Plain}
use Rattle.text_lines.specs.Answers.{line_fault}
use Rattle.text_lines.specs.declared.fault.LineFault.{LineFault}
use Rattle.elf_image.specs.Fault.{fault_of}
use Rattle.obj_program.specs.DataAtMap.{init_size}
use Rattle.obj_program.specs.Range.{out_of_range}
use Rattle.least.specs.declared.place.Place as found
use Rattle.cfi_map_text.specs.Map.{MapParts}
use Rattle.cfi_map_text.specs.MapText.{map_of}
use Rattle.cfi_map.specs.LegalMap.{IsLegalMap, gates_of}
use Rattle.cfi_map.specs.MapFault.{IsWrongLine}
use Rattle.cfi_harden.specs.Given.{Given}
use Rattle.cfi_harden.specs.Room.{HasDataRoom}
use Rattle.cfi_harden.specs.Prepared.{IsPrepared, PreparedParts}
use Rattle.cfi_harden.specs.Refused.{Refuses}
use Rattle.cfi_harden.specs.Request as asks
use Rattle.cfi_map.specs.GraphAtMap.{ProgramAtMap, program_at, words_at}
use Rattle.cfi_meaning.specs.Compared.{compared}
use Rattle.cfi_compare.specs.Text.{answer_text}
use Rattle.cfi_compare.specs.Told.{told_answer}
use Rattle.cfi_compare.specs.declared.answer.Compared as A
use Rattle.cfi_compare.specs.declared.answer.Compared.TheVariants as answer
use Rattle.tool_common.specs.Reads.{Content, Gave, GaveNamed}
use Rattle.refusals.specs.Refusals.{refusal_line}
use Rattle.cfi_pair.specs.Spelled.{IsImage}
use Rattle.tool_common.specs.Words.{file_word, steps_of, text_named}
use Rattle.tool_objects.specs.Objects.{Objects, one, several, GaveObjects, names_with, objects_asked}
use Rattle.tool_objects.specs.declared.compare.CompareOutcome.{CompareOutcome}
use Rattle.tool_objects.specs.declared.compare.CompareOutcome.TheVariants as outcome
use Rattle.tool_objects.specs.declared.compare.CompareRequest.{CompareRequest}
use Rattle.refusals.specs.declared.refusal.Refusal.{Refusal}
use Rattle.refusals.specs.declared.map_reason.MapReason.TheVariants.{Text, Place}
use Rattle.refusals.specs.declared.refusal.Refusal.TheVariants.{CodeTooLarge, DataTooLarge, RelocRange, Image, Graph, Map, Script, Harts}

-- what is asked for: the names of the files and of the entry, and how many steps the program takes at most
pub record CompareWords : Type 0 where
  pub objects : Objects
  pub entry : List ℕ
  pub policy : Option (List ℕ)
  pub image : List ℕ
  pub map : List ℕ
  pub input : Option (List ℕ)
  pub limit : ℕ

-- what the words after `compare` ask for, if they are taken
abbrev pub compare_words : List (List ℕ) → Option CompareWords
compare_words (object ∷ entry ∷ policy ∷ image ∷ map ∷ input ∷ steps ∷ []) =
    option_map (λ limit. record { objects = one object; entry = entry; policy = file_word policy; image = image; map = map; input = file_word input; limit = limit }) (steps_of steps)
compare_words words = None

-- those after `compare-link`, of which the last name objects
abbrev pub compare_link_words : List (List ℕ) → Option CompareWords
compare_link_words (entry ∷ policy ∷ image ∷ map ∷ input ∷ steps ∷ objects) =
    option_map (λ limit. record { objects = several objects; entry = entry; policy = file_word policy; image = image; map = map; input = file_word input; limit = limit }) (steps_of steps)
compare_link_words words = None

-- the files that are read, in their order
abbrev pub compare_names : CompareWords → List (Option (List ℕ))
compare_names asks = names_with asks.objects (asks.policy ∷ Some asks.image ∷ Some asks.map ∷ asks.input ∷ [])

-- a request as the tool keeps it
abbrev pub compare_asked : CompareRequest → CompareWords
compare_asked r = record { objects = objects_asked r.objects; entry = r.entry.now; policy = option_map (λ name. name.now) r.policy; image = r.image.now; map = r.map.now; input = option_map (λ name. name.now) r.input; limit = r.limit }

-- the form of the map that a text spells; where it spells none, no form is asked for
abbrev pub form_told : Result MapParts (End LineFault) → Form
form_told (Ok m) = m.form
form_told (Err end) = Plain

abbrev pub map_form : List ℕ → Form
map_form text = form_told (map_of text)

-- what is asked of a program: by its entry, under a policy, and in the form of a map
abbrev pub asked_at : List ℕ → Given → List ℕ → Option (List ℕ) → asks.Request
asked_at map given entry policy = record { form = map_form map; given = given; entry = entry; policy = policy }

-- a program is entered and has a right policy, and its data have room
pub record IsRoomy (request : asks.Request) (p : PreparedParts) : Type 0 where
  pub prepared : IsPrepared request p
  pub room : HasDataRoom p.program

-- the text is a legal map of the program
pub record IsMapOf (p : PreparedParts) (text : List ℕ) (m : MapParts) : Type 0 where
  pub read : map_of text ≡ Ok m
  pub legal : IsLegalMap p.program p.closed p.entry m

-- the program at the map, as images of the map's form have it
abbrev pub at_map : PreparedParts → MapParts → ProgramAtMap
at_map p m = program_at m.form p.program p.closed (gates_of m.lines) p.entry

-- where a value first leaves its range at the map
abbrev pub first_out : PreparedParts → MapParts → Option found.Place
first_out p m = out_of_range p.program (gates_of m.lines) (words_at (at_map p m))

-- a program that can be run, as far as the map is one
pub record IsRunnable (request : asks.Request) (p : PreparedParts) (map : List ℕ) : Type 0 where
  pub roomy : IsRoomy request p
  pub in_range : (m : MapParts) → IsMapOf p map m → first_out p m ≡ None

-- a refusal stands, and none before it: of the objects, their entry or the policy, of room for data, of a value out of its range at a legal
-- map, of the image, of the map
abbrev pub IsCompareRefused : asks.Request → List ℕ → List ℕ → Refusal → Type 0
IsCompareRefused request image map (CodeTooLarge bytes) = ⊥
IsCompareRefused request image map (DataTooLarge init last) =
    (p : PreparedParts) × IsPrepared request p × (init ≡ init_size p.program) × (last ≡ p.program.data_end) × (HasDataRoom p.program → ⊥)
IsCompareRefused request image map (RelocRange section offset) =
    (p : PreparedParts) × (m : MapParts) × IsRoomy request p × IsMapOf p map m × (first_out p m ≡ Some (record { section = section; offset = offset }))
IsCompareRefused request image map (Image refusal) = (p : PreparedParts) × IsRunnable request p map × (fault_of image ≡ Some refusal)
IsCompareRefused request image map (Map line (Text reason)) =
    (p : PreparedParts) × IsRunnable request p map × (fault_of image ≡ None) × (map_of map ≡ Err (line_fault line reason))
IsCompareRefused request image map (Map line Place) =
    (p : PreparedParts) × (m : MapParts) × IsRunnable request p map × (fault_of image ≡ None) × (map_of map ≡ Ok m) × IsWrongLine p.program p.closed p.entry m line
IsCompareRefused request image map (Graph line reason) = ⊥
IsCompareRefused request image map (Script line reason) = ⊥
IsCompareRefused request image map (Harts count) = ⊥
IsCompareRefused request image map early = Refuses request early

-- the program is run at the map, the image beside it, and this is how they compare
pub record IsComparison (request : asks.Request) (image map input : List ℕ) (limit : ℕ) (result : A.Compared) : Type 0 where
  pub program : PreparedParts
  pub at : MapParts
  pub contents : Contents
  pub runnable : IsRunnable request program map
  pub map_is : IsMapOf program map at
  pub image_is : IsImage image contents
  pub result_is : result ≡ told_answer program.program (compared (image_profile contents) (at_map program at) contents input limit)

abbrev pub IsCompareOf : asks.Request → List ℕ → List ℕ → List ℕ → ℕ → CompareOutcome → Type 0
IsCompareOf request image map input limit (outcome.Refused refusal) = IsCompareRefused request image map refusal
IsCompareOf request image map input limit (outcome.Compared result) = IsComparison request image map input limit result

-- the files gave bytes of which the comparison comes to this
pub record ExplainsCompare (content : Content) (words : CompareWords) (result : CompareOutcome) : Type 0 where
  pub given : Given
  pub policy_bytes : List ℕ
  pub image_bytes : List ℕ
  pub map_bytes : List ℕ
  pub input_bytes : List ℕ
  pub objects_gave : GaveObjects content words.objects given
  pub policy_gave : GaveNamed content words.policy policy_bytes
  pub image_gave : Gave (content words.image) image_bytes
  pub map_gave : Gave (content words.map) map_bytes
  pub input_gave : GaveNamed content words.input input_bytes
  pub compare_is : IsCompareOf (asked_at map_bytes given words.entry (text_named words.policy policy_bytes)) image_bytes map_bytes input_bytes words.limit result

abbrev pub compare_line : CompareOutcome → List ℕ
compare_line (outcome.Refused refusal) = refusal_line refusal
compare_line (outcome.Compared result) = answer_text result

abbrev pub answer_status : A.Compared → ℕ
answer_status (answer.Same events) = 0
answer_status (answer.Differs index source image) = 1
answer_status (answer.Untame because section offset) = 13
answer_status answer.Limit = 12

abbrev pub compare_status : CompareOutcome → ℕ
compare_status (outcome.Refused refusal) = 1
compare_status (outcome.Compared result) = answer_status result

-- the files spell objects, an image and a map of which the comparison comes to this; the text tells it
abbrev pub IsTold : Content → CompareWords → ℕ → List ℕ → Type 0
IsTold content words status text =
    (result : A.Compared) × ExplainsCompare content words (outcome.Compared result) × (status ≡ answer_status result) × (text ≡ answer_text result ++ codes "\n")
