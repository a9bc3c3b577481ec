-- `harden FORM OBJECT ENTRY POLICY IMAGE GRAPH MAP`: in a form, a hardened image of an object, its graph and its map. The word `none`
-- for POLICY means no file. `rewrite OBJECT ENTRY POLICY IMAGE GRAPH MAP` asks for the same as `harden plain`, and `link FORM ENTRY POLICY
-- IMAGE GRAPH MAP OBJECT ..` for the same of several objects, which are joined.
use Rattle.std.specs.Prelude.{◌≡◌, ◌≢◌, ℕ, ◌||◌, if◌then◌else◌, List, [], ◌∷◌, ◌++◌, length, count_by, codes, Option, Some, None, option_and_then, option_map}
use Rattle.std.specs.Fmt.{decimal}
use Rattle.std.specs.Str.{bytes_eq}
use Rattle.rv_image.specs.declared.version.ImageVersion.{ImageVersion}
use Rattle.rv_image.specs.Form.{form_named}
use Rattle.rv_image.specs.Image.{IsImageSize}
use Rattle.rv_image.specs.declared.form.Form.{Form}
use Rattle.rv_image.specs.declared.form.Form.TheVariants.{Plain}
use Rattle.elf_image.specs.Spelling.{spelling}
use Rattle.cfi_graph.specs.Graph.{GraphParts, is_class, is_site}
use Rattle.cfi_map_text.specs.MapText.{map_text}
use Rattle.cfi_graph.specs.Text.{graph_text}
use Rattle.cfi_harden.specs.Given.{Given}
use Rattle.cfi_writer.specs.Hardened.{HardenedParts}
use Rattle.cfi_harden.specs.Hardened.{IsHardened}
use Rattle.cfi_harden.specs.Refused.{Refuses}
use Rattle.cfi_harden.specs.Request as asks
use Rattle.cfi_meaning.specs.Hardened.{KeepsMeaningAtMap}
use Rattle.tool_common.specs.Lines.{with_newline}
use Rattle.tool_common.specs.Reads.{Content, GaveNamed}
use Rattle.refusals.specs.Refusals.{refusal_line}
use Rattle.tool_common.specs.Words.{file_word, text_named}
use Rattle.tool_common.specs.Writes.{OutputParts, Wrote}
use Rattle.tool_objects.specs.Objects.{Objects, one, several, GaveObjects, names_with, objects_asked}
use Rattle.tool_objects.specs.declared.rewrite.RewriteOutcome.{RewriteOutcome}
use Rattle.tool_objects.specs.declared.rewrite.RewriteOutcome.TheVariants as outcome
use Rattle.tool_objects.specs.declared.rewrite.RewriteRequest.{RewriteRequest}
use Rattle.tool_objects.specs.declared.rewrite.Rewritten.{Rewritten}
use Rattle.tool_objects.specs.declared.rewrite.Sizes.{Sizes}
use Rattle.tool_io.specs.declared.files.Files.{Ghosts}

-- what is asked for: in which form, the names of the files that are read and of those that are written, and that of the entry
pub record RewriteWords : Type 0 where
  pub form : Form
  pub objects : Objects
  pub entry : List ℕ
  pub policy : Option (List ℕ)
  pub image : List ℕ
  pub graph : List ℕ
  pub map : List ℕ

-- what is asked for in a form, if it is taken: no two names of files that are written are equal
abbrev pub words_in : Form → Objects → List ℕ → List ℕ → List ℕ → List ℕ → List ℕ → Option RewriteWords
words_in form objects entry policy image graph map =
    if bytes_eq image graph || bytes_eq image map || bytes_eq graph map then None
    else Some (record { form = form; objects = objects; entry = entry; policy = file_word policy; image = image; graph = graph; map = map })

-- what words ask for in a form of which the first names an object
abbrev pub words_alone : Form → List (List ℕ) → Option RewriteWords
words_alone form (object ∷ entry ∷ policy ∷ image ∷ graph ∷ map ∷ []) = words_in form (one object) entry policy image graph map
words_alone form words = None

-- what the words after `rewrite` ask for, if they are taken
abbrev pub rewrite_words : List (List ℕ) → Option RewriteWords
rewrite_words words = words_alone Plain words

-- those after `harden`, of which the first is a form's name
abbrev pub harden_words : List (List ℕ) → Option RewriteWords
harden_words [] = None
harden_words (name ∷ words) = option_and_then (λ form. words_alone form words) (form_named name)

-- those after `link`, of which the first is a form's name and the last name objects
abbrev pub link_words : List (List ℕ) → Option RewriteWords
link_words (name ∷ entry ∷ policy ∷ image ∷ graph ∷ map ∷ objects) =
    option_and_then (λ form. words_in form (several objects) entry policy image graph map) (form_named name)
link_words words = None

-- no two of the files that are written have one name
pub record AreNamedApart (words : RewriteWords) : Type 0 where
  pub image_graph : words.image ≢ words.graph
  pub image_map : words.image ≢ words.map
  pub graph_map : words.graph ≢ words.map

-- the files that are read, in their order
abbrev pub rewrite_names : RewriteWords → List (Option (List ℕ))
rewrite_names asks = names_with asks.objects (asks.policy ∷ [])

-- a request as the tool keeps it
abbrev pub rewrite_asked : RewriteRequest → RewriteWords
rewrite_asked r = record { form = r.form; objects = objects_asked r.objects; entry = r.entry.now; policy = option_map (λ name. name.now) r.policy; image = r.image.now; graph = r.graph.now; map = r.map.now }

-- a program that is given so, under a policy that some bytes may spell, is to be hardened
abbrev pub request_of : RewriteWords → Given → Option (List ℕ) → asks.Request
request_of words given policy = record { form = words.form; given = given; entry = words.entry; policy = policy }

-- what is told of an image and its graph: the lengths of code and initialised data, and the numbers of lines
pub record HasSizes (image : List ℕ) (graph : GraphParts) (sizes : Sizes) : Type 0 where
  pub version : ImageVersion
  pub code : List ℕ
  pub init : List ℕ
  pub image_is : image ≡ spelling version code init
  -- of these lengths, so that no other version, code and data have this spelling
  pub image_size : IsImageSize (length code) (length init)
  pub code_size : sizes.code ≡ length code
  pub data_size : sizes.data ≡ length init
  pub classes : sizes.classes ≡ count_by is_class graph.lines
  pub sites : sizes.sites ≡ count_by is_site graph.lines

-- a hardened program as it is written: its image, and the spellings of its graph and its map, which are read back (`written_is_read`),
-- under the names that were asked for
pub record IsSpelledOut (words : RewriteWords) (hardened : HardenedParts) (written : Rewritten) : Type 0 where
  pub image : written.image ≡ record { name = words.image; bytes = hardened.image }
  pub graph : written.graph ≡ record { name = words.graph; bytes = graph_text hardened.graph }
  pub map : written.map ≡ record { name = words.map; bytes = map_text hardened.map }
  pub sizes : HasSizes hardened.image hardened.graph written.sizes

-- a hardened program of a request, which means what the request's program means; so no comparison tells a difference
-- (`hardened_never_differs` of cfi_meaning)
pub record IsMade (request : asks.Request) (hardened : HardenedParts) : Type 0 where
  pub is_hardened : IsHardened request hardened
  pub meaning_kept : KeepsMeaningAtMap (asks.program_request request) hardened

-- the program is refused, or hardened
abbrev pub IsRewriteOf : RewriteWords → Given → Option (List ℕ) → RewriteOutcome → Type 0
IsRewriteOf words given policy (outcome.Refused refusal) = Refuses (request_of words given policy) refusal
IsRewriteOf words given policy (outcome.Rewritten written) =
    (hardened : HardenedParts) × IsMade (request_of words given policy) hardened × IsSpelledOut words hardened written

-- the files gave objects and a policy of which the rewriting comes to this
pub record ExplainsRewrite (content : Content) (words : RewriteWords) (result : RewriteOutcome) : Type 0 where
  pub given : Given
  pub policy_bytes : List ℕ
  pub objects_gave : GaveObjects content words.objects given
  pub policy_gave : GaveNamed content words.policy policy_bytes
  pub apart : AreNamedApart words
  pub rewrite_is : IsRewriteOf words given (text_named words.policy policy_bytes) result

-- the files of a hardened program, in the order in which they are written
abbrev pub outputs_of : Rewritten → List OutputParts
outputs_of written = written.image ∷ written.graph ∷ written.map ∷ []

abbrev pub rewrite_outputs : RewriteOutcome → List OutputParts
rewrite_outputs (outcome.Refused refusal) = []
rewrite_outputs (outcome.Rewritten written) = outputs_of written

abbrev pub sizes_text : Sizes → List ℕ
sizes_text sizes =
    codes "code " ++ decimal sizes.code ++ codes " data " ++ decimal sizes.data ++ codes " classes " ++ decimal sizes.classes ++ codes " sites " ++ decimal sizes.sites

abbrev pub rewritten_line : Sizes → List ℕ
rewritten_line sizes = codes "rewritten " ++ sizes_text sizes

abbrev pub rewrite_line : RewriteOutcome → List ℕ
rewrite_line (outcome.Refused refusal) = refusal_line refusal
rewrite_line (outcome.Rewritten written) = rewritten_line written.sizes

abbrev pub rewrite_status : RewriteOutcome → ℕ
rewrite_status (outcome.Refused refusal) = 1
rewrite_status (outcome.Rewritten written) = 0

-- the files gave objects and a policy; the image, the graph and the map of the hardened program were written, each whole; the text
-- tells their sizes
pub record IsRewritten {S : Type 0} (files : Ghosts S) (before now : S) (words : RewriteWords) (text : List ℕ) : Type 0 where
  pub written : Rewritten
  pub explained : ExplainsRewrite (files.content before) words (outcome.Rewritten written)
  pub wrote : Wrote files before now (outputs_of written) None
  pub text_is : text ≡ with_newline (rewritten_line written.sizes)
