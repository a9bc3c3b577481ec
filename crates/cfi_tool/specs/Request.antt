-- What the words of a command line ask for. Which words are taken, and which word is which, is what `clap` says of the command line.
use Rattle.std.specs.Prelude.{◌≡◌, ◌⊎◌, ℕ, ◌≤◌, if◌then◌else◌, true, List, [], ◌∷◌, ◌++◌, codes, ⊤, Option, Some, None, option_map}
use Rattle.std.specs.List.{list_all}
use Rattle.std.specs.Str.{bytes_eq}
use Rattle.text_lines.specs.Decimal.{MAX_STEP}
use Rattle.tool_words.specs.Reading as reads
use Rattle.tool_words.specs.Reading.{Reading, reading}
use Rattle.tool_words.specs.CommandLine.{COMPARE, COMPARE_LINK, DEMO, HARDEN, LINK, REWRITE, RUN, VERIFY, commands}
use Rattle.tool_words.specs.Plain.{IsAmong, IsPlainRequest, is_plain}
use Rattle.tool_words.specs.declared.end.WordsEnd.{WordsEnd}
use Rattle.tool_words.specs.declared.end.WordsEnd.TheVariants as ends
use Rattle.tool_objects.specs.Compare.{CompareWords, compare_asked, compare_link_words, compare_names, compare_words}
use Rattle.tool_objects.specs.Demo.{demo_asked, demo_words}
use Rattle.tool_objects.specs.Rewrite.{AreNamedApart, RewriteWords, harden_words, link_words, rewrite_asked, rewrite_names, rewrite_words}
use Rattle.tool_common.specs.Reads.{file_names}
use Rattle.tool_images.specs.Run.{RunWords, run_asked, run_names, run_words}
use Rattle.tool_images.specs.Verify.{VerifyWords, verify_asked, verify_names, verify_words}
use Rattle.cfi_tool.specs.declared.request.Request as R
use Rattle.cfi_tool.specs.declared.request.Request.TheVariants.{Rewrite, Verify, Run, Compare, Demo}

-- `harden` asks for what `rewrite` does, in a form, `link` for the same of several objects, and `compare-link` for what `compare` does of them
pub data Request : Type 0 where
  rewrite : RewriteWords → Request
  verify : VerifyWords → Request
  run : RunWords → Request
  compare : CompareWords → Request
  demo : ℕ → Request

-- what a command is asked for, by its name and its words, if a number is as it should be and names of files to write are apart
abbrev pub request_of : List (List ℕ) → Option Request
request_of [] = None
request_of (command ∷ words) =
    if bytes_eq command REWRITE.name then option_map rewrite (rewrite_words words) else
    if bytes_eq command VERIFY.name then option_map verify (verify_words words) else
    if bytes_eq command RUN.name then option_map run (run_words words) else
    if bytes_eq command COMPARE.name then option_map compare (compare_words words) else
    if bytes_eq command DEMO.name then option_map demo (demo_words words) else
    if bytes_eq command HARDEN.name then option_map rewrite (harden_words words) else
    if bytes_eq command LINK.name then option_map rewrite (link_words words) else
    if bytes_eq command COMPARE_LINK.name then option_map compare (compare_link_words words) else None

-- what a command line is taken for: a request, or one for help or for the version, or none of these
pub data Taken : Type 0 where
  asks : Request → Taken
  helps : Taken
  tells_version : Taken
  untaken : Taken

abbrev pub if_request : Option Request → Taken
if_request (Some request) = asks request
if_request None = untaken

abbrev pub taken_by : Reading → Taken
taken_by (reads.asks words) = if_request (request_of words)
taken_by reads.help = helps
taken_by reads.version = tells_version
taken_by reads.refused = untaken

unfoldable pub taken : List (List ℕ) → Taken
taken words = taken_by (reading words)

-- a program's name, a command's name and exactly its words, none empty and none with a hyphen first, are taken for just what they ask for
abbrev pub TakenPlainly : List (List ℕ) → Type 0
TakenPlainly words =
    (program name : List ℕ) (own : List (List ℕ)) → IsPlainRequest name own → words ≡ program ∷ name ∷ own
    → taken words ≡ if_request (request_of (name ∷ own))

-- so are they with a `--` before, between or behind these words, where those before it are such and those behind it are any, also empty or
-- with a hyphen first
abbrev pub TakenMarked : List (List ℕ) → Type 0
TakenMarked words =
    (program name : List ℕ) (before after : List (List ℕ)) → IsAmong commands name (before ++ after) → list_all is_plain before ≡ true
    → words ≡ program ∷ name ∷ before ++ codes "--" ∷ after → taken words ≡ if_request (request_of (name ∷ before ++ after))

-- a program's name, `verify` and two names, which may stand behind `--`
abbrev pub Verifies : List (List ℕ) → VerifyWords → Type 0
Verifies words given = (program : List ℕ) × (
    (words ≡ program ∷ VERIFY.name ∷ given.image ∷ given.graph ∷ [])
    ⊎ (words ≡ program ∷ VERIFY.name ∷ codes "--" ∷ given.image ∷ given.graph ∷ [])
    )

-- the files that are read, in their order
abbrev pub names_of : Request → List (Option (List ℕ))
names_of (rewrite words) = rewrite_names words
names_of (verify words) = verify_names words
names_of (run words) = run_names words
names_of (compare words) = compare_names words
names_of (demo number) = []

-- their names: none for help, for the version and for words that are not taken
abbrev pub read_names : Taken → List (List ℕ)
read_names (asks request) = file_names (names_of request)
read_names other = []

-- no two of the files that a request writes have one name, and a comparison is of no more steps than a word asks for
abbrev pub IsRight : Request → Type 0
IsRight (rewrite words) = AreNamedApart words
IsRight (verify words) = ⊤
IsRight (run words) = ⊤
IsRight (compare words) = words.limit ≤ MAX_STEP
IsRight (demo number) = ⊤

-- no file is asked to be written
abbrev pub WritesNone : Taken → Type 0
WritesNone (asks (rewrite words)) = ⊥
WritesNone other = ⊤

-- a request as the tool keeps it
abbrev pub asked : R.Request → Request
asked (Rewrite r) = rewrite (rewrite_asked r)
asked (Verify r) = verify (verify_asked r)
asked (Run r) = run (run_asked r)
asked (Compare r) = compare (compare_asked r)
asked (Demo r) = demo (demo_asked r)

-- what is kept of a command line
pub record IsKept (line : Taken) (request : R.Request) : Type 0 where
  pub asked_is : line ≡ asks (asked request)
  pub right : IsRight (asked request)

-- why a command line is no request; only want of memory is free
abbrev pub IsWordsEnd : Taken → WordsEnd → Type 0
IsWordsEnd line (ends.Help text) = line ≡ helps
IsWordsEnd line (ends.Version text) = line ≡ tells_version
IsWordsEnd line ends.Refused = line ≡ untaken
IsWordsEnd line ends.NoMemory = ⊤
