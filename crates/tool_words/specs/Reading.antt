-- What the words of a command line are read as. Whether they are taken, and what the words of a command are, is what `clap`'s own
-- definition says of the command line at these words; but help and the version are told only where nothing else is asked for.
use Rattle.std.specs.Prelude.{◌≡◌, ◌≢◌, ⊤, Bool, true, false, List, [], ◌∷◌, ◌++◌, map, codes, Option, Some, None, option_map, option_and_then, Result, Ok, Err, if◌then◌else◌, String, string_bytes}
use Rattle.std.specs.Str.{bytes_eq}
use Rattle.std.specs.declared.alloc.Global.{Global}
use Rattle.clap.specs.Words.{Kinds, Row, Text, all_of, fault_of, first_of, subcommand_of}
use Rattle.clap.specs.Walk.{texts}
use Rattle.clap.specs.declared.error.kind.ErrorKind.{ErrorKind}
use Rattle.clap.specs.declared.error.kind.ErrorKind.TheVariants.{DisplayHelp, DisplayVersion, OutOfMemory}
use Rattle.tool_words.specs.CommandLine.{COMPARE, COMPARE_LINK, DEMO, HARDEN, Known, LINK, REWRITE, RUN, VERIFY, command_line, commands}
use Rattle.tool_words.specs.HelpWords.{asks_help, asks_version}
use Rattle.tool_words.specs.declared.asked.Asked.{Asked}
use Rattle.tool_words.specs.declared.asked.Asked.TheVariants.{Rewrite, Verify, Run, Compare, Demo, Harden, Link, CompareLink}
use Rattle.tool_words.specs.declared.asked.RewriteWords.{RewriteWords}
use Rattle.tool_words.specs.declared.asked.VerifyWords.{VerifyWords}
use Rattle.tool_words.specs.declared.asked.RunWords.{RunWords}
use Rattle.tool_words.specs.declared.asked.CompareWords.{CompareWords}
use Rattle.tool_words.specs.declared.asked.DemoWords.{DemoWords}
use Rattle.tool_words.specs.declared.asked.HardenWords.{HardenWords}
use Rattle.tool_words.specs.declared.asked.LinkWords.{LinkWords}
use Rattle.tool_words.specs.declared.asked.CompareLinkWords.{CompareLinkWords}
use Rattle.tool_words.specs.declared.end.WordsEnd.{WordsEnd}
use Rattle.tool_words.specs.declared.end.WordsEnd.TheVariants.{Help, Version, Refused, NoMemory}

-- a command is asked for, by its name and its words; or help, or the version; or the words are not taken
pub data Reading : Type 0 where
  asks : List Text → Reading
  help : Reading
  version : Reading
  refused : Reading

abbrev pub spelled : List (String Global) → List Text
spelled words = map (λ word. string_bytes word) words

-- all the words, if each is there
abbrev pub gathered : List (Option Text) → Option (List Text)
gathered [] = Some []
gathered (None ∷ rest) = None
gathered (Some word ∷ rest) = option_map (λ words. word ∷ words) (gathered rest)

-- the words of these names, if each is there
abbrev pub listed_in : List Text → List Row → Option (List Text)
listed_in operands rows = gathered (map (λ operand. first_of operand rows) operands)

-- a command's name and its words, as they stand in what was matched, with the objects behind them where it has any
abbrev pub request_by : Bool → Text → List Text → List Row → Option (List Text)
request_by false name operands rows = option_map (λ words. name ∷ words) (listed_in operands rows)
request_by true name operands rows =
    option_and_then (λ objects. option_map (λ words. name ∷ words ++ objects) (listed_in operands rows)) (all_of (codes "OBJECT") rows)

abbrev pub request : Known → List Row → Option (List Text)
request command rows = request_by command.has_objects command.name command.operands rows

-- the same of the command with a name
abbrev pub request_among : List Known → Text → List Row → Option (List Text)
request_among [] name rows = None
request_among (command ∷ rest) name rows = if bytes_eq name command.name then request command rows else request_among rest name rows

abbrev pub request_in : Text × List Row → Option (List Text)
request_in (name, rows) = request_among commands name rows

-- what an error of this kind tells
abbrev pub told : ErrorKind → Reading
told DisplayHelp = help
told DisplayVersion = version
told other = refused

abbrev pub asked_or_refused : Option (List Text) → Reading
asked_or_refused (Some words) = asks words
asked_or_refused None = refused

-- by the kinds of errors that the words have, and by what they ask for where they have none
abbrev pub reading_by : Kinds → Option (List Text) → Reading
reading_by [] asked = asked_or_refused asked
reading_by (kind ∷ kinds) asked = told kind

-- what `clap` reads the words as
abbrev pub clap_reading : List Text → Reading
clap_reading words = reading_by (fault_of command_line words) (option_and_then request_in (subcommand_of command_line words))

-- the same, where words that ask for help or for the version beside anything else are not taken
abbrev pub if_alone : List Text → Reading → Reading
if_alone words help = if asks_help words then help else refused
if_alone words version = if asks_version words then version else refused
if_alone words (asks request) = asks request
if_alone words refused = refused

abbrev pub reading : List Text → Reading
reading words = if_alone words (clap_reading words)

-- the words of each command, in their order
abbrev pub rewrite_listed : RewriteWords → List Text
rewrite_listed w = w.object.now ∷ w.entry.now ∷ w.policy.now ∷ w.image.now ∷ w.graph.now ∷ w.map.now ∷ []

abbrev pub verify_listed : VerifyWords → List Text
verify_listed w = w.image.now ∷ w.graph.now ∷ []

abbrev pub run_listed : RunWords → List Text
run_listed w = w.image.now ∷ w.graph.now ∷ w.script.now ∷ w.input.now ∷ w.steps.now ∷ []

abbrev pub compare_listed : CompareWords → List Text
compare_listed w = w.object.now ∷ w.entry.now ∷ w.policy.now ∷ w.image.now ∷ w.map.now ∷ w.input.now ∷ w.steps.now ∷ []

abbrev pub demo_listed : DemoWords → List Text
demo_listed w = w.number.now ∷ []

abbrev pub harden_listed : HardenWords → List Text
harden_listed w = w.form.now ∷ rewrite_listed w.rewrite

abbrev pub link_listed : LinkWords → List Text
link_listed w = w.form.now ∷ w.entry.now ∷ w.policy.now ∷ w.image.now ∷ w.graph.now ∷ w.map.now ∷ texts w.objects.items

abbrev pub compare_link_listed : CompareLinkWords → List Text
compare_link_listed w = w.entry.now ∷ w.policy.now ∷ w.image.now ∷ w.map.now ∷ w.input.now ∷ w.steps.now ∷ texts w.objects.items

-- the name of a command and its words
abbrev pub request_of : Asked → List Text
request_of (Rewrite w) = REWRITE.name ∷ rewrite_listed w
request_of (Verify w) = VERIFY.name ∷ verify_listed w
request_of (Run w) = RUN.name ∷ run_listed w
request_of (Compare w) = COMPARE.name ∷ compare_listed w
request_of (Demo w) = DEMO.name ∷ demo_listed w
request_of (Harden w) = HARDEN.name ∷ harden_listed w
request_of (Link w) = LINK.name ∷ link_listed w
request_of (CompareLink w) = COMPARE_LINK.name ∷ compare_link_listed w

-- the result is what words with this reading come to, or memory was wanting
abbrev pub Gives : Reading → Result Asked WordsEnd → Type 0
Gives reading (Ok asked) = reading ≡ asks (request_of asked)
Gives reading (Err (Help text)) = reading ≡ help
Gives reading (Err (Version text)) = reading ≡ version
Gives reading (Err Refused) = reading ≡ refused
Gives reading (Err NoMemory) = ⊤

-- what an error of this kind ends with
abbrev pub EndsBy : ErrorKind → WordsEnd → Type 0
EndsBy kind (Help text) = kind ≡ DisplayHelp
EndsBy kind (Version text) = kind ≡ DisplayVersion
EndsBy kind Refused = (kind ≢ OutOfMemory) × (told kind ≡ refused)
EndsBy kind NoMemory = ⊤
