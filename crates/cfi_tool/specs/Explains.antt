-- What each outcome says of the words and of the files.
use Rattle.std.specs.Prelude.{◌≡◌, ℕ, List, take, ⊤, Option, Result, Ok, Err}
use Rattle.std.specs.Io.KnownBytes.{Appends}
use Rattle.rv_word.specs.declared.no_memory.NoMemory.{NoMemory}
use Rattle.tool_objects.specs.Compare.{ExplainsCompare}
use Rattle.tool_objects.specs.Demo.{ExplainsDemo}
use Rattle.tool_objects.specs.Rewrite.{ExplainsRewrite}
use Rattle.tool_images.specs.Run.{ExplainsRun}
use Rattle.tool_images.specs.Verify.{ExplainsVerdict}
use Rattle.tool_common.specs.Reads.{Content, IsUnread}
use Rattle.cfi_tool.specs.Request.{Request, compare as compares, demo as demos, names_of, helps, asks, taken, tells_version, untaken, rewrite as rewrites, run as runs, verify as verifies}
use Rattle.cfi_tool.specs.declared.outcome.Outcome.{Outcome}
use Rattle.cfi_tool.specs.declared.outcome.Outcome.TheVariants.{Usage, Help, Version, Unread, Rewrite, Verify, Run, Compare, Demo}
use Rattle.tool_common.specs.declared.read.Unread.TheVariants.{Fault, TooLong}

-- what a command's own outcome says of what was asked for
abbrev pub ExplainsRequest : Content → Request → Outcome → Type 0
ExplainsRequest content (rewrites words) (Rewrite outcome) = ExplainsRewrite content words outcome
ExplainsRequest content (verifies words) (Verify verdict) = ExplainsVerdict content words verdict
ExplainsRequest content (runs words) (Run outcome) = ExplainsRun content words outcome
ExplainsRequest content (compares words) (Compare outcome) = ExplainsCompare content words outcome
ExplainsRequest content (demos number) (Demo outcome) = ExplainsDemo number outcome
ExplainsRequest content request other = ⊥

-- the words are taken, and ask for this
abbrev pub Asks : List (List ℕ) → (Request → Type 0) → Type 0
Asks words holds = (request : Request) × (taken words ≡ asks request) × holds request

-- what an outcome says of the words; `failed` is the name of the last read that failed
abbrev pub Explains : Content → List ℕ → List (List ℕ) → Outcome → Type 0
Explains content failed words Usage = taken words ≡ untaken
Explains content failed words (Help text) = taken words ≡ helps
Explains content failed words (Version text) = taken words ≡ tells_version
Explains content failed words (Unread unread) = Asks words (λ request. IsUnread content failed (names_of request) unread)
Explains content failed words outcome = Asks words (λ request. ExplainsRequest content request outcome)

abbrev pub IsReadFault : Result Outcome NoMemory → Type 0
IsReadFault (Ok (Unread (Fault name))) = ⊤
IsReadFault other = ⊥

abbrev pub IsTooLongFile : Result Outcome NoMemory → Type 0
IsTooLongFile (Ok (Unread (TooLong name))) = ⊤
IsTooLongFile other = ⊥

-- no file of the command was left unread
abbrev pub IsRead : Result Outcome NoMemory → Type 0
IsRead (Ok (Unread unread)) = ⊥
IsRead (Ok outcome) = ⊤
IsRead (Err error) = ⊥

-- some first part of a text was written, where that is told
abbrev pub IsPart : Option (List ℕ) → Option (List ℕ) → List ℕ → Type 0
IsPart before after text = (n : ℕ) × Appends before after (take n text)
