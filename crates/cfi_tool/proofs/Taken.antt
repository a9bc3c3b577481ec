-- What a command line is taken for, by how `clap` reads it.
use Rattle.std.proofs.Common.{◌≡◌, ◌∙◌, ℕ, List, None, Some, Ok, Err, ap, sym}
use Rattle.std.specs.Option.{option_map}
use Rattle.cfi_tool.proofs.Prelude.{TakesMarked, TakesPlain, Asked, WordsEnd, Refused, NoMemory, IsKept, IsRight, IsWordsEnd, TakenMarked, TakenPlainly, asked, if_request, request_of, taken, taken_by, untaken}
use Rattle.tool_words.specs.Reading.{Gives, reading, request_of as words_of}
use Rattle.tool_words.specs.declared.end.WordsEnd.TheVariants.{Help, Version}
use Rattle.cfi_tool.specs.declared.request.Request as R

module _ (words : List (List ℕ)) where
  pub taken_plainly : TakesPlain words → TakenPlainly words
  unfolding taken
  taken_plainly takes program name own plain are = ap taken_by (takes program name own plain are)

  pub taken_marked : TakesMarked words → TakenMarked words
  unfolding taken
  taken_marked takes program name before after known plain are = ap taken_by (takes program name before after known plain are)

  pub kept : (given : Asked) (request : R.Request) → Gives (reading words) (Ok given) → option_map asked (Some request) ≡ request_of (words_of given)
      → IsRight (asked request) → IsKept (taken words) request
  unfolding taken
  kept given request gives same right = record { asked_is = ap taken_by gives ∙ sym (ap if_request same); right = right }

  pub not_kept : (given : Asked) → Gives (reading words) (Ok given) → option_map asked None ≡ request_of (words_of given) → taken words ≡ untaken
  unfolding taken
  not_kept given gives same = ap taken_by gives ∙ sym (ap if_request same)

  pub words_end : (end : WordsEnd) → Gives (reading words) (Err end) → IsWordsEnd (taken words) end
  unfolding taken
  words_end (Help text) gives = ap taken_by gives
  words_end (Version text) gives = ap taken_by gives
  words_end Refused gives = ap taken_by gives
  words_end NoMemory gives = gives
