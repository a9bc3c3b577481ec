-- What `clap` answers is what the words are read as.
use Rattle.std.proofs.Common.{◌≡◌, ◌∙◌, true, List, [], Option, Some, None, Result, Err, inl, inr, ap, ap₂, sym, subst, refl}
use Rattle.std.specs.Prelude.{option_and_then, option_map}
use Rattle.std.specs.Option.{ok_or}
use Rattle.clap.specs.Words.{App, HasKind, HasMatchesOf, Text, fault_of, is_simple, is_simple_and_free, kind_of, subcommand_of, subcommand_rows_of}
use Rattle.clap.specs.declared.error.Error.{Error}
use Rattle.clap.specs.declared.parser.matches.ArgMatches.{ArgMatches}
use Rattle.clap.specs.Kinds.{IsAmong}
use Rattle.clap.specs.declared.error.kind.ErrorKind.TheVariants.{DisplayHelp, DisplayVersion, OutOfMemory}
use Rattle.clap.proofs.OnLiterals.{clap_on_literals}
use Rattle.tool_words.specs.CommandLine.{command_line}
use Rattle.tool_words.specs.Reading.{EndsBy, Gives, asked_or_refused, asks, clap_reading, if_alone, reading, reading_by, refused, request_in, request_of, told}
use Rattle.tool_words.specs.declared.asked.Asked.{Asked}
use Rattle.tool_words.specs.declared.end.WordsEnd.{WordsEnd}
use Rattle.tool_words.specs.declared.end.WordsEnd.TheVariants.{Help, Version, Refused, NoMemory}
use Rattle.tool_words.proofs.Alike.{of_command_line}

simple_and_free : is_simple_and_free command_line ≡ true
unfolding clap_on_literals
simple_and_free = refl

simple : is_simple command_line ≡ true
unfolding clap_on_literals
simple = refl

not_help : DisplayHelp ≡ OutOfMemory → ⊥
not_help e = absurd (cc)

not_version : DisplayVersion ≡ OutOfMemory → ⊥
not_version e = absurd (cc)

alone_asked : (words : List Text) (request : Option (List Text)) → if_alone words (asked_or_refused request) ≡ asked_or_refused request
alone_asked words (Some request) = refl
alone_asked words None = refl

module _ (app : App) (words : List Text) (same : app ≡ command_line) where
  pub read_as_asked : (matches : ArgMatches) → (is_simple_and_free app ≡ true → fault_of app words ≡ []) → HasMatchesOf app words matches
      → (result : Result Asked WordsEnd) → Gives (asked_or_refused (option_and_then request_in (subcommand_rows_of matches))) result
      → Gives (reading words) result
  read_as_asked matches free has result gives =
      let faultless : fault_of command_line words ≡ [] = ap (λ a. fault_of a words) (sym same) ∙ free (ap is_simple_and_free same ∙ simple_and_free) in
      let entered : subcommand_rows_of matches ≡ subcommand_of command_line words = (has (ap is_simple same ∙ simple)).1 ∙ ap (λ a. subcommand_of a words) same in
      let reads : clap_reading words ≡ asked_or_refused (option_and_then request_in (subcommand_rows_of matches)) =
      ap₂ reading_by faultless (ap (option_and_then request_in) (sym entered)) in
      subst (λ r. Gives r result) (sym (ap (if_alone words) reads ∙ alone_asked words (option_and_then request_in (subcommand_rows_of matches)))) gives

  told_same : (error : Error) → HasKind (fault_of app words) error → (kind_of error ≡ OutOfMemory → ⊥) → clap_reading words ≡ told (kind_of error)
  told_same error (inl memory) other = absurd (other memory)
  told_same error (inr among) other = (of_command_line words).same (kind_of error) _ (subst (λ a. IsAmong (kind_of error) (fault_of a words)) same among)

  pub read_as_told : (error : Error) (end : WordsEnd) → (is_simple_and_free app ≡ true → HasKind (fault_of app words) error)
      → EndsBy (kind_of error) end → Gives (clap_reading words) (Err end)
  read_as_told error NoMemory free ends = tt
  read_as_told error (Help text) free ends =
      told_same error (free (ap is_simple_and_free same ∙ simple_and_free)) (λ memory. not_help (sym ends ∙ memory)) ∙ ap told ends
  read_as_told error (Version text) free ends =
      told_same error (free (ap is_simple_and_free same ∙ simple_and_free)) (λ memory. not_version (sym ends ∙ memory)) ∙ ap told ends
  read_as_told error Refused free ends = told_same error (free (ap is_simple_and_free same ∙ simple_and_free)) ends.0 ∙ ends.1
