-- Words that ask for help or for the version, and for nothing else.
use Rattle.std.specs.Prelude.{◌||◌, ◌&&◌, Bool, false, List, [], ◌∷◌, codes}
use Rattle.std.specs.List.{list_any}
use Rattle.std.specs.Str.{bytes_eq}
use Rattle.clap.specs.Words.{Text}
use Rattle.tool_words.specs.CommandLine.{commands}

unfoldable pub is_command : Text → Bool
is_command name = list_any (λ command. bytes_eq name command.name) commands

abbrev pub is_help : Text → Bool
is_help word = bytes_eq word (codes "-h") || bytes_eq word (codes "--help")

abbrev pub is_version : Text → Bool
is_version word = bytes_eq word (codes "-V") || bytes_eq word (codes "--version")

-- the word for help stands alone behind the program's name, or behind a command's
abbrev pub asks_help : List Text → Bool
asks_help (program ∷ word ∷ []) = is_help word
asks_help (program ∷ name ∷ word ∷ []) = is_command name && is_help word
asks_help words = false

-- the word for the version stands alone behind the program's name
abbrev pub asks_version : List Text → Bool
asks_version (program ∷ word ∷ []) = is_version word
asks_version words = false
