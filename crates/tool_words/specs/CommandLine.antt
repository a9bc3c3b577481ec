-- The command line as `clap` has it: the program's commands, each with the words that it wants.
use Rattle.std.specs.Prelude.{◌≡◌, ⊤, Bool, true, false, List, [], ◌∷◌, ◌++◌, map, fold, codes, Some}
use Rattle.std.specs.Borrow.{Bor}
use Rattle.clap.specs.Words.{App, Rule, Text, app_of, new_app, new_rule, rule_of, with_rule, with_subcommand}
use Rattle.clap.specs.declared.builder.action.ArgAction.TheVariants.{Append}
use Rattle.clap.specs.declared.builder.arg.Arg.{Arg}
use Rattle.clap.specs.declared.builder.command.Command.{Command}
use Rattle.clap.specs.declared.builder.command.Command.TheViews.{out-Command}
use Rattle.tool_words.specs.declared.command.Form.{Form}

-- a word that a command wants
abbrev pub operand : Text → Rule
operand name = record (new_rule name) { required = true }

-- a word of which a command wants one or more
abbrev pub many : Text → Rule
many name = record (operand name) { action = Some Append }

abbrev pub with_operand : App → Text → App
with_operand app name = with_rule app (operand name)

-- the names of words, each of which stands with what it is
abbrev pub names : List (Bor Text × Bor Text) → List Text
names = map (λ o. o.0.now)

-- a command and the names of its words
abbrev pub form : Text → List Text → App
form name operands = fold with_operand (new_app name) operands

-- the command whose words one object or more follow, where it has objects
abbrev pub with_objects : Bool → App → App
with_objects true app = with_rule app (many (codes "OBJECT"))
with_objects false app = app

-- a command: its name, the names of its words, in their order, and whether one object or more follow these words
pub record Known : Type 0 where
  pub name : Text
  pub operands : List Text
  pub has_objects : Bool

abbrev pub known : Text → List Text → Bool → Known
known name operands has_objects = record { name = name; operands = operands; has_objects = has_objects }

-- the form of a command
abbrev pub form_by : Known → App
form_by command = with_objects command.has_objects (form command.name command.operands)

-- the command that a row of the program's table is
abbrev pub form_of : Form → App
form_of row = form_by (known row.name.now (names row.operands.now) row.has_objects)

abbrev pub REWRITE : Known
REWRITE = known (codes "rewrite") (codes "OBJECT" ∷ codes "ENTRY" ∷ codes "POLICY" ∷ codes "IMAGE" ∷ codes "GRAPH" ∷ codes "MAP" ∷ []) false

abbrev pub VERIFY : Known
VERIFY = known (codes "verify") (codes "IMAGE" ∷ codes "GRAPH" ∷ []) false

abbrev pub RUN : Known
RUN = known (codes "run") (codes "IMAGE" ∷ codes "GRAPH" ∷ codes "SCRIPT" ∷ codes "INPUT" ∷ codes "STEPS" ∷ []) false

abbrev pub COMPARE : Known
COMPARE =
    known (codes "compare")
    (codes "OBJECT" ∷ codes "ENTRY" ∷ codes "POLICY" ∷ codes "IMAGE" ∷ codes "MAP" ∷ codes "INPUT" ∷ codes "STEPS" ∷ []) false

abbrev pub DEMO : Known
DEMO = known (codes "demo") (codes "NUMBER" ∷ []) false

-- a form, and then the words of `rewrite`
abbrev pub HARDEN : Known
HARDEN = known (codes "harden") (codes "FORM" ∷ REWRITE.operands) false

abbrev pub LINK : Known
LINK = known (codes "link") (codes "FORM" ∷ codes "ENTRY" ∷ codes "POLICY" ∷ codes "IMAGE" ∷ codes "GRAPH" ∷ codes "MAP" ∷ []) true

abbrev pub COMPARE_LINK : Known
COMPARE_LINK =
    known (codes "compare-link")
    (codes "ENTRY" ∷ codes "POLICY" ∷ codes "IMAGE" ∷ codes "MAP" ∷ codes "INPUT" ∷ codes "STEPS" ∷ []) true

-- each command, in the order of the help
abbrev pub commands : List Known
commands = REWRITE ∷ VERIFY ∷ RUN ∷ COMPARE ∷ DEMO ∷ HARDEN ∷ LINK ∷ COMPARE_LINK ∷ []

-- their names, with a bar between two
abbrev pub barred : List Known → Text
barred [] = []
barred (command ∷ []) = command.name
barred (command ∷ rest) = command.name ++ codes "|" ++ barred rest

-- the line that tells which commands there are
abbrev pub usage : Text
usage = codes "usage: rvcfi " ++ barred commands

-- the program without its commands: it has a version, wants a command, and has no command for help
abbrev pub program : App
program = record {
  top = record (new_app (codes "rvcfi")).top { has_version = true; subcommand_required = true; disable_help_subcommand = true };
  subs = [];
}

abbrev pub with_command : App → App → App
with_command app command = with_subcommand app command.top

abbrev pub command_line : App
command_line = fold with_command program (map form_by commands)

-- an argument has this rule, and holds for its own command alone
abbrev pub IsArgument : Rule → Arg → Type 0
IsArgument rule arg = (rule_of arg ≡ rule) × (arg.global ≡ false)

-- a command has this form, and no argument that holds for others
abbrev pub IsCommand : App → Command → Type 0
IsCommand app command = (app_of command ≡ app) × ((out-Command command).has_globals ≡ false)

-- commands that have these forms, one after the other
abbrev pub AreCommands : List App → List Command → Type 0
AreCommands [] [] = ⊤
AreCommands [] (c ∷ cs) = ⊥
AreCommands (a ∷ rest) [] = ⊥
AreCommands (a ∷ rest) (c ∷ cs) = IsCommand a c × AreCommands rest cs
