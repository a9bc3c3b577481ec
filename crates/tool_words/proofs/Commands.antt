-- A command with one word more, and the program with one command more, as the loops make them.
use Rattle.std.proofs.Common.{◌≡◌, ◌∙◌, ◌<◌, ◌≤◌, ◌+◌, ◌||◌, ◌++◌, ℕ, zero, suc, Bool, List, [], ◌∷◌, codes, Some, map, false, true, ap, ap₂, subst, sym, arith, refl, take, length, get_or}
use Rattle.std.specs.Borrow.{Bor}
use Rattle.std.proofs.lemmas.List.{map_push, take_all, take_more}
use Rattle.tool_words.specs.declared.command.Form.{Form}
use Rattle.std.specs.List.{fold}
use Rattle.clap.specs.Words.{AddsArg, AddsInTurn, AddsSubcommand, App, Rule, Text, app_of, new_app, new_rule, rule_of, with_rule, with_subcommand}
use Rattle.clap.specs.Simple.{app_of_fields, on_top}
use Rattle.clap.specs.declared.builder.command.Command.TheOpen.{Command-F}
use Rattle.clap.specs.declared.builder.command.Command.TheViews.{out-Command}
use Rattle.clap.specs.declared.builder.arg.Arg.{Arg}
use Rattle.clap.specs.declared.builder.command.Command.{Command}
use Rattle.tool_words.specs.CommandLine.{AreCommands, IsArgument, IsCommand, form, form_of, many, names, operand, program, with_command, with_objects, with_operand}

-- a command with one argument more
pub added : (app : App) (old new : Command) (arg : Arg) (rule : Rule) → IsCommand app old → rule_of arg ≡ rule → arg.global ≡ false
    → AddsArg old arg new → IsCommand (with_rule app rule) new
added app old new arg rule was is local adds = (
  adds.shape local ∙ ap₂ with_rule was.0 is,
  adds.globals ∙ ap₂ (λ a b. a || b) was.1 local,
)

after_more : {X Y : Type 0} (step : App → Y → App) (word : X → Y) (app : App) (xs : List X) (i : ℕ) (d : X) → i < length xs
    → step (fold step app (map word (take i xs))) (word (get_or xs i d)) ≡ fold step app (map word (take (suc i) xs))
after_more step word app [] i d below = absurd (omega arith)
after_more step word app (x ∷ xs) zero d below = refl
after_more step word app (x ∷ xs) (suc i) d below = after_more step word (step app (word x)) xs i d (omega arith)

-- a loop that takes one step for each member has taken one more
pub one_more : {X Y : Type 0} (step : App → Y → App) (word : X → Y) (app : App) (xs : List X) (i : ℕ) (d : X) → i < length xs
    → step (fold step app (map word (take i xs))) (word (get_or xs i d)) ≡ fold step app (map word (take (i + 1) xs))
one_more step word app xs i d below =
    let next : suc i ≡ i + 1 = omega arith in
    subst (λ k. step (fold step app (map word (take i xs))) (word (get_or xs i d)) ≡ fold step app (map word (take k xs))) next
    (after_more step word app xs i d below)

-- a command that has its name and says what it does
pub begun : (app : App) (new told : Command) (about : Bor Text) → app_of new ≡ app → (out-Command new).has_globals ≡ false
    → out-Command told ≡ record (out-Command new) { about = Some about } → IsCommand app told
begun app new told about is local e =
    (ap app_of_fields e ∙ is, ap (λ (c : Command-F Command). c.has_globals) e ∙ local)

-- a command with all its words
pub ended : (name : Text) (operands : List (Bor Text × Bor Text)) (told command : Command) (i : ℕ) → app_of told ≡ new_app name → length operands ≤ i
    → IsCommand (fold with_operand (app_of told) (names (take i operands))) command → IsCommand (form name (names operands)) command
ended name operands told command i is past has =
    subst (λ (app : App). IsCommand app command) (ap₂ (λ app os. fold with_operand app (names os)) is (take_all i operands past)) has

-- a command that has no objects is that of its row
pub without_objects : (row : Form) (command : Command) → row.has_objects ≡ false → IsCommand (form row.name.now (names row.operands.now)) command
    → IsCommand (form_of row) command
without_objects row command none has =
    subst (λ (has_objects : Bool). IsCommand (with_objects has_objects (form row.name.now (names row.operands.now))) command) (sym none) has

-- a command that has objects is that of its row with one argument more
pub objects_added : (row : Form) (old new : Command) (arg : Arg) → row.has_objects ≡ true → IsCommand (form row.name.now (names row.operands.now)) old
    → IsArgument (many (codes "OBJECT")) arg → AddsArg old arg new → IsCommand (form_of row) new
objects_added row old new arg some was is adds =
    subst (λ (has_objects : Bool). IsCommand (with_objects has_objects (form row.name.now (names row.operands.now))) new) (sym some)
    (added _ old new arg _ was is.0 is.1 adds)

-- a word that a command wants, with what it is
pub wanted : (name : Text) (new required told : Arg) (help : Bor Text) → rule_of new ≡ new_rule name → new.global ≡ false
    → required ≡ record new { required = true } → told ≡ record required { help = Some help } → (rule_of told ≡ operand name) × (told.global ≡ false)
wanted name new required told help is local e1 e2 =
    let whole = e2 ∙ ap (λ (a : Arg). record a { help = Some help }) e1 in
    (ap rule_of whole ∙ ap (λ (r : Rule). record r { required = true }) is, ap (λ (a : Arg). a.global) whole ∙ local)

-- the program with one command more
commanded : (app command : App) (old sub new : Command) → IsCommand app old → IsCommand command sub → AddsSubcommand old sub new
    → IsCommand (with_command app command) new
commanded app command old sub new was is adds = (
  adds.shape is.1 ∙ ap₂ with_subcommand was.0 (ap (λ (a : App). a.top) is.0),
  adds.globals ∙ ap₂ (λ a b. a || b) was.1 is.1,
)

pushed : (apps : List App) (commands : List Command) (app : App) (command : Command) → AreCommands apps commands → IsCommand app command
    → AreCommands (apps ++ app ∷ []) (commands ++ command ∷ [])
pushed [] [] app command are is = (is, tt)
pushed [] (c ∷ cs) app command are is = absurd are
pushed (a ∷ rest) [] app command are is = absurd are
pushed (a ∷ rest) (c ∷ cs) app command are is = (are.0, pushed rest cs app command are.1 is)

-- a loop that makes the command of each row has made one more
pub made_more : (rows : List Form) (i : ℕ) (d : Form) (commands more : List Command) (command : Command) → i < length rows
    → more ≡ commands ++ command ∷ [] → AreCommands (map form_of (take i rows)) commands → IsCommand (form_of (get_or rows i d)) command
    → AreCommands (map form_of (take (i + 1) rows)) more
made_more rows i d commands more command below grown are is =
    let next : map form_of (take (i + 1) rows) ≡ map form_of (take i rows) ++ form_of (get_or rows i d) ∷ [] =
    ap (map form_of) (take_more rows i d below) ∙ map_push form_of (take i rows) (get_or rows i d) in
    subst (AreCommands (map form_of (take (i + 1) rows))) (sym grown)
    (subst (λ apps. AreCommands apps (commands ++ command ∷ [])) (sym next) (pushed (map form_of (take i rows)) commands _ command are is))

-- the program with all of them
pub all_added : (apps : List App) (commands : List Command) (app : App) (old new : Command) → IsCommand app old → AreCommands apps commands
    → AddsInTurn AddsSubcommand old commands new → IsCommand (fold with_command app apps) new
all_added [] [] app old new was are adds = subst (IsCommand app) adds was
all_added [] (c ∷ cs) app old new was are adds = absurd are
all_added (a ∷ rest) [] app old new was are adds = absurd are
all_added (a ∷ rest) (c ∷ cs) app old new was are adds =
    all_added rest cs (with_command app a) adds.0 new (commanded app a old c adds.0 was are.0 adds.1) are.1 adds.2

-- the program before its commands
pub fronted : (new versioned told wanting front : Command) (version about : Bor Text) → app_of new ≡ new_app (codes "rvcfi") → (out-Command new).has_globals ≡ false
    → out-Command versioned ≡ record (out-Command new) { version = Some version }
    → out-Command told ≡ record (out-Command versioned) { about = Some about }
    → out-Command wanting ≡ record (out-Command told) { subcommand_required = true }
    → out-Command front ≡ record (out-Command wanting) { disable_help_subcommand = true }
    → IsCommand program front
fronted new versioned told wanting front version about app local e1 e2 e3 e4 =
    let whole = e4 ∙ ap (λ (c : Command-F Command). record c { disable_help_subcommand = true }) (e3
    ∙ ap (λ (c : Command-F Command). record c { subcommand_required = true }) (e2
    ∙ ap (λ (c : Command-F Command). record c { about = Some about }) e1)) in (
      ap app_of_fields whole ∙ ap (on_top (λ s. record s { has_version = true; subcommand_required = true; disable_help_subcommand = true })) app,
      ap (λ (c : Command-F Command). c.has_globals) whole ∙ local,
    )
