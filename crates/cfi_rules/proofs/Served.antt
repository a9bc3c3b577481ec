-- Which class serves a computed transfer, and which word of its targets bears its label.
use Rattle.std.proofs.Common.{◌≡◌, ℕ, true, inl, inr, List, refl, sym, ap, ◌∙◌, Option, Some, None}
use Rattle.std.specs.Prelude.{is_some, option_and_then}
use Rattle.std.proofs.lemmas.Option.{none-some, same_Some}
use Rattle.rv_image.specs.declared.version.GraphVersion.{GraphVersion}
use Rattle.rv_word.proofs.Cases.{cases_Option, guarded}
use Rattle.cfi_graph.specs.declared.line.GraphLine.{GraphLine}
use Rattle.cfi_graph.specs.declared.line.SiteKind.{SiteKind}
use Rattle.cfi_graph.specs.declared.line.SiteKind.TheVariants as K
use Rattle.cfi_graph.specs.declared.line.Sort.{Sort}
use Rattle.cfi_graph.specs.declared.line.Sort.TheVariants.{Both, Calls, Jumps}
use Rattle.cfi_graph.specs.Graph.{ClassLine}
use Rattle.cfi_unit.specs.declared.target_word.TargetWord.{TargetWord}
use Rattle.cfi_unit.specs.declared.target_word.TargetWord.TheVariants.{First, Second, Third}
use Rattle.cfi_rules.specs.Lines.{call_word, class_with, if_serves, jump_word, read_of, serves, targets_for}

-- the class that gives a transfer its targets
pub record Served (lines : List GraphLine) (kind : SiteKind) (which : TargetWord) (l : ℕ) (ts : List ℕ) : Type 0 where
  pub class : ClassLine
  pub is : class_with lines l ≡ Some class
  pub serving : serves class.sort kind which ≡ true
  pub targets : class.targets ≡ ts

pub served : (lines : List GraphLine) (kind : SiteKind) (which : TargetWord) (l : ℕ) (ts : List ℕ) → targets_for lines kind which l ≡ Some ts → Served lines kind which l ts
unfolding targets_for
served lines kind which l ts e =
    elim (cases_Option (class_with lines l)) [
      | inl none ↦ absurd (none-some ts (sym (ap (option_and_then (if_serves kind which)) none) ∙ e))
      | inr (class, some) ↦
          let given = guarded (serves class.sort kind which) (Some class.targets) ts (sym (ap (option_and_then (if_serves kind which)) some) ∙ e) in
          record { class = class; is = some; serving = given.0; targets = same_Some class.targets ts given.1 }
    ]

pub some_class : (lines : List GraphLine) (kind : SiteKind) (which : TargetWord) (l : ℕ) → is_some (targets_for lines kind which l) ≡ true → is_some (class_with lines l) ≡ true
unfolding targets_for
some_class lines kind which l e = by (class_with lines l) e
  where
    by : (o : Option ClassLine) → is_some (option_and_then (if_serves kind which) o) ≡ true → is_some o ≡ true
    by None some = some
    by (Some class) some = refl

-- which word of its destination the check of a computed transfer of this kind reads, in code whose graph has this version
abbrev pub read_by : GraphVersion → SiteKind → TargetWord
read_by version K.Call = call_word version
read_by version K.Jump = jump_word version

-- the check of a transfer that a class serves reads the word that bears the class's label
pub reads_it : (version : GraphVersion) (sort : Sort) (kind : SiteKind) (which : TargetWord) → which ≡ read_by version kind → serves sort kind which ≡ true →
    read_of version sort ≡ which
reads_it version Both kind First read e = refl
reads_it version Both kind Second read e = absurd (cc)
reads_it version Both kind Third read e = absurd (cc)
reads_it version Calls K.Call which read e = sym read
reads_it version Calls K.Jump which read e = absurd (cc)
reads_it version Jumps K.Jump which read e = sym read
reads_it version Jumps K.Call which read e = absurd (cc)
