-- The words of a code while it is written.
use Rattle.std.proofs.Common.{◌≡◌, ℕ, suc, ◌+◌, ◌*◌, ◌<◌, ◌≤◌, List, [], ◌∷◌, ◌++◌, length, length-append, map, drop, arith, ap, refl, ◌∙◌, sym, subst, append_assoc, append-nil, get_or, lit<}
use Rattle.std.proofs.Math.Seq.{drop-cons}
use Rattle.rv_image.specs.MemoryMap.{CODE_SIZE, CODE_START, profile_under, profile_with}
use Rattle.rv_image.specs.declared.version.GraphVersion.{GraphVersion}
use Rattle.rv_image.specs.declared.version.GraphVersion.TheVariants.{OneLabel, TwoLabels, CalleeSaves}
use Rattle.rv_image.specs.declared.version.ImageVersion.{ImageVersion}
use Rattle.rv_image.specs.declared.version.ImageVersion.TheVariants.{OneHart, EightHarts}
use Rattle.rv_image.specs.declared.version.Versions.{Versions}
use Rattle.rv_code.specs.Encode.{code_of}
use Rattle.cfi_unit.specs.declared.unit.Unit as U
use Rattle.cfi_unit.specs.Prologue.{closing_instrs, prologue_instrs}
use Rattle.cfi_unit.specs.UnitWords.{Fits, Reaches, after_unit, word_count, words_of}
use Rattle.cfi_unit.proofs.Counts.{some_word}
use Rattle.cfi_unit.proofs.Found.{words_counted}
use Rattle.cfi_rules.specs.Placed.{AllFit, code_from, placed_code}
use Rattle.cfi_rules.specs.Split.{code_words}
use Rattle.cfi_code.specs.Prologue.{before_call, begins_with, call_with}

abbrev versions_of : GraphVersion → ImageVersion → Versions
versions_of graph image = record { image = image; graph = graph }

-- the words of the prologue in its parts: they are its instructions' in each version
parts_by : (graph : GraphVersion) (image : ImageVersion) (entry : ℕ) →
    ((code_words [] ++ map code_of (before_call (versions_of graph image))) ++ words_of (call_with (versions_of graph image) entry) (begins_with (versions_of graph image)))
    ++ map code_of closing_instrs
    ≡ map code_of (prologue_instrs (profile_under graph image) entry)
unfolding words_of code_words
parts_by OneLabel OneHart entry = refl
parts_by OneLabel EightHarts entry = refl
parts_by TwoLabels OneHart entry = refl
parts_by TwoLabels EightHarts entry = refl
parts_by CalleeSaves OneHart entry = refl
parts_by CalleeSaves EightHarts entry = refl

pub prologue_words : (versions : Versions) (entry : ℕ) (call first second third : List ℕ) → call ≡ words_of (call_with versions entry) (begins_with versions)
    → code_words first ≡ code_words [] ++ map code_of (before_call versions) → code_words second ≡ code_words first ++ call
    → code_words third ≡ code_words second ++ map code_of closing_instrs → code_words third ≡ map code_of (prologue_instrs (profile_with versions) entry)
prologue_words versions entry call first second third call_is first_is second_is third_is =
    third_is
    ∙ ap (λ (ws : List ℕ). ws ++ map code_of closing_instrs)
    (second_is ∙ ap (λ (ws : List ℕ). ws ++ call) first_is ∙ ap (λ (ws : List ℕ). (code_words [] ++ map code_of (before_call versions)) ++ ws) call_is)
    ∙ parts_by versions.graph versions.image entry

-- where the prologue ends
counted_by : (graph : GraphVersion) (image : ImageVersion) (entry : ℕ) →
    CODE_START + 4 * length (before_call (versions_of graph image)) + 4 * word_count (call_with (versions_of graph image) entry) + 4 * length closing_instrs
    ≡ (profile_under graph image).units_from
counted_by OneLabel OneHart entry = refl
counted_by OneLabel EightHarts entry = refl
counted_by TwoLabels OneHart entry = refl
counted_by TwoLabels EightHarts entry = refl
counted_by CalleeSaves OneHart entry = refl
counted_by CalleeSaves EightHarts entry = refl

pub prologue_size : (versions : Versions) (entry : ℕ) (call first second third : List ℕ) → call ≡ words_of (call_with versions entry) (begins_with versions) →
    length first ≡ 4 * length (before_call versions) → length second ≡ length first + 4 * length call →
    length third ≡ length second + 4 * length closing_instrs → CODE_START + length third ≡ (profile_with versions).units_from
prologue_size versions entry call first second third call_is first_is second_is third_is =
    let words = ap length call_is ∙ words_counted (call_with versions entry) (begins_with versions) in
    let all = counted_by versions.graph versions.image entry in
    omega arith

-- the call may stand there
fits_by : (graph : GraphVersion) (image : ImageVersion) (entry : ℕ) → Reaches (profile_under graph image).opening_call entry →
    Fits (call_with (versions_of graph image) entry) (begins_with (versions_of graph image))
fits_by OneLabel OneHart entry reached = (refl, reached)
fits_by OneLabel EightHarts entry reached = (refl, reached)
fits_by TwoLabels OneHart entry reached = (refl, reached)
fits_by TwoLabels EightHarts entry reached = (refl, reached)
fits_by CalleeSaves OneHart entry reached = reached
fits_by CalleeSaves EightHarts entry reached = reached

pub call_fits : (versions : Versions) (entry : ℕ) → Reaches (profile_with versions).opening_call entry → Fits (call_with versions entry) (begins_with versions)
call_fits versions entry reached = fits_by versions.graph versions.image entry reached

inside_by : (graph : GraphVersion) (image : ImageVersion) → begins_with (versions_of graph image) < CODE_START + CODE_SIZE
inside_by OneLabel OneHart = lit< tt
inside_by OneLabel EightHarts = lit< tt
inside_by TwoLabels OneHart = lit< tt
inside_by TwoLabels EightHarts = lit< tt
inside_by CalleeSaves OneHart = lit< tt
inside_by CalleeSaves EightHarts = lit< tt

pub call_inside : (versions : Versions) → begins_with versions < CODE_START + CODE_SIZE
call_inside versions = inside_by versions.graph versions.image

-- bytes with the words of some units after them are a whole code, and these units fit there
pub record IsWritten (whole : List ℕ) (units : List U.Unit) (bytes : List ℕ) : Type 0 where
  pub words : code_words bytes ++ code_from (CODE_START + length bytes) units ≡ whole
  pub size : length bytes ≡ 4 * length (code_words bytes)
  pub fit : AllFit (CODE_START + length bytes) units

-- the first of the units that are left
pub next_is : (units : List U.Unit) (i : ℕ) (unit : U.Unit) → i < length units → get_or units i unit ≡ unit → drop i units ≡ unit ∷ drop (i + 1) units
next_is units i unit below is =
    let next : suc i ≡ i + 1 = omega arith in
    drop-cons units i unit below ∙ ap (λ u. u ∷ drop (suc i) units) is ∙ ap (λ j. unit ∷ drop j units) next

module _ (whole : List ℕ) (unit : U.Unit) (rest : List U.Unit) (bytes : List ℕ) where
  pub next_fits : IsWritten whole (unit ∷ rest) bytes → Fits unit (CODE_START + length bytes)
  unfolding AllFit
  next_fits written = written.fit.0

  pub next_inside : IsWritten whole (unit ∷ rest) bytes → 4 * length whole ≤ CODE_SIZE → length bytes < CODE_SIZE
  unfolding code_from
  next_inside written room =
      let at = CODE_START + length bytes in
      let after = code_from (after_unit unit (CODE_START + length bytes)) rest in
      let words = ap length written.words in
      let some = some_word unit in
      let size = written.size in
      omega (
        arith,
        words_counted unit (CODE_START + length bytes),
        length-append (code_words bytes) (words_of unit (CODE_START + length bytes) ++ code_from (after_unit unit (CODE_START + length bytes)) rest),
        length-append (words_of unit (CODE_START + length bytes)) (code_from (after_unit unit (CODE_START + length bytes)) rest),
      )

  pub next_written : (words more : List ℕ) → IsWritten whole (unit ∷ rest) bytes → words ≡ words_of unit (CODE_START + length bytes)
      → code_words more ≡ code_words bytes ++ words → length more ≡ length bytes + 4 * length words → IsWritten whole rest more
  unfolding code_from AllFit
  next_written words more written are more_are size =
      let counted : length words ≡ word_count unit = ap length are ∙ words_counted unit (CODE_START + length bytes) in
      let after : CODE_START + length bytes + 4 * word_count unit ≡ CODE_START + length more = omega arith in
      let bytes_size = written.size in
      record {
        words =
            ap (λ ws. ws ++ code_from (CODE_START + length more) rest) more_are
            ∙ append_assoc (code_words bytes) words (code_from (CODE_START + length more) rest)
            ∙ ap (λ ws. code_words bytes ++ (ws ++ code_from (CODE_START + length more) rest)) are
            ∙ ap (λ a. code_words bytes ++ (words_of unit (CODE_START + length bytes) ++ code_from a rest)) (sym after)
            ∙ written.words;
        size =
            let words_size = ap length more_are in
            omega (arith, length-append (code_words bytes) words);
        fit = subst (λ a. AllFit a rest) after written.fit.1;
      }

instrs_by : (graph : GraphVersion) (image : ImageVersion) (entry : ℕ) →
    CODE_START + 4 * length (map code_of (prologue_instrs (profile_under graph image) entry)) ≡ (profile_under graph image).units_from
instrs_by OneLabel OneHart entry = refl
instrs_by OneLabel EightHarts entry = refl
instrs_by TwoLabels OneHart entry = refl
instrs_by TwoLabels EightHarts entry = refl
instrs_by CalleeSaves OneHart entry = refl
instrs_by CalleeSaves EightHarts entry = refl

pub first_written : (versions : Versions) (entry : ℕ) (units : List U.Unit) (bytes : List ℕ) → code_words bytes ≡ map code_of (prologue_instrs (profile_with versions) entry) →
    CODE_START + length bytes ≡ (profile_with versions).units_from → AllFit (profile_with versions).units_from units
    → IsWritten (placed_code (profile_with versions) entry units) units bytes
first_written versions entry units bytes words place fit =
    record {
      words = ap (λ ws. ws ++ code_from (CODE_START + length bytes) units) words
          ∙ ap (λ a. map code_of (prologue_instrs (profile_with versions) entry) ++ code_from a units) place;
      size = omega (arith, place, ap length words, instrs_by versions.graph versions.image entry);
      fit = subst (λ a. AllFit a units) (sym place) fit;
    }

pub all_written : (whole : List ℕ) (bytes : List ℕ) → IsWritten whole [] bytes → (code_words bytes ≡ whole) × (length bytes ≡ 4 * length whole)
unfolding code_from
all_written whole bytes written =
    let words : code_words bytes ≡ whole = sym (append-nil (code_words bytes)) ∙ written.words in
    (words, written.size ∙ ap (λ ws. 4 * length ws) words)
