-- A script is for one to eight harts, and how many of them an image may have.
use Rattle.std.proofs.Common.{◌≡◌, ◌≤◌, ◌<◌, ◌==◌, ◌&&◌, ℕ, nat_le, true, false, List, [], ◌∷◌, Option, Some, None, Result, Ok, Err, inl, inr, ap, arith, refl, subst, sym}
use Rattle.std.proofs.lemmas.Bool.{and_parts, leb-true, ltb-false, ltb-true}
use Rattle.rv_image.specs.declared.version.ImageVersion.{ImageVersion}
use Rattle.rv_image.specs.declared.version.ImageVersion.TheVariants.{OneHart, EightHarts}
use Rattle.rv_image.specs.MemoryMap.{MayRun, profile_of}
use Rattle.rv_image.specs.declared.profile.TheConstants.{MOST_HARTS}
use Rattle.rv_word.proofs.Cases.{chosen}
use Rattle.rv_image.proofs.Profiles.{is_profile, laid_out}
use Rattle.rv_word.specs.declared.end.End.{End}
use Rattle.text_lines.specs.Lines.{lines_of, words_of}
use Rattle.text_lines.specs.Reading.{if_right, one_named}
use Rattle.text_lines.specs.declared.reason.Reason.TheVariants.{Range}
use Rattle.text_lines.specs.declared.fault.LineFault.{LineFault}
use Rattle.text_lines.specs.Answers.{line_fault}
use Rattle.cfi_script.specs.Script.{Changes, ScriptParts}
use Rattle.cfi_script.specs.ScriptText.{changes_of_lines, for_one, for_several, harts_of, script_names, script_of, turns_read, with_count, with_harts}
use Rattle.cfi_launch.specs.SafeRun.{undisturbed_script}
use Rattle.cfi_launch.specs.Launch.{script_given}
use Rattle.cfi_launch.specs.ScriptHarts.{lacks_harts}

-- every image may have one hart
pub one_may_run : (version : ImageVersion) → MayRun (profile_of version) 1
one_may_run version = record { some = omega arith; most = (laid_out (profile_of version) (is_profile version)).some }

-- from one hart to as many as there may be
pub record IsCount (harts : ℕ) : Type 0 where
  pub some : 1 ≤ harts
  pub most : harts ≤ MOST_HARTS

-- where a script is not for several harts or an image not for one, the image may have the script's
pub may_run : (version : ImageVersion) (harts : ℕ) → IsCount harts → lacks_harts version harts ≡ false → MayRun (profile_of version) harts
may_run OneHart harts count test = record { some = count.some; most = ltb-false 1 harts test }
may_run EightHarts harts count test = record { some = count.some; most = count.most }

-- and where it may not, the image is for one and the script for several
pub for_one_alone : (version : ImageVersion) (harts : ℕ) → lacks_harts version harts ≡ true → (version ≡ OneHart) × (1 < harts)
for_one_alone OneHart harts test = (refl, ltb-true 1 harts test)
for_one_alone EightHarts harts test = absurd (cc)

-- what comes after a step that was right
then_right : {A C : Type 0} (step : Result A (End LineFault)) (next : A → Result C (End LineFault)) (y : C) → if_right step next ≡ Ok y → (x : A) × (step ≡ Ok x) × (next x ≡ Ok y)
then_right (Ok x) next y e = (x, refl, e)
then_right (Err end) next y e = absurd (cc)

module _ (script : ScriptParts) where
  is_of : (harts : ℕ) → IsCount harts → script.harts ≡ harts → IsCount script.harts
  is_of harts count same = subst (λ (n : ℕ). IsCount n) (sym same) count

  one_counts : (lines : List (List ℕ)) → for_one lines ≡ Ok script → IsCount script.harts
  one_counts lines e =
      let (changes, read, is) = then_right (changes_of_lines 2 lines) (λ (changes : Changes). Ok (record { harts = 1; turns = []; changes = changes })) script e in
      let same : record { harts = 1; turns = []; changes = changes } ≡ script = cc is in
      is_of 1 (record { some = omega arith; most = omega arith }) (sym (ap (λ (s : ScriptParts). s.harts) same))

  harts_told : (harts : ℕ) (lines : List (List ℕ)) → with_harts harts lines ≡ Ok script → script.harts ≡ harts
  harts_told harts lines e =
      let (read, turns, rest) = then_right (turns_read harts 3 lines) _ script e in
      let (changes, items, is) = then_right (changes_of_lines read.number read.rest) _ script rest in
      let same : record { harts = harts; turns = read.turns; changes = changes } ≡ script = cc is in
      sym (ap (λ (s : ScriptParts). s.harts) same)

  counted : (count : Option ℕ) (lines : List (List ℕ)) → with_count count lines ≡ Ok script → IsCount script.harts
  counted None lines e = absurd (cc)
  counted (Some harts) lines e = elim (chosen (nat_le 1 harts && nat_le harts MOST_HARTS) (with_harts harts lines) (Err (line_fault 2 Range)) (Ok script) e) [
    | inl (test, is) ↦
        let parts = and_parts (nat_le 1 harts) (nat_le harts MOST_HARTS) test in
        is_of harts (record { some = leb-true 1 harts parts.0; most = leb-true harts MOST_HARTS parts.1 }) (harts_told harts lines is)
    | inr (test, is) ↦ absurd (cc)
  ]

  several_count : (lines : List (List ℕ)) → for_several lines ≡ Ok script → IsCount script.harts
  unfolding for_several
  several_count [] e = absurd (cc)
  several_count (line ∷ []) e = absurd (cc)
  several_count (line ∷ next ∷ rest) e = counted (harts_of (words_of line)) (next ∷ rest) e

  text_counts : (text : List ℕ) → script_of text ≡ Ok script → IsCount script.harts
  unfolding script_of
  text_counts text e =
      let (first, named, is) = then_right (one_named script_names (lines_of text)) _ script e in
      elim (chosen (first.0 == 0) (for_one first.1) (for_several first.1) (Ok script) is) [
        | inl (test, one) ↦ one_counts first.1 one
        | inr (test, several) ↦ several_count first.1 several
      ]

  -- so is each script that is given
  pub given_counts : (text : Option (List ℕ)) → script_given text ≡ Ok script → IsCount script.harts
  given_counts None e =
      let same : undisturbed_script ≡ script = cc e in
      is_of 1 (record { some = omega arith; most = omega arith }) (sym (ap (λ (s : ScriptParts). s.harts) same))
  given_counts (Some text) e = text_counts text e
