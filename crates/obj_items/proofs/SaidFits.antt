-- The code of an input is fit where that of what is said is whole words, in few sections.
use Rattle.std.proofs.Common.{◌≡◌, ℕ, zero, suc, ◌<◌, ◌≤◌, ◌%◌, ◌^◌, Bool, get_or, true, false, List, [], ◌∷◌, ◌++◌, length, map, inl, inr, refl, sym, ap, ◌∙◌, append-nil, arith}
use Rattle.std.specs.List.{All}
use Rattle.std.proofs.lemmas.Bool.{cases_eq, cases_lt}
use Rattle.std.proofs.lemmas.List.{get_or-map, get_or_append_left, get_or_past, length-append, length-map}
use Rattle.std.proofs.lemmas.List.Elements.{All-get_or}
use Rattle.std.proofs.Math.Seq.{get_or-append_seam}
use Rattle.obj_items.proofs.Prelude.{Dropped, SectionParts, is_code, is_code_sort, no_section, section_of, Said, SectionSaid, section_said, slots, table_of, table_section, HasFitCode}
use Rattle.obj_join.specs.SaidInput as joined

-- a section that is whole words, if it is code
abbrev pub IsWhole : SectionSaid → Type 0
IsWhole s = is_code_sort s.sort ≡ true → s.size % 4 ≡ 0

-- what is past the last section
abbrev none_said : SectionSaid
none_said = record { sort = Dropped; size = 0; align = 0; content = []; uses = [] }

module _ (resolve : ℕ → ℕ) (found : ℕ → Bool) (said : Said) where
  abbrev own_sections : List SectionParts
  own_sections = map (joined.section_of resolve said) said.sections

  abbrev table : List SectionParts
  table = table_of resolve said (length (slots resolve said.sections))

  own_count : length own_sections ≡ length said.sections
  own_count = length-map said.sections (joined.section_of resolve said)

  sections_are : (joined.input_by resolve found said).sections ≡ own_sections ++ table
  unfolding joined.input_by
  sections_are = refl

  section_is : (k : ℕ) → k < length said.sections
      → section_of (joined.input_by resolve found said) k ≡ joined.section_of resolve said (section_said said.sections k)
  section_is k below =
      let count = own_count in
      ap (λ (ss : List SectionParts). get_or ss k no_section) sections_are
      ∙ get_or_append_left own_sections table no_section k (omega arith)
      ∙ get_or-map (joined.section_of resolve said) said.sections k none_said no_section below

  -- the table is no code, and nothing is behind it
  no_code : (count k : ℕ) → length own_sections ≤ k → is_code (get_or (own_sections ++ table_of resolve said count) k no_section) ≡ false
  no_code zero k past =
      ap (λ (ss : List SectionParts). is_code (get_or ss k no_section)) (append-nil own_sections) ∙ ap is_code (get_or_past own_sections k no_section past)
  no_code (suc count) k past = elim (cases_eq k (length own_sections)) [
    | inl last ↦ rw last (ap is_code (get_or-append_seam own_sections (table_section resolve said (suc count)) [] no_section))
    | inr more ↦
        let both = length-append own_sections (table_section resolve said (suc count) ∷ []) in
        ap is_code (get_or_past (own_sections ++ table_section resolve said (suc count) ∷ []) k no_section (omega arith))
  ]

  code_own : (k : ℕ) → is_code (section_of (joined.input_by resolve found said) k) ≡ true → k < length said.sections
  code_own k code = elim (cases_lt k (length said.sections)) [
    | inl less ↦ less
    | inr past ↦
        let count = own_count in
        let other = no_code (length (slots resolve said.sections)) k (omega arith) in
        let is : is_code (get_or (own_sections ++ table) k no_section) ≡ true = ap (λ (ss : List SectionParts). is_code (get_or ss k no_section)) (sym sections_are) ∙ code in
        let no : true ≡ false = sym is ∙ other in
        absurd (cc)
  ]

  whole_words : All IsWhole said.sections → (k : ℕ) → is_code (section_of (joined.input_by resolve found said) k) ≡ true
      → (section_of (joined.input_by resolve found said) k).size % 4 ≡ 0
  whole_words whole k code =
      let below = code_own k code in
      let is = section_is k below in
      ap (λ (s : SectionParts). s.size % 4) is
      ∙ All-get_or IsWhole said.sections k none_said below whole (sym (ap is_code is) ∙ code)

  pub said_fits : All IsWhole said.sections → length said.sections ≤ 2 ^ 16 → HasFitCode (joined.input_by resolve found said)
  said_fits whole few = record {
    words = whole_words whole;
    named = λ k code. let below = code_own k code in omega arith;
  }
