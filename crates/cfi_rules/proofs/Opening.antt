-- The prologue stands in the loaded image, with the entry that its call has.
use Rattle.std.proofs.Common.{◌≡◌, ℕ, zero, suc, ◌+◌, ◌-◌, ◌*◌, ◌/◌, ◌%◌, ◌^◌, ◌<◌, inl, inr, Bool, true, false, List, [], ◌∷◌, ◌++◌, length, take, refl, sym, ap, subst, ◌∙◌, Option, Some, None, arith}
use Rattle.std.specs.Prelude.{slice_get, slice_index, ◌==◌, not, option_map}
use Rattle.std.proofs.lemmas.Bool.{cases_eq, eq-eqb, eqb-true, le-leb, ne_eqb}
use Rattle.std.proofs.lemmas.Option.{get_or_from_slice_get, slice_get-map, slice_get_within}
use Rattle.rv_image.specs.Image.{Contents, loaded}
use Rattle.rv_image.specs.MemoryMap.{CODE_START, IsProfile, Profile, lean_version_1, lean_version_2, version_1, version_2}
use Rattle.rv_image.proofs.Profiles.{LaidOut, laid_out}
use Rattle.rv_word.specs.Memory.{read}
use Rattle.rv_instr.specs.declared.instr.Instr.{Instr}
use Rattle.rv_instr.specs.declared.instr.Instr.TheVariants.{Jal}
use Rattle.rv_code.specs.Decode.{decoded}
use Rattle.rv_code.specs.Encode.{code_of}
use Rattle.rv_code.proofs.Inverse.{decoded-in_range}
use Rattle.cfi_unit.specs.Prologue.{closing_instrs, prologue_instrs}
use Rattle.cfi_unit.specs.Reach.{led_to}
use Rattle.cfi_unit.specs.Stand.{Stand}
use Rattle.cfi_unit.specs.UnitWords.{Reaches, jump_offset}
use Rattle.cfi_unit.proofs.LedBack.{led_back}
use Rattle.cfi_rules.specs.Split.{code_words, entry_of}
use Rattle.cfi_rules.specs.Rules.{prologue_words, prologue_word_fits, is_link, fails_prologue}
use Rattle.cfi_rules.specs.Laws.{AreBytes}
use Rattle.cfi_rules.proofs.Bytes.{code_word, loaded_word}
use Rattle.cfi_rules.proofs.InRange.{each_instr, prologue_in_range}
use Rattle.cfi_rules.proofs.Standing.{fetched}

-- which word of the prologue is the opening's call
abbrev pub call_word : Profile → ℕ
call_word p = (p.opening_call - CODE_START) / 4

-- the prologue ends where the first unit begins, and all its words but the call are the same for each
-- entry
pub record PrologueIs (p : Profile) : Type 0 where
  pub size : (entry : ℕ) → CODE_START + 4 * length (prologue_instrs p entry) ≡ p.units_from
  pub call : (entry : ℕ) → slice_get (prologue_instrs p entry) (call_word p) ≡ Some (Jal 1 (jump_offset p.opening_call entry))
  pub others : (entry k : ℕ) → (k ≡ call_word p → ⊥) → slice_get (prologue_instrs p 0) k ≡ slice_get (prologue_instrs p entry) k

-- lists that differ in one member
but_one : (front : List Instr) (x y : Instr) (back : List Instr) (k : ℕ) → (k ≡ length front → ⊥) →
    slice_get (front ++ x ∷ back) k ≡ slice_get (front ++ y ∷ back) k
but_one [] x y back zero other = absurd (other refl)
but_one [] x y back (suc k) other = refl
but_one (i ∷ front) x y back zero other = refl
but_one (i ∷ front) x y back (suc k) other = but_one front x y back k (λ e. other (ap suc e))

prologue_is_1 : PrologueIs version_1
prologue_is_1 = record {
  size = λ entry. refl;
  call = λ entry. refl;
  others = λ entry k other.
      but_one (take 13 (prologue_instrs version_1 0)) (Jal 1 (jump_offset version_1.opening_call 0)) (Jal 1 (jump_offset version_1.opening_call entry)) closing_instrs k other;
}

prologue_is_2 : PrologueIs version_2
prologue_is_2 = record {
  size = λ entry. refl;
  call = λ entry. refl;
  others = λ entry k other.
      but_one (take 17 (prologue_instrs version_2 0)) (Jal 1 (jump_offset version_2.opening_call 0)) (Jal 1 (jump_offset version_2.opening_call entry)) closing_instrs k other;
}

prologue_is_lean_1 : PrologueIs lean_version_1
prologue_is_lean_1 = record {
  size = λ entry. refl;
  call = λ entry. refl;
  others = λ entry k other.
      but_one (take 8 (prologue_instrs lean_version_1 0)) (Jal 1 (jump_offset lean_version_1.opening_call 0)) (Jal 1 (jump_offset lean_version_1.opening_call entry)) closing_instrs k other;
}

prologue_is_lean_2 : PrologueIs lean_version_2
prologue_is_lean_2 = record {
  size = λ entry. refl;
  call = λ entry. refl;
  others = λ entry k other.
      but_one (take 12 (prologue_instrs lean_version_2 0)) (Jal 1 (jump_offset lean_version_2.opening_call 0)) (Jal 1 (jump_offset lean_version_2.opening_call entry)) closing_instrs k other;
}

pub prologue_is : (p : Profile) → IsProfile p → PrologueIs p
prologue_is p (inl (inl e)) = subst (λ (q : Profile). PrologueIs q) (sym e) prologue_is_1
prologue_is p (inl (inr e)) = subst (λ (q : Profile). PrologueIs q) (sym e) prologue_is_2
prologue_is p (inr (inl e)) = subst (λ (q : Profile). PrologueIs q) (sym e) prologue_is_lean_1
prologue_is p (inr (inr e)) = subst (λ (q : Profile). PrologueIs q) (sym e) prologue_is_lean_2

pub word_at : (p : Profile) → PrologueIs p → (entry k : ℕ) (i : Instr) → (k ≡ call_word p → ⊥) → slice_get (prologue_instrs p entry) k ≡ Some i →
    slice_index (prologue_words p) k ≡ code_of i
word_at p prologue entry k i other e =
    get_or_from_slice_get (prologue_words p) k (code_of i) 0
    (slice_get-map code_of (prologue_instrs p 0) k ∙ ap (option_map code_of) (prologue.others entry k other ∙ e))

-- the rule on the prologue, word by word
pub prologue_word : (p : Profile) → LaidOut p → (words : List ℕ) → ((a : ℕ) → fails_prologue p words a ≡ false) → (k : ℕ) → CODE_START + 4 * k < p.units_from →
    prologue_word_fits p k (slice_get words k) ≡ true
prologue_word p laid words holds k below =
    let low = laid.low in
    let units = laid.round in
    let back : (CODE_START + 4 * k - CODE_START) / 4 ≡ k = omega arith in
    let round : (CODE_START + 4 * k) % 4 ≡ 0 = omega arith in
    let rule : not (prologue_word_fits p k (slice_get words k)) ≡ false =
    rw (le-leb CODE_START (CODE_START + 4 * k) (omega arith), le-leb (CODE_START + 4 * k + 4) (CODE_START + (p.units_from - CODE_START)) (omega arith), round, back) at (holds (CODE_START + 4 * k)) in
    not_false (prologue_word_fits p k (slice_get words k)) rule
  where
    not_false : (b : Bool) → not b ≡ false → b ≡ true
    not_false true e = refl
    not_false false e = absurd (cc)

link_imm : (o : Option Instr) → is_link o ≡ true → (imm : ℕ) × (o ≡ Some (Jal 1 imm))
link_imm (Some (Jal rd imm)) e = (imm, ap (λ r. Some (Jal r imm)) (eqb-true rd 1 e))
link_imm other e = absurd (cc)

fits_some : (p : Profile) (k : ℕ) (o : Option ℕ) → prologue_word_fits p k o ≡ true → (w : ℕ) × (o ≡ Some w) × (prologue_word_fits p k (Some w) ≡ true)
fits_some p k None e = absurd (cc)
fits_some p k (Some w) e = (w, refl, e)

pub record HasPrologue (p : Profile) (image : Contents) (entry : ℕ) : Type 0 where
  pub is : entry_of p (code_words image.code) ≡ Some entry
  pub reaches : Reaches p.opening_call entry
  pub stands : Stand (loaded image) CODE_START (prologue_instrs p entry)

module _ (p : Profile) (profile : IsProfile p) (image : Contents) (bytes : AreBytes image) (holds : (a : ℕ) → fails_prologue p (code_words image.code) a ≡ false) where
  -- the call is one of the prologue's words
  call_below : CODE_START + 4 * call_word p < p.units_from
  call_below =
      let laid = laid_out p profile in
      let call = laid.call in let end = laid.closing in let low = laid.low in
      omega arith

  call_address : CODE_START + 4 * call_word p ≡ p.opening_call
  call_address =
      let laid = laid_out p profile in
      let call = laid.call in let end = laid.closing in let low = laid.low in let round = laid.round in
      omega arith

  entry_word : (w : ℕ) × (slice_get (code_words image.code) (call_word p) ≡ Some w) × (is_link (decoded w) ≡ true)
  entry_word =
      let f = fits_some p (call_word p) (slice_get (code_words image.code) (call_word p)) (prologue_word p (laid_out p profile) (code_words image.code) holds (call_word p) call_below) in
      let link : is_link (decoded f.0) ≡ true = rw (eq-eqb (call_word p) (call_word p) refl) at f.2 in
      (f.0, f.1, link)

  plain_word : (entry k : ℕ) (i : Instr) → CODE_START + 4 * k < p.units_from → (k ≡ call_word p → ⊥) → slice_get (prologue_instrs p entry) k ≡ Some i →
      slice_get (code_words image.code) k ≡ Some (code_of i)
  plain_word entry k i below other e =
      let f = fits_some p k (slice_get (code_words image.code) k) (prologue_word p (laid_out p profile) (code_words image.code) holds k below) in
      let same : (f.0 == slice_index (prologue_words p) k) ≡ true = rw (ne_eqb k (call_word p) other) at f.2 in
      f.1 ∙ ap Some (eqb-true f.0 (slice_index (prologue_words p) k) same ∙ word_at p (prologue_is p profile) entry k i other e)

  entry_imm : (imm : ℕ) × (decoded entry_word.0 ≡ Some (Jal 1 imm))
  entry_imm = link_imm (decoded entry_word.0) entry_word.2

  entry_small : entry_imm.0 < 2 ^ 20
  entry_small =
      let at = call_word p in
      let w = code_word image.code at entry_word.0 entry_word.1 in let is = w.is in
      let b0 = bytes.code (4 * at) in let b1 = bytes.code (4 * at + 1) in let b2 = bytes.code (4 * at + 1 + 1) in let b3 = bytes.code (4 * at + 1 + 1 + 1) in
      let low : entry_word.0 < 2 ^ 32 = omega arith in
      (decoded-in_range entry_word.0 (Jal 1 entry_imm.0) low entry_imm.1).1

  abbrev the_entry : ℕ
  the_entry = led_to p.opening_call entry_imm.0

  entry_back : jump_offset p.opening_call the_entry ≡ entry_imm.0
  entry_back =
      led_back p.opening_call entry_imm.0 entry_small

  call_stands : (i : Instr) → slice_get (prologue_instrs p the_entry) (call_word p) ≡ Some i → decoded (read 4 (loaded image) (CODE_START + 4 * call_word p)) ≡ Some i
  call_stands i e =
      let here : decoded (read 4 (loaded image) (CODE_START + 4 * call_word p)) ≡ Some (Jal 1 entry_imm.0) = ap decoded (loaded_word image (call_word p) entry_word.0 entry_word.1) ∙ entry_imm.1 in
      here ∙ ap (λ n. Some (Jal 1 n)) (sym entry_back) ∙ sym ((prologue_is p profile).call the_entry) ∙ e

  pub prologue_stands : (entry : ℕ) × HasPrologue p image entry
  prologue_stands =
      let size = (prologue_is p profile).size the_entry in
      let high = (laid_out p profile).high in (
        the_entry,
        record {
          is = rw (entry_word.1, entry_imm.1) refl;
          reaches = ap (λ n. led_to p.opening_call n) entry_back;
          stands = record {
            round = refl;
            low = omega arith;
            high = omega arith;
            words = λ k i e. elim (cases_eq k (call_word p)) [
              | inl call ↦ subst (λ (n : ℕ). decoded (read 4 (loaded image) (CODE_START + 4 * n)) ≡ Some i) (sym call)
                  (call_stands i (ap (slice_get (prologue_instrs p the_entry)) (sym call) ∙ e))
              | inr other ↦
                  let inside : k < length (prologue_instrs p the_entry) = slice_get_within (prologue_instrs p the_entry) k i e in
                  fetched image k i (each_instr (prologue_instrs p the_entry) (prologue_in_range p profile the_entry) k i e)
                  (plain_word the_entry k i (omega arith) other e)
            ];
          };
        },
      )
