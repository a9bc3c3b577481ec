-- The units of the split, and the prologue, stand in the loaded image.
use Rattle.std.proofs.Common.{◌≡◌, ℕ, zero, suc, ◌+◌, ◌-◌, ◌*◌, ◌/◌, List, [], ◌∷◌, length, drop, take, refl, sym, ap, ◌∙◌, Some, arith}
use Rattle.std.specs.Prelude.{slice_get, option_map}
use Rattle.std.proofs.lemmas.List.{length-map}
use Rattle.std.proofs.lemmas.Option.{slice_get-map}
use Rattle.rv_image.specs.Image.{Contents, loaded}
use Rattle.rv_image.specs.MemoryMap.{CODE_START, Profile}
use Rattle.rv_image.proofs.Profiles.{LaidOut}
use Rattle.rv_word.specs.Memory.{read}
use Rattle.rv_instr.specs.InRange.{IsInstr}
use Rattle.rv_instr.specs.declared.instr.Instr.{Instr}
use Rattle.rv_code.specs.Decode.{decoded}
use Rattle.rv_code.specs.Encode.{code_of}
use Rattle.rv_code.proofs.ReadBack.{decoded-code_of}
use Rattle.cfi_unit.specs.declared.unit.Unit as U
use Rattle.cfi_unit.specs.Stand.{Stand}
use Rattle.cfi_unit.specs.UnitWords.{instrs_of, words_of, word_count}
use Rattle.cfi_unit.proofs.UnitInList.{words_counted}
use Rattle.cfi_rules.specs.Split.{code_words}
use Rattle.cfi_rules.specs.Laws.{AreBytes}
use Rattle.cfi_rules.proofs.Bytes.{loaded_word, length-code_words}
use Rattle.cfi_rules.proofs.Find.{UnitHere}
use Rattle.cfi_rules.proofs.InRange.{each_instr, unit_instrs}

-- a member of a part of a list is one of the list
pub get_taken : {A : Type 0} (n : ℕ) (xs : List A) (k : ℕ) (x : A) → slice_get (take n xs) k ≡ Some x → slice_get xs k ≡ Some x
get_taken zero xs k x e = absurd (cc)
get_taken (suc n) [] k x e = absurd (cc)
get_taken (suc n) (y ∷ ys) zero x e = e
get_taken (suc n) (y ∷ ys) (suc k) x e = get_taken n ys k x e

pub get_dropped : {A : Type 0} (n : ℕ) (xs : List A) (k : ℕ) → slice_get (drop n xs) k ≡ slice_get xs (n + k)
get_dropped zero xs k = ap (slice_get xs) (let z : k ≡ 0 + k = omega arith in z)
get_dropped (suc n) [] k = refl
get_dropped (suc n) (y ∷ ys) k = get_dropped n ys k ∙ ap (slice_get (y ∷ ys)) (let z : suc (n + k) ≡ suc n + k = omega arith in z)

-- a unit has as many instructions as words
pub instrs_counted : (u : U.Unit) (at : ℕ) → length (instrs_of u at) ≡ word_count u
unfolding words_of
instrs_counted u at = sym (length-map (instrs_of u at) code_of) ∙ words_counted u at

module _ (image : Contents) where
  -- a code word that is an instruction's is fetched as it
  pub fetched : (j : ℕ) (i : Instr) → IsInstr i → slice_get (code_words image.code) j ≡ Some (code_of i) →
      decoded (read 4 (loaded image) (CODE_START + 4 * j)) ≡ Some i
  fetched j i range e = ap decoded (loaded_word image j (code_of i) e) ∙ decoded-code_of i range

module _ (p : Profile) (laid : LaidOut p) (image : Contents) where
  unit_word : (a : ℕ) (u : U.Unit) → UnitHere p (code_words image.code) a u → (k : ℕ) (i : Instr) → slice_get (instrs_of u a) k ≡ Some i →
      slice_get (code_words image.code) ((a - CODE_START) / 4 + k) ≡ Some (code_of i)
  unfolding words_of
  unit_word a u here k i e =
      let b = here.begins in
      let word : slice_get (words_of u a) k ≡ Some (code_of i) = slice_get-map code_of (instrs_of u a) k ∙ ap (option_map code_of) e in
      sym (get_dropped ((a - CODE_START) / 4) (code_words image.code) k)
      ∙ get_taken (word_count u) (drop ((a - CODE_START) / 4) (code_words image.code)) k (code_of i) (ap (λ ws. slice_get ws k) b.words_are ∙ word)

  -- the unit at an address stands there
  pub unit_stands : AreBytes image → (a : ℕ) (u : U.Unit) → UnitHere p (code_words image.code) a u → Stand (loaded image) a (instrs_of u a)
  unit_stands bytes a u here =
      let low = here.low in let round = here.round in let high = here.high in
      let counted = instrs_counted u a in
      let whole = length-code_words image.code bytes.size.words in
      let most = bytes.size.most in
      record {
        round = round;
        low = omega arith;
        high = omega arith;
        words = λ k i e.
            let at : CODE_START + 4 * ((a - CODE_START) / 4 + k) ≡ a + 4 * k = omega arith in
            ap (λ b. decoded (read 4 (loaded image) b)) (sym at)
            ∙ fetched image ((a - CODE_START) / 4 + k) i (each_instr (instrs_of u a) (unit_instrs u a here.begins.fits) k i e) (unit_word a u here k i e);
      }
