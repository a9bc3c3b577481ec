-- An object that has no use of the table of addresses has no slot there, and no section but those of its file.
use Rattle.std.proofs.Common.{◌≡◌, ℕ, zero, suc, ◌*◌, ◌/◌, ◌<◌, ◌≤◌, ◌==◌, ◌&&◌, false, if◌then◌else◌, List, [], ◌∷◌, length, map, inl, inr, refl, sym, ap, subst, ◌∙◌, arith}
use Rattle.std.specs.Prelude.{filter, fold}
use Rattle.std.proofs.lemmas.Bool.{cases_Bool, cases_lt}
use Rattle.std.proofs.lemmas.List.{get_or_past}
use Rattle.std.proofs.lemmas.List.Elements.{filter-append}
use Rattle.obj_items.proofs.Prelude.{joined, Reloc, e_shnum, relocation_bytes, relocation_count, relocation_in, Dropped, is_table_high, kind_of, is_code_sort, listed, SectionSaid, UseSaid, is_table_use, slots, table_of, table_symbols_at, table_symbols_in, with_symbol, said_of, section_said_in, sections_said, sort_of, use_said_at}
use Rattle.obj_join.proofs.Listing.{length-listed, listed_at}
use Rattle.obj_items.proofs.Behind.{numbers, table}

-- the relocations of a section by their index
abbrev pub reloc_at : List ℕ → ℕ → ℕ → Reloc
reloc_at bytes k j = relocation_in (relocation_bytes bytes k) j

abbrev pub reloc_count : List ℕ → ℕ → ℕ
reloc_count bytes k = relocation_count (relocation_bytes bytes k)

abbrev no_said : SectionSaid
no_said = record { sort = Dropped; size = 0; align = 0; content = []; uses = [] }

none_joined : {A : Type 0} (parts : ℕ → List A) → ((k : ℕ) → parts k ≡ []) → (n : ℕ) → joined parts n ≡ []
unfolding joined
none_joined parts none zero = refl
none_joined parts none (suc n) = rw (none_joined parts none n, none n) refl

pub record HasPlainUses (bytes : List ℕ) : Type 0 where
  pub plain : (k j : ℕ) → k < e_shnum bytes → j < reloc_count bytes k → is_table_high (kind_of (reloc_at bytes k j).kind) ≡ false

module _ (resolve : ℕ → ℕ) (bytes : List ℕ) (has : HasPlainUses bytes) where
  none_used : (k w n : ℕ) → k < e_shnum bytes → n ≤ reloc_count bytes k → filter (λ u. is_table_use u && u.offset == 4 * w) (listed (use_said_at bytes k) n) ≡ []
  unfolding listed
  none_used k w zero below most = refl
  none_used k w (suc n) below most =
      let plain = has.plain k n below (omega arith) in
      filter-append (λ (u : UseSaid). is_table_use u && u.offset == 4 * w) (listed (use_said_at bytes k) n) (use_said_at bytes k n ∷ [])
      ∙ rw (none_used k w n below (omega arith), plain) refl

  none_at : (k : ℕ) → table_symbols_in resolve (sections_said bytes) k ≡ []
  none_at k = elim (cases_lt k (e_shnum bytes)) [
    | inl below ↦
        rw (listed_at (section_said_in bytes) (e_shnum bytes) k no_said below)
        (elim (cases_Bool (is_code_sort (sort_of bytes k))) [
          | inl code ↦
              rw code
              (none_joined (table_symbols_at resolve (section_said_in bytes k))
              (λ w. ap (map (λ (u : UseSaid). resolve u.symbol)) (none_used k w (reloc_count bytes k) below (omega arith))) ((section_said_in bytes k).size / 4))
          | inr other ↦ rw other refl
        ])
    | inr past ↦
        let count = length-listed (section_said_in bytes) (e_shnum bytes) in
        subst (λ (s : SectionSaid). (if is_code_sort s.sort then joined (table_symbols_at resolve s) (s.size / 4) else []) ≡ [])
        (sym (get_or_past (sections_said bytes) k no_said (omega arith))) refl
  ]

  none_slotted : slots resolve (sections_said bytes) ≡ []
  unfolding slots
  none_slotted = ap (fold with_symbol []) (none_joined (table_symbols_in resolve (sections_said bytes)) none_at (length (sections_said bytes)))

pub none_behind : (bytes : List ℕ) → HasPlainUses bytes → table bytes ≡ []
unfolding said_of
none_behind bytes has = ap (λ (xs : List ℕ). table_of (numbers bytes) (said_of bytes) (length xs)) (none_slotted (numbers bytes) bytes has)
