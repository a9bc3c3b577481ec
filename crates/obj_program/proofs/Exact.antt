-- Where a value leaves its range, and that none does where no place is told.
use Rattle.std.proofs.Common.{◌≡◌, ℕ, ◌<◌, Bool, true, false, Option, Some, None, List, [], ◌∷◌, inl, inr, refl, subst}
use Rattle.std.specs.Prelude.{if◌then◌else◌, is_some, option_map}
use Rattle.std.specs.List.{filter_map, list_all}
use Rattle.std.proofs.lemmas.Bool.{cases_Bool, and_parts}
use Rattle.least.specs.declared.place.Found.{Found}
use Rattle.least.specs.First.{first_below}
use Rattle.least.specs.Nearest.{IsNearest, is_before, nearer, nearest}
use Rattle.least.proofs.Firsts.{first_none, none_first}
use Rattle.least.proofs.Nearests.{nearest_begins, nearest_first}
use Rattle.obj_program.specs.declared.item.DataReloc.{DataReloc}
use Rattle.obj_program.specs.Program.{count, item_of}
use Rattle.obj_program.specs.DataAtMap.{data_at, is_in_range}
use Rattle.obj_program.specs.Range.{found_at, found_item, first_instr, first_reloc, is_astray, out_of_range, place_found, reloc_astray}
use Rattle.obj_program.specs.Laws.{NoneOutOfRange}

-- of two findings there is none
none_of_both : (a b : Option (Found (Unit {0}))) → option_map place_found (nearer place_found a b) ≡ None → (a ≡ None) × (b ≡ None)
none_of_both None None e = (refl, refl)
none_of_both None (Some b) e = absurd (cc)
none_of_both (Some a) None e = absurd (cc)
none_of_both (Some a) (Some b) e = elim (cases_Bool (is_before (place_found b) (place_found a))) [
  | inl before ↦ let wrong : Some (place_found b) ≡ None = rw before at e in absurd (cc)
  | inr behind ↦ let wrong : Some (place_found a) ≡ None = rw behind at e in absurd (cc)
]

none_found : (items : ℕ → Found (Unit {0})) (o : Option ℕ) → option_map items o ≡ None → o ≡ None
none_found items None e = refl
none_found items (Some k) e = absurd (cc)

-- no relocation is out of range
all_in_range : (gates : List ℕ) (rs : List DataReloc) → filter_map (reloc_astray gates) rs ≡ [] → list_all (is_in_range gates) rs ≡ true
all_in_range gates [] e = refl
all_in_range gates (r ∷ rs) e = elim (cases_Bool (is_in_range gates r)) [
  | inl taken ↦
      let rest : filter_map (reloc_astray gates) rs ≡ [] = rw taken at e in
      rw taken (all_in_range gates rs rest)
  | inr refused ↦ let wrong : found_at r.section r.at ∷ filter_map (reloc_astray gates) rs ≡ [] = rw refused at e in absurd (cc)
]

none_astray : (gates : List ℕ) (rs : List DataReloc) → list_all (is_in_range gates) rs ≡ true → filter_map (reloc_astray gates) rs ≡ []
none_astray gates [] e = refl
none_astray gates (r ∷ rs) e =
    let parts = and_parts (is_in_range gates r) (list_all (is_in_range gates) rs) e in
    rw parts.0 (none_astray gates rs parts.1)

empty_if_none : (xs : List (Found (Unit {0}))) → nearest place_found xs ≡ None → xs ≡ []
empty_if_none xs e = subst (λ o. IsNearest place_found xs o) e (nearest_first place_found xs)

some_data : (b : Bool) (bytes : List ℕ) → is_some (if b then Some bytes else None) ≡ true → b ≡ true
some_data true bytes e = refl
some_data false bytes e = absurd (cc)

pub none_out_of_range : NoneOutOfRange
unfolding out_of_range data_at
none_out_of_range program gates words = (forth, back)
  where
    forth : out_of_range program gates words ≡ None
        → ((k : ℕ) → k < count program → is_astray program gates words k ≡ false) × (is_some (data_at program gates) ≡ true)
    forth e =
        let both = none_of_both (first_instr program gates words) (first_reloc program gates) e in
        let first = none_found (λ k. found_item (item_of program k)) (first_below (is_astray program gates words) (count program)) both.0 in
        let all = all_in_range gates program.relocations (empty_if_none (filter_map (reloc_astray gates) program.relocations) both.1) in
        (λ k below. first_none (is_astray program gates words) (count program) k first below, rw all refl)

    back : ((k : ℕ) → k < count program → is_astray program gates words k ≡ false) × (is_some (data_at program gates) ≡ true)
        → out_of_range program gates words ≡ None
    back (instrs, some) =
        let all : list_all (is_in_range gates) program.relocations ≡ true = some_data _ _ some in
        rw (none_first (is_astray program gates words) (count program) instrs, none_astray gates program.relocations all, nearest_begins place_found) refl
