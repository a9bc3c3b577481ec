-- A write that changed nothing.
use Rattle.std.proofs.Common.{◌≡◌, ◌≢◌, ◌↔◌, ℕ, List, [], None, inl, inr, sym, subst}
use Rattle.std.specs.Str.{bytes_eq}
use Rattle.std.proofs.lemmas.Bool.{cases_Bool}
use Rattle.std.proofs.lemmas.Bool.Decides.{not_from_Decides}
use Rattle.std.proofs.lemmas.Slice.Eq.{bytes_eq-Decides}
use Rattle.tool_io.specs.declared.files.Files.{Ghosts}
use Rattle.tool_common.specs.Writes.{Wrote}

-- a write that changed nothing left each file as it was
pub unwritten : {S : Type 0} (files : Ghosts S) (a b : S) (name : List ℕ) → files.content b name ≡ files.content a name
    → (files.is_absent b name ↔ files.is_absent a name)
    → ((other : List ℕ) → other ≢ name → files.content b other ≡ files.content a other)
    → ((other : List ℕ) → other ≢ name → files.is_absent b other ↔ files.is_absent a other)
    → Wrote files a b [] None
unwritten files a b name same absent others other_absence = record {
  whole = tt;
  kept = λ other one told. elim (cases_Bool (bytes_eq other name)) [
    | inl equal ↦ subst (λ (n : List ℕ). files.content b n ≡ files.content a n) (sym ((bytes_eq-Decides other name).0 equal)) same
    | inr apart ↦ others other (not_from_Decides (bytes_eq other name) (bytes_eq-Decides other name) apart)
  ];
  absence_kept = λ other one told. elim (cases_Bool (bytes_eq other name)) [
    | inl equal ↦ subst (λ (n : List ℕ). files.is_absent b n ↔ files.is_absent a n) (sym ((bytes_eq-Decides other name).0 equal)) absent
    | inr apart ↦ other_absence other (not_from_Decides (bytes_eq other name) (bytes_eq-Decides other name) apart)
  ];
}
