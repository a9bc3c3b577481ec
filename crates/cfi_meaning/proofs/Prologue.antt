-- What is written meets the rules, so its prologue stands.
use Rattle.std.proofs.Common.{◌≡◌, ℕ, Bool, inl, inr, length, refl, sym, ap, subst, ◌∙◌}
use Rattle.std.proofs.lemmas.Option.{same_Some}
use Rattle.cfi_meaning.proofs.Prelude.{Contents, loaded, IsProfile, Profile, GraphParts, graph_lines, Reaches, EntryFits, HasPrologue, IsWellFormed, entry_of, Choice, entry_arrival, IsImageOf}
use Rattle.rv_image.proofs.Profiles.{full_saves, lean_saves}
use Rattle.cfi_unit.proofs.PrologueUnits.{PrologueStands, prologue_stands}
use Rattle.cfi_rules.proofs.Bytes.{loaded_small}
use Rattle.cfi_rules.proofs.Labels.{call_fits}
use Rattle.cfi_rules.proofs.Places.{prologue}
use Rattle.cfi_writer.proofs.WholeCode.{written_entry, written_well_formed}
use Rattle.cfi_meaning.specs.PlaceLaws as law

module _ (m : Choice) (image : Contents) (of : IsImageOf m image) where
  -- the graph that is written
  abbrev pub written_graph : GraphParts
  written_graph = record { version = m.layout.closed.version; code = length image.code; lines = graph_lines m.layout m.labels }

  pub formed : IsWellFormed m.layout.profile image written_graph
  formed = written_well_formed m image written_graph of.accepted of.code refl refl refl

-- the opening's call fits, whoever saves its site
entry_fits : (p : Profile) → IsProfile p → (entry : ℕ) → Reaches p.opening_call entry → EntryFits p.callee_saves p entry
entry_fits p (inl full) entry reaches = subst (λ (callee : Bool). EntryFits callee p entry) (sym (full_saves p full)) (call_fits p full entry reaches)
entry_fits p (inr lean) entry reaches = subst (λ (callee : Bool). EntryFits callee p entry) (sym (lean_saves p lean)) reaches

pub written_prologue : law.WrittenPrologue
written_prologue m image of =
    let p = m.layout.profile in
    let is = of.accepted.profile in
    let found = prologue p is image (written_graph m image of) of.bytes (formed m image of) in
    let same : found.0 ≡ entry_arrival m =
    same_Some found.0 (entry_arrival m) (sym found.1.is ∙ ap (entry_of p) of.code ∙ written_entry m of.accepted) in
    let stands : PrologueStands p (loaded image) found.0 = prologue_stands p is (loaded image) found.0 found.1.stands in
    subst (λ (entry : ℕ). HasPrologue p image entry) same (record {
      is = is;
      bytes = loaded_small image of.bytes;
      fits = entry_fits p is found.0 found.1.reaches;
      opening = stands.opening;
      closing = stands.closing;
    })
