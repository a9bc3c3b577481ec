-- A request that is prepared is ready to be written, and what its writing comes to is what the request comes to.
use Rattle.std.proofs.Common.{ℕ, ◌^◌, ◌<◌, ◌≤◌, List, Result, Ok, Err, arith, refl, subst, sym}
use Rattle.std.specs.Prelude.{sum}
use Rattle.rv_image.proofs.Profiles.{is_form_profile, laid_out}
use Rattle.cfi_harden.proofs.Prelude.{graph_version, image_version, profile_for, CODE_SIZE, End, Fault, NoMemory, FitsMaps, count, item_of, IsSound, Refusal, IsFitting, RefusesPlaced, AreGiven, HardenedParts, chosen, IsWrittenOf, WrittenIsAccepted, ProgramAtMap, entered_in, words_from, Spaced, whole_size, whole_sizes, IsPreparedOf, PreparedParts, entered_of, HardensPrepared, HardensProgram, RefusesProgram, ProgramRequest, IsReady, IsWritable, IsWrittenAs}
use Rattle.refusals.specs.declared.refusal.Refusal.TheVariants as R
use Rattle.cfi_map.proofs.Values.{data_there}
use Rattle.cfi_harden.proofs.Accepting.{accepted, accepted_here, calls_there, graph_there, here, none_astray}
use Rattle.cfi_harden.proofs.EntryThere.{entry_there}
use Rattle.cfi_writer.proofs.MapFits.{accepted_map}

pub ready : (request : ProgramRequest) (p : PreparedParts) → IsPreparedOf request p → IsSound p.program → FitsMaps p.program →
    ((k : ℕ) → k < count p.program → (item_of p.program k).word < 2 ^ 32) → IsReady p
ready request p prepared sound fits small = record {
  sound = sound;
  words = small;
  fits_maps = fits;
  graph = (graph_there (graph_version p.form) p.program request.policy p.closed prepared.closed).0;
  calls = calls_there (graph_version p.form) p.program request.policy p.closed prepared.closed;
  version = (graph_there (graph_version p.form) p.program request.policy p.closed prepared.closed).1;
  entered = (entry_there p.program request.entry p.entry prepared.entry).0;
}

-- what is written of a prepared request is an accepted choice
pub written_accepted : WrittenIsAccepted
written_accepted request p s labels code init h prepared fitting written =
    let of = fitting.placed.of in
    let is = ready request p prepared (subst (λ (l : ProgramAtMap). IsSound l.program) of fitting.placed.placed.sound)
    (subst (λ (l : ProgramAtMap). FitsMaps l.program) of written.fits_maps)
    (subst (λ (l : ProgramAtMap). (k : ℕ) → k < count l.program → (item_of l.program k).word < 2 ^ 32) of written.words) in
    accepted p is s fitting labels (subst (λ (l : ProgramAtMap). AreGiven l.program l.closed labels) of written.labelled)

pub writable : (p : PreparedParts) (s : Spaced) (labels : List ℕ) → IsReady p → IsFitting p s → AreGiven p.program p.closed labels → IsWritable p.form s labels
writable p s labels ready fitting given =
    let ok = accepted_here p ready s fitting labels given in
    subst (λ (l : ProgramAtMap). IsWritable p.form (record { layout = l; whole = s.whole }) labels) (sym fitting.placed.of) (record {
      form_is = refl;
      version_is = ready.version;
      accepted = ok;
      fits_maps = ready.fits_maps;
      fits = accepted_map p.form (chosen (here p ready s fitting labels given) labels) ok refl (λ k below. let near = ready.fits_maps.fits k below in (near.section, near.whole, near.near));
      init_there = data_there p.program s.layout.gates (words_from (entered_of p) 0 s.layout.gates) (none_astray p ready s fitting labels given);
      room = fitting.room.init;
    })

-- the parts of a placement that fits have room behind the prologue
pub room_behind : (p : PreparedParts) (s : Spaced) → IsFitting p s → sum (whole_sizes (entered_of p)) < CODE_SIZE
room_behind p s fitting =
    let laid = laid_out (profile_for p.form) (is_form_profile p.form) in
    let room = subst (λ (l : ProgramAtMap). whole_size p.form (entered_in l) ≤ CODE_SIZE) fitting.placed.of fitting.placed.placed.room in
    omega (arith, laid.low, room)

pub written_of : (p : PreparedParts) (s : Spaced) (labels : List ℕ) (h : HardenedParts) → IsFitting p s → IsWrittenAs p.form s labels h → IsWrittenOf p h
written_of p s labels h fitting (code, init, written) = (s, labels, code, init, fitting.placed, fitting.room, fitting.in_range, written)

late : (request : ProgramRequest) (p : PreparedParts) (refusal : Refusal) → IsPreparedOf request p → RefusesPlaced p refusal → RefusesProgram request refusal
late request p (R.CodeTooLarge bytes) prepared refuses = (p, prepared, refuses)
late request p (R.DataTooLarge init end) prepared refuses = (p, prepared, refuses)
late request p (R.RelocRange section offset) prepared refuses = (p, prepared, refuses)
late request p other prepared refuses = absurd refuses

pub hardens : (request : ProgramRequest) (p : PreparedParts) (result : Result HardenedParts (End Refusal)) → IsPreparedOf request p → HardensPrepared p result
    → HardensProgram request result
hardens request p (Ok h) prepared writes = (p, prepared, writes)
hardens request p (Err (Fault refusal)) prepared writes = late request p refusal prepared writes
hardens request p (Err NoMemory) prepared writes = tt
