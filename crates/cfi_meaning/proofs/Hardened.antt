-- A hardened program of a request is an image of an accepted choice, at the gates of its map.
use Rattle.std.proofs.Common.{◌≡◌, ℕ, List, [], Option, refl, sym, ap, subst, ◌∙◌, unwrap_or}
use Rattle.cfi_meaning.proofs.Prelude.{Contents, image_version, ProgramAtMap, program_at, IsLegalMap, init_here, chosen, Choice, IsImageOf, HardenedKeepsMeaning, HardenedNeverDiffers, HoldsOf, HoldsOfWritten, KeepsMeaning, NoRunDiffers, HardenedKeepsSteps, HardenedPastFirst, KeepsStep, StandsPastFirst}
use Rattle.cfi_harden.proofs.Ready.{written_accepted}
use Rattle.cfi_meaning.proofs.Kept.{meaning_kept, stands_past_first}
use Rattle.cfi_meaning.proofs.NeverDiffers.{never_differs}
use Rattle.cfi_meaning.proofs.StepKept.{step_kept}

-- what holds of each image of an accepted choice with its data
module _ (Holds : ProgramAtMap → Contents → Type 0)
    (each : (m : Choice) (image : Contents) → IsImageOf m image → image.init ≡ init_here m.layout → Holds m.layout image) where
  at_map : HoldsOfWritten (HoldsOf Holds)
  at_map request p h prepared (s, labels, code, init, placed, room, in_range, written) =
      let m = chosen s labels in
      let image : Contents = record { version = image_version p.form; code = code; init = init } in
      let accepted = written_accepted request p s labels code init h prepared (record { placed = placed; room = room; in_range = in_range }) written in
      record {
        contents = image;
        bytes = written.bytes;
        version = refl;
        image = written.image;
        map = subst (λ (l : ProgramAtMap). IsLegalMap l.program l.closed l.entry h.map) placed.of written.map;
        map_form = written.map_form;
        holds = subst (λ (l : ProgramAtMap). Holds l image)
            (placed.of ∙ ap (λ (gates : List ℕ). program_at p.form p.program p.closed gates p.entry) (sym written.gates))
            (each m image (record { accepted = accepted; bytes = written.bytes; code = written.code_is })
            (sym (ap (λ (o : Option (List ℕ)). unwrap_or o []) written.init_is)));
      }

pub hardened_keeps_meaning : HardenedKeepsMeaning
hardened_keeps_meaning = at_map (λ layout image. (input : List ℕ) → KeepsMeaning layout image input) (λ m image of init input. meaning_kept m image input of init)

pub hardened_keeps_steps : HardenedKeepsSteps
hardened_keeps_steps = at_map KeepsStep (λ m image of init. step_kept m image of)

pub hardened_past_first : HardenedPastFirst
hardened_past_first = at_map (λ layout image. (input : List ℕ) → StandsPastFirst layout input) (λ m image of init input. stands_past_first m image of input init)

pub hardened_never_differs : HardenedNeverDiffers
hardened_never_differs = at_map NoRunDiffers (λ m image of init. never_differs m image of init)
