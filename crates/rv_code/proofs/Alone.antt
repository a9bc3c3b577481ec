-- The run of one hart alone takes its first step, and then is the run from there.
use Rattle.std.proofs.Common.{◌≡◌, List, [], ◌∷◌, refl, sym, ap, ◌∙◌}
use Rattle.rv_image.specs.MemoryMap.{Profile}
use Rattle.rv_code.specs.Run.{ByteChange, RunAfter, alone, disturbed_step, next_or_stop, run, run_alone, seen_by, stepped}
use Rattle.rv_code.specs.State.{Hart, Harts, Shared, After}
use Rattle.rv_code.specs.declared.turn.Turn.{Turn}
use Rattle.rv_code.specs.declared.turn.Turn.TheVariants.{Ran, Exit, Break, LoadFault, StoreFault, FetchFault, Illegal}

seen_next : (turn : Turn) (now later : RunAfter) → seen_by 0 (next_or_stop turn now later) ≡ next_or_stop turn (seen_by 0 now) (seen_by 0 later)
seen_next Ran now later = refl
seen_next (Exit status) now later = refl
seen_next (Break pc) now later = refl
seen_next (LoadFault pc a) now later = refl
seen_next (StoreFault pc a) now later = refl
seen_next (FetchFault pc) now later = refl
seen_next (Illegal pc) now later = refl

-- where hart 0 alone steps, the others are as if they were not there
pub first_alone : (p : Profile) (harts : Harts) (s : Shared) (changes : List (List ByteChange)) →
    seen_by 0 (run p harts s (alone changes)) ≡ run_alone p (harts 0) s changes
unfolding run
first_alone p harts s [] = refl
first_alone p harts s (cs ∷ rest) =
    let now = stepped p harts s (record { hart = 0; changes = cs }) in
    let lone = stepped p (λ k. harts 0) s (record { hart = 0; changes = cs }) in
    seen_next now.turn now (run p now.harts now.shared (alone rest))
    ∙ ap (λ (x : After). next_or_stop now.turn (seen_by 0 now) x) (first_alone p now.harts now.shared rest ∙ sym (first_alone p lone.harts lone.shared rest))
    ∙ sym (seen_next lone.turn lone (run p lone.harts lone.shared (alone rest)))

pub alone_next : (p : Profile) (h : Hart) (s : Shared) (cs : List ByteChange) (rest : List (List ByteChange)) →
    let after = disturbed_step p h s cs in
    run_alone p h s (cs ∷ rest) ≡ next_or_stop after.turn after (run_alone p after.hart after.shared rest)
unfolding run
alone_next p h s cs rest =
    let now = stepped p (λ k. h) s (record { hart = 0; changes = cs }) in
    seen_next now.turn now (run p now.harts now.shared (alone rest))
    ∙ ap (λ (x : After). next_or_stop now.turn (seen_by 0 now) x) (first_alone p now.harts now.shared rest)
