use Rattle.std.proofs.Common.{ℕ, ◌+◌, ◌*◌, ◌∙◌, ap, length, subst, sym}
use Rattle.cfi_compare.proofs.Prelude.{image_profile, graph_version, Profile, GraphVersion, Calls, Parts, ProgramAtMap, Source, source_start, entry_words_by, last_words, most_words_by, undisturbed, source_of, IsAnswered}
use Rattle.cfi_compare.proofs.Deciding.{compared_tame, compared_untame, from_same}
use Rattle.cfi_compare.proofs.comparing.compare.Goals as goal

pub returns-in-Untame-clause-compared : goal.returns-in-Untame-clause-compared
returns-in-Untame-clause-compared c =
    compared_untame (image_profile c.args.image.now) c.args.source.now.layout (source_of c.args.source.now) c.args.image.now c.args.input.now c.args.limit c.in-Untame.because c.in-Untame.section c.in-Untame.offset
    (sym c.in-Untame.is ∙ c.in_ok-turn.ensures.finished.turn_is)

pub returns-in-Untame-clause-from_start : goal.returns-in-Untame-clause-from_start
returns-in-Untame-clause-from_start c = λ begun.
    from_same (image_profile c.args.image.now) c.args.source.now.layout (source_of c.args.source.now) (source_start c.args.source.now.layout c.args.input.now) c.args.image.now c.args.input.now c.args.limit
    _ begun (returns-in-Untame-clause-compared c)

pub returns-in_ok-answer-in_default : goal.returns-in_ok-answer-in_default
returns-in_ok-answer-in_default c =
    let finished = c.in_ok-turn.ensures.finished in
    let calls = ap (λ (m : Parts). m.calls.events) c.processor.ensures in
    let events = c.events-events.ensures ∙ ap (λ (x : Calls). x.events) c.system.ensures ∙ calls ∙ ap (λ (st : Source). st.shared.events) finished.state in
    let p = image_profile c.args.image.now in
    let profile = sym (ap (λ (x : ProgramAtMap). x.profile) finished.layout) ∙ c.form.ensures.profile in
    let version = sym (ap (λ (x : ProgramAtMap). x.closed.version) finished.layout) ∙ c.form.ensures.version in
    let sides = c.sides.ensures.value ∙ ap (λ (x : ProgramAtMap). length x.closed.sides) finished.layout in
    let steps : Profile → GraphVersion → ℕ → ℕ = λ q v n. most_words_by v n * c.steps.result + (last_words q + entry_words_by v) in
    let most = c.most_steps-most.ensures
    ∙ ap (λ (q : Profile). steps q (graph_version c.form.result) c.sides.result) (sym profile)
    ∙ ap (λ (v : GraphVersion). steps c.args.source.now.layout.profile v c.sides.result) (sym version)
    ∙ ap (λ (n : ℕ). steps c.args.source.now.layout.profile c.args.source.now.layout.closed.version n) sides in
    let answered = subst (λ (n : ℕ). IsAnswered c.events-events.result.now c.in_ok-turn.turn (undisturbed p c.args.image.now c.args.input.now n) c.in_ok-answer-in_default.answer)
    most c.in_ok-answer-in_default.ensures in
    let is = compared_tame (image_profile c.args.image.now) c.args.source.now.layout (source_of c.args.source.now) c.args.image.now c.args.input.now c.args.limit c.in_ok-turn.turn c.events-events.result.now c.steps.result c.in_ok-answer-in_default.answer
    finished.turn_is c.in_default.not-Untame events (c.steps.ensures ∙ finished.steps) answered in
    record {
      compared = is;
      from_start = λ begun. from_same (image_profile c.args.image.now) c.args.source.now.layout (source_of c.args.source.now) (source_start c.args.source.now.layout c.args.input.now) c.args.image.now c.args.input.now
          c.args.limit _ begun is;
      own = c.in_ok-turn.ensures.own;
    }
