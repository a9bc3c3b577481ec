use Rattle.std.proofs.Common.{◌≡◌, ◌∙◌, ap, sym, subst, IfOk, Some}
use Rattle.std.proofs.lemmas.Result.{IfOk-weaker}
use Rattle.src_machine.proofs.Prelude.{image_version, profile_for, Profile, profile_of, ImageVersion, IsSameMachine, words_at, Source, StateParts, source_in}
use Rattle.rv_code.proofs.FormMachine.{form_machine}
use Rattle.cfi_map.proofs.Values.{data_there}
use Rattle.src_machine.proofs.Beginnings.{started}
use Rattle.src_machine.proofs.begin.start.Goals as goal

pub data-requires : goal.data-requires
data-requires c = data_there _ _ (words_at c.args.placed.now) c.requires.range

pub returns-clause-state : goal.returns-clause-state
returns-clause-state c =
    subst (λ (start : Source). IfOk c.new.result (λ st. source_in st ≡ start))
    (started c.args.placed.now c.args.input.now c.deref.result.now (profile_for c.form.result).closing c.entry.result
    (ap (λ (p : Profile). p.closing) (sym c.form.ensures.profile)) c.entry.ensures
    (c.in_ok-init.ensures.value ∙ ap Some (sym c.deref.ensures.value)))
    c.new.ensures.state

pub returns-clause-version : goal.returns-clause-version
returns-clause-version c =
    IfOk-weaker c.new.result (λ (st : StateParts). st.processor.memory.version ≡ image_version c.form.result)
    (λ (st : StateParts). IsSameMachine (profile_of st.processor.memory.version) c.args.placed.now.profile)
    (λ st is. ap (λ (v : ImageVersion). (profile_of v).shadow_size) is ∙ form_machine c.form.result ∙ ap (λ (p : Profile). p.shadow_size) (sym c.form.ensures.profile)) c.new.ensures.version
