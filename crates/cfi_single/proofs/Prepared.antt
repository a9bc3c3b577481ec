-- One program with one closed graph and one entry is right for a request.
use Rattle.std.proofs.Common.{◌≡◌, ℕ, List, Option, Some, sym, ap, subst, ◌∙◌}
use Rattle.std.proofs.lemmas.Option.{same_Some}
use Rattle.cfi_single.proofs.Prelude.{GraphVersion, graph_version, Form, Program, ClosedGraph, IsClosed, entry_place, RawGraph, IsClosedUnder, policy_asked, PreparedInOneWay}
use Rattle.cfi_single.proofs.Graphs.{closed_unique, raw_unique}

-- the closed graph of a program, for a version of graphs, under the text of a policy
pub closed_under_unique : (version : GraphVersion) (program : Program) (policy : Option (List ℕ)) (c d : ClosedGraph) → IsClosedUnder version program policy c
    → IsClosedUnder version program policy d → c ≡ d
closed_under_unique version program policy c d hc hd =
    let (r, is_r, of_r) = hc.drawn in
    let (s, is_s, of_s) = hd.drawn in
    let same : r ≡ s = raw_unique program (policy_asked policy) r s is_r is_s in
    closed_unique version r c d of_r (subst (λ (raw : RawGraph). IsClosed version raw d) (sym same) of_s)

entry_unique : (program : Program) (name : List ℕ) (a b : ℕ) → entry_place program name ≡ Some a
    → entry_place program name ≡ Some b → a ≡ b
entry_unique program name a b ea eb = same_Some a b (sym ea ∙ eb)

-- what a request comes to before anything is placed
pub prepared_unique : PreparedInOneWay
prepared_unique request p q hp hq =
    let program : p.program ≡ q.program = hp.program ∙ sym hq.program in
    let enters : entry_place p.program request.entry ≡ Some q.entry =
    ap (λ (x : Program). entry_place x request.entry) program ∙ hq.entry in
    let entry : p.entry ≡ q.entry = entry_unique p.program request.entry p.entry q.entry hp.entry enters in
    let form : p.form ≡ q.form = hp.form ∙ sym hq.form in
    let version = graph_version p.form in
    let here : IsClosedUnder version q.program request.policy q.closed =
    subst (λ (f : Form). IsClosedUnder (graph_version f) q.program request.policy q.closed) (sym form) hq.closed in
    let under : IsClosedUnder version p.program request.policy q.closed =
    subst (λ (x : Program). IsClosedUnder version x request.policy q.closed) (sym program) here in
    let closed : p.closed ≡ q.closed = closed_under_unique version p.program request.policy p.closed q.closed hp.closed under in
    λ i. record { form = form i; program = program i; closed = closed i; entry = entry i }
