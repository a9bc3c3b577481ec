-- The eleven rules of a well-formed pair of an image and a graph, and the first that fails. Each rule
-- but Length is a test of an address: whether the rule fails there.
use Rattle.std.specs.Prelude.{◌≡◌, ◌≢◌, ℕ, ◌+◌, ◌-◌, ◌*◌, ◌/◌, ◌%◌, ◌<◌, ◌==◌, nat_lt, nat_le, ◌&&◌, ◌||◌, not, Bool, true, false, List, length, map, slice_get, slice_index, Option, Some, None, is_some, option_and_then, if◌then◌else◌}
use Rattle.std.specs.List.{list_any}
use Rattle.rv_image.specs.declared.version.GraphVersion.{GraphVersion}
use Rattle.rv_image.specs.MemoryMap.{CODE_START, Profile, lies_within, profile_under}
use Rattle.rv_image.specs.Image.{Contents}
use Rattle.rv_word.specs.Numbers.{are_same}
use Rattle.rv_instr.specs.declared.instr.Instr.{Instr}
use Rattle.rv_instr.specs.declared.instr.Instr.TheVariants.{Jal}
use Rattle.rv_code.specs.Decode.{decoded}
use Rattle.rv_code.specs.Encode.{code_of}
use Rattle.cfi_graph.specs.declared.line.GraphLine.{GraphLine}
use Rattle.cfi_graph.specs.declared.line.GraphLine.TheVariants.{Leaf, Site, Edge, Call}
use Rattle.cfi_graph.specs.declared.line.SiteKind.{SiteKind}
use Rattle.cfi_graph.specs.declared.line.SiteKind.TheVariants as K
use Rattle.cfi_graph.specs.Graph.{GraphParts, calls_in, class_in, has_leaves}
use Rattle.cfi_unit.specs.declared.unit.Unit as U
use Rattle.cfi_unit.specs.declared.unit.Unit.TheVariants as V
use Rattle.cfi_unit.specs.declared.unit.SystemOp.TheVariants as S
use Rattle.cfi_unit.specs.declared.place.Place.{Place}
use Rattle.cfi_unit.specs.declared.place.Place.TheVariants.{Opening as opening, Body as body}
use Rattle.cfi_unit.specs.declared.target_word.TargetWord.{TargetWord}
use Rattle.cfi_unit.specs.declared.target_word.TargetWord.TheVariants.{First, Second, Third}
use Rattle.cfi_unit.specs.Flow as F
use Rattle.cfi_unit.specs.Flow.{Act, Exit, Sites, Test, flow_of}
use Rattle.cfi_unit.specs.Prologue.{prologue_instrs}
use Rattle.cfi_unit.specs.UnitWords.{after_unit}
use Rattle.cfi_pending.specs.Kinds as kinds
use Rattle.cfi_pending.specs.Kinds.{goes_on, is_enter, is_fresh, is_right_behind, leaf_of, may_be_called, may_be_reached, stands_by}
use Rattle.cfi_pending.specs.StartLaw.{stands_in}
use Rattle.cfi_rules.specs.Lines.{holds_of, leaves_in, line_at, class_with, targets_for, is_among, is_beside, jump_word, read_of}
use Rattle.cfi_rules.specs.Split.{code_words, unit_words, unit_starts, is_start, unit_at, place_at}
use Rattle.cfi_rules.specs.declared.asks.Asks.{Asks}
use Rattle.cfi_rules.specs.declared.reject.Reject.{Reject}
use Rattle.cfi_rules.specs.declared.reject.Reject.TheVariants.{Length, At}
use Rattle.cfi_rules.specs.declared.reject.Rule.{Rule}
use Rattle.cfi_rules.specs.declared.reject.Rule.TheVariants as R

-- a direct target
abbrev pub target_by : Exit → Option ℕ
target_by (F.either op rs1 rs2 met target) = Some target
target_by (F.to target) = Some target
target_by other = None

-- it is a call's where the unit leaves the address after it as a site, and else an edge's
abbrev pub edge_by : Sites → Exit → Option ℕ
edge_by F.pushes exit = None
edge_by F.links exit = None
edge_by other exit = target_by exit

abbrev pub call_by : Sites → Exit → Option ℕ
call_by F.pushes exit = target_by exit
call_by F.links exit = target_by exit
call_by other exit = None

-- where a branch or a jump leads
abbrev pub edge_of : Place → Option ℕ
edge_of (body unit) = edge_by (flow_of unit).sites (flow_of unit).exit
edge_of other = None

-- where the opening or a call leads
abbrev pub call_of : Place → Option ℕ
call_of (opening entry) = Some entry
call_of (body unit) = call_by (flow_of unit).sites (flow_of unit).exit
call_of other = None

-- what a computed transfer asks for: its kind, which word of its destination its check reads, the label
abbrev pub asks : SiteKind → TargetWord → ℕ → Asks
asks kind which label = record { kind = kind; which = which; label = label }

abbrev pub kind_by : Sites → SiteKind
kind_by F.pushes = K.Call
kind_by F.links = K.Call
kind_by other = K.Jump

abbrev pub asked_by : Test → Sites → Option Asks
asked_by (F.borne which rs1 imm label) sites = Some (asks (kind_by sites) which label)
asked_by other sites = None

abbrev pub site_of : Place → Option Asks
site_of (body unit) = asked_by (flow_of unit).test (flow_of unit).sites
site_of other = None

abbrev pub same_kind : SiteKind → SiteKind → Bool
same_kind K.Call K.Call = true
same_kind K.Jump K.Jump = true
same_kind other another = false

-- the line is an edge, a call or a site, to this target or with the kind and the label that is asked for
abbrev pub is_edge_to : Option GraphLine → ℕ → Bool
is_edge_to (Some (Edge from to)) target = to == target
is_edge_to other target = false

abbrev pub is_call_to : Option GraphLine → ℕ → Bool
is_call_to (Some (Call from to)) target = to == target
is_call_to other target = false

abbrev pub is_site_with : Option GraphLine → Asks → Bool
is_site_with (Some (Site address kind label)) asked = same_kind kind asked.kind && (label == asked.label)
is_site_with other asked = false

-- the label of a gate
abbrev pub gate_of : U.Unit → Option ℕ
gate_of (V.Gate label) = Some label
gate_of other = None

abbrev pub is_label : Option ℕ → ℕ → Bool
is_label None label = false
is_label (Some l) label = l == label

abbrev pub halts_by : Exit → Bool
halts_by (F.halts stop) = true
halts_by other = false

abbrev pub is_stop : U.Unit → Bool
is_stop unit = halts_by (flow_of unit).exit

-- the instruction is `jal x1`
abbrev pub is_link : Option Instr → Bool
is_link (Some (Jal rd imm)) = rd == 1
is_link other = false

-- a word is the one that stands at an index of some words, but for one index, where any `jal x1` may be
abbrev pub fits_table : List ℕ → ℕ → ℕ → Option ℕ → Bool
fits_table table call k None = false
fits_table table call k (Some word) = if k == call then is_link (decoded word) else word == slice_index table k

-- the prologue's words; the opening's call may be any `jal x1`
abbrev pub prologue_words : Profile → List ℕ
prologue_words p = map code_of (prologue_instrs p 0)

abbrev pub prologue_word_fits : Profile → ℕ → Option ℕ → Bool
prologue_word_fits p k word = fits_table (prologue_words p) ((p.opening_call - CODE_START) / 4) k word

-- Prologue: a word of the prologue's place is missing or is not the prologue's
abbrev pub fails_prologue : Profile → List ℕ → ℕ → Bool
fails_prologue p words a =
    lies_within CODE_START (p.units_from - CODE_START) a 4 && (a % 4 == 0)
    && not (prologue_word_fits p ((a - CODE_START) / 4) (slice_get words ((a - CODE_START) / 4)))

abbrev pub same_word : TargetWord → TargetWord → Bool
same_word First First = true
same_word Second Second = true
same_word Third Third = true
same_word which other = false

-- a check before a jump reads that word; one that leaves a site is a call's
abbrev pub test_is_of_version : GraphVersion → Test → Sites → Bool
test_is_of_version version test F.pushes = true
test_is_of_version version test F.links = true
test_is_of_version version (F.borne which rs1 imm label) sites = same_word which (jump_word version)
test_is_of_version version other sites = true

-- under a graph of version 3 stand units whose callees save sites, and under others those whose callers do
abbrev pub is_of_version : GraphVersion → U.Unit → Bool
is_of_version version unit = stands_in (has_leaves version) unit && test_is_of_version version (flow_of unit).test (flow_of unit).sites

-- with a list of system calls each `ecall` is guarded by just its numbers; without a list none is
abbrev pub act_may_call : Option (List ℕ) → Test → Act → Bool
act_may_call None test F.calls = false
act_may_call (Some calls) test (F.system S.Ecall) = false
act_may_call (Some calls) (F.listed numbers) F.calls = are_same numbers calls
act_may_call (Some calls) test F.calls = false
act_may_call calls test other = true

abbrev pub may_call : Option (List ℕ) → U.Unit → Bool
may_call calls unit = act_may_call calls (flow_of unit).test (flow_of unit).act

-- code whose graph has this version and this list, or no list, may have a unit
abbrev pub admits : GraphVersion → Option (List ℕ) → U.Unit → Bool
admits version calls unit = is_of_version version unit && may_call calls unit

abbrev pub admitted_in : GraphParts → U.Unit → Bool
admitted_in graph unit = admits graph.version (calls_in graph.lines) unit

-- a unit may stand where the graph admits it, and in a leaf only where it leaves x1 alone and calls nothing
abbrev pub may_stand_at : GraphParts → ℕ → U.Unit → Bool
may_stand_at graph a unit = admitted_in graph unit && stands_by (leaf_of (leaves_in graph.lines) a) unit

-- Unit: the split ends here, before the code does, or the unit here may not stand here
abbrev pub fails_unit : Profile → List ℕ → GraphParts → ℕ → Bool
fails_unit p words graph a =
    ((a == p.units_from + 4 * length (unit_starts p words))
    && nat_lt (length (unit_starts p words)) (length (unit_words p words)))
    || holds_of (unit_at p words a) (λ unit. not (may_stand_at graph a unit))

-- Leaf: a leaf does not begin at a unit's start, or does not end at one or at the code's end; or a unit goes on to one of another kind
abbrev pub lacks_end : Profile → List ℕ → ℕ → GraphLine → Bool
lacks_end p words a (Leaf from to) =
    (from == a) && not (is_start p words from && (is_start p words to || (to == CODE_START + 4 * length words)))
lacks_end p words a other = false

abbrev pub goes_wrong : Profile → List ℕ → List kinds.Leaf → ℕ → U.Unit → Bool
goes_wrong p words leaves a unit = goes_on unit && not (is_right_behind (unit_at p words) leaves (leaf_of leaves a) a unit)

abbrev pub fails_leaf : Profile → List ℕ → List GraphLine → ℕ → Bool
fails_leaf p words lines a =
    list_any (lacks_end p words a) lines || holds_of (unit_at p words a) (goes_wrong p words (leaves_in lines) a)

-- Target: a direct transfer leads to no unit's start, or to one of another kind. Where callees save sites a call leads to what saves its
-- site, or to a leaf
abbrev pub may_go : Profile → List ℕ → List kinds.Leaf → ℕ → ℕ → Bool
may_go p words leaves a target = is_start p words target && may_be_reached (unit_at p words) leaves (leaf_of leaves a) target

abbrev pub may_call_to : Bool → Profile → List ℕ → List kinds.Leaf → ℕ → ℕ → Bool
may_call_to true p words leaves a target = is_start p words target && may_be_called (unit_at p words) leaves target
may_call_to false p words leaves a target = may_go p words leaves a target

abbrev pub fails_target : Profile → List ℕ → List GraphLine → ℕ → Bool
fails_target p words lines a =
    let place = place_at p words a in
    holds_of (option_and_then edge_of place) (λ target. not (may_go p words (leaves_in lines) a target))
    || holds_of (option_and_then call_of place) (λ target. not (may_call_to p.callee_saves p words (leaves_in lines) a target))

-- Unlisted: a direct transfer has no line with its start and target
abbrev pub fails_unlisted : Profile → List ℕ → List GraphLine → ℕ → Bool
fails_unlisted p words lines a =
    let place = place_at p words a in
    holds_of (option_and_then edge_of place) (λ target. not (is_edge_to (line_at lines a) target))
    || holds_of (option_and_then call_of place) (λ target. not (is_call_to (line_at lines a) target))

-- Unused: an edge or call line stands where no such transfer does
abbrev pub is_unused : Option Place → GraphLine → Bool
is_unused place (Edge from to) = not (is_some (option_and_then edge_of place))
is_unused place (Call from to) = not (is_some (option_and_then call_of place))
is_unused place other = false

abbrev pub fails_unused : Profile → List ℕ → List GraphLine → ℕ → Bool
fails_unused p words lines a = holds_of (line_at lines a) (is_unused (place_at p words a))

-- Site: a computed transfer has no site line of its kind and label, or no class with its label serves
-- it; or a site line stands where no computed transfer does
abbrev pub is_lone_site : Option Place → GraphLine → Bool
is_lone_site place (Site address kind label) = not (is_some (option_and_then site_of place))
is_lone_site place other = false

abbrev pub fails_site : Profile → List ℕ → List GraphLine → ℕ → Bool
fails_site p words lines a =
    let place = place_at p words a in
    holds_of (option_and_then site_of place) (λ asked. not (is_site_with (line_at lines a) asked && is_some (targets_for lines asked.kind asked.which asked.label)))
    || holds_of (line_at lines a) (is_lone_site place)

-- Gate: a class has this target, and the target's word that is to bear the class's label is no gate of
-- this label. A first word is one of a saved start, a second one stands behind a unit's start, a third one directly
-- before what saves a site
pub record Signs : Type 0 where
  -- a unit starts at an address
  pub starts : ℕ → Bool
  -- the label of the gate there
  pub gate : ℕ → Option ℕ
  -- its start is fresh
  pub fresh : ℕ → Bool
  -- what stands there saves a site
  pub enters : ℕ → Bool

abbrev pub signs_in : Profile → List ℕ → List kinds.Leaf → Signs
signs_in p words leaves = record {
  starts = λ a. is_some (unit_at p words a);
  gate = λ a. option_and_then gate_of (unit_at p words a);
  fresh = is_fresh (unit_at p words) leaves;
  enters = λ a. is_enter (unit_at p words a);
}

abbrev pub is_borne : Signs → TargetWord → ℕ → ℕ → Bool
is_borne signs First a label = is_label (signs.gate a) label && not (signs.fresh a)
is_borne signs Second a label = signs.starts a && is_label (signs.gate (a + 4)) label
is_borne signs Third a label = is_label (signs.gate (a + 8)) label && signs.enters (a + 12)

abbrev pub lacks_gate : GraphVersion → Signs → ℕ → GraphLine → Bool
lacks_gate version signs a line =
    holds_of (class_in line) (λ class. is_among a class.targets && not (is_borne signs (read_of version class.sort) a class.label))

abbrev pub fails_gate : Profile → List ℕ → GraphParts → ℕ → Bool
fails_gate p words graph a = list_any (lacks_gate graph.version (signs_in p words (leaves_in graph.lines)) a) graph.lines

-- Astray: a gate bears a class's label and is not such a word of one of its targets
abbrev pub is_astray : GraphParts → ℕ → U.Unit → Bool
is_astray graph a (V.Gate label) = holds_of (class_with graph.lines label) (λ class. is_beside graph.version class a)
is_astray graph a other = false

abbrev pub fails_astray : Profile → List ℕ → GraphParts → ℕ → Bool
fails_astray p words graph a = holds_of (unit_at p words a) (is_astray graph a)

-- End: the unit that ends the code is not a stop, or there is no unit
abbrev pub is_bad_end : List ℕ → ℕ → U.Unit → Bool
is_bad_end words a unit = (after_unit unit a == CODE_START + 4 * length words) && not (is_stop unit)

abbrev pub fails_end : Profile → List ℕ → ℕ → Bool
fails_end p words a =
    holds_of (unit_at p words a) (is_bad_end words a)
    || ((a == p.units_from) && nat_le (CODE_START + 4 * length words) p.units_from)

abbrev pub fails : Rule → Profile → List ℕ → GraphParts → ℕ → Bool
fails R.Prologue p words graph a = fails_prologue p words a
fails R.Unit p words graph a = fails_unit p words graph a
fails R.Leaf p words graph a = fails_leaf p words graph.lines a
fails R.Target p words graph a = fails_target p words graph.lines a
fails R.Unlisted p words graph a = fails_unlisted p words graph.lines a
fails R.Unused p words graph a = fails_unused p words graph.lines a
fails R.Site p words graph a = fails_site p words graph.lines a
fails R.Gate p words graph a = fails_gate p words graph a
fails R.Astray p words graph a = fails_astray p words graph a
fails R.End p words graph a = fails_end p words a

-- the order in which the rules are asked
abbrev pub order : Rule → ℕ
order R.Prologue = 0
order R.Unit = 1
order R.Leaf = 2
order R.Target = 3
order R.Unlisted = 4
order R.Unused = 5
order R.Site = 6
order R.Gate = 7
order R.Astray = 8
order R.End = 9

-- a rule fails nowhere
abbrev pub Holds : Profile → List ℕ → GraphParts → Rule → Type 0
Holds p words graph rule = (a : ℕ) → fails rule p words graph a ≡ false

-- this rule is the first that fails, and this is the least address at which it does
pub record IsFirst (p : Profile) (words : List ℕ) (graph : GraphParts) (rule : Rule) (a : ℕ) : Type 0 where
  pub here : fails rule p words graph a ≡ true
  pub rules_before : (earlier : Rule) → order earlier < order rule → Holds p words graph earlier
  pub addresses_before : (b : ℕ) → b < a → fails rule p words graph b ≡ false

-- the profile of a pair: where its parts stand goes by both versions
abbrev pub pair_profile : Contents → GraphParts → Profile
pair_profile image graph = profile_under graph.version image.version

-- no rule fails, and the profile is one of graphs of this version
pub record IsWellFormed (p : Profile) (image : Contents) (graph : GraphParts) : Type 0 where
  pub saves : p.callee_saves ≡ has_leaves graph.version
  pub same_length : graph.code ≡ length image.code
  pub rules : (rule : Rule) → Holds p (code_words image.code) graph rule

-- why a pair is rejected
abbrev pub IsRejected : Profile → Contents → GraphParts → Reject → Type 0
IsRejected p image graph (Length code given) = (code ≡ length image.code) × (given ≡ graph.code) × (code ≢ given)
IsRejected p image graph (At rule a) = (graph.code ≡ length image.code) × IsFirst p (code_words image.code) graph rule a
