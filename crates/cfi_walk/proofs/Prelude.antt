-- The definitions that proofs of this crate cite, which they import from here.
pub use Rattle.rv_image.specs.Image.{Contents, IsImageSize}
pub use Rattle.rv_image.specs.MemoryMap.{CODE_START, IsProfile, Profile, lean_profile_of, profile_of, profile_under}
pub use Rattle.rv_image.specs.declared.version.GraphVersion.{GraphVersion}
pub use Rattle.rv_image.specs.declared.version.GraphVersion.TheVariants.{CalleeSaves, OneLabel, TwoLabels}
pub use Rattle.cfi_graph.specs.Graph.{GraphParts}
pub use Rattle.cfi_graph.specs.declared.line.GraphLine.{GraphLine}
pub use Rattle.cfi_graph.specs.declared.line.SiteKind.{SiteKind}
pub use Rattle.cfi_unit.specs.Flow.{Exit, Flow, flow_of}
pub use Rattle.cfi_unit.specs.Prologue.{OPENING}
unfoldable pub use Rattle.cfi_unit.specs.Recognise.{recognised}
pub use Rattle.cfi_unit.specs.UnitWords.{BAD_RETURN, BAD_TARGET, DEEP, after_unit}
pub use Rattle.cfi_unit.specs.declared.place.Place.{Place}
pub use Rattle.cfi_unit.specs.declared.target_word.TargetWord.{TargetWord}
pub use Rattle.cfi_unit.specs.declared.target_word.TargetWord.TheVariants.{First, Third}
pub use Rattle.cfi_rules.specs.Along.{IsSafe}
pub use Rattle.cfi_rules.specs.Lines.{holds_of, is_among}
unfoldable pub use Rattle.cfi_rules.specs.Lines.{leaves_in, targets_for}
pub use Rattle.cfi_rules.specs.Rules.{IsWellFormed, asked_by, pair_profile}
pub use Rattle.cfi_rules.specs.Split.{entry_of, is_handler}
unfoldable pub use Rattle.cfi_rules.specs.Split.{code_words, is_start, place_at, unit_at}
pub use Rattle.cfi_rules.specs.Walk.{CallGoes, ComputedCallGoes, ComputedLinkGoes, ExitGoes, FlowGoes, Goes, InClass, JumpGoes, LeafGoes, LinkGoes, OpeningGoes, ReturnGoes, SaveGoes, To}
pub use Rattle.cfi_rules.specs.Walks.{AreSteps, IsGraphWalk, IsStep, IsWalked, WalkState, walk_start}
pub use Rattle.cfi_walk.specs.Laws.{AreSites, StepIsUnique, StepKeepsSites}
pub use Rattle.cfi_walk.specs.Trail.{LeadTo, StopAt}
