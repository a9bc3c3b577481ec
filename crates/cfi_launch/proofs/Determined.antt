-- What texts come to that spell a pair and a script is determined by them: no fault, and a run where the pair meets the rules.
use Rattle.std.proofs.Common.{◌≡◌, ◌∙◌, ◌⊎◌, inl, inr, ℕ, ◌≤◌, ◌<◌, List, Option, Result, Ok, Err, sym, ap, subst, arith}
use Rattle.rv_image.specs.declared.version.ImageVersion.{ImageVersion}
use Rattle.rv_image.specs.declared.version.ImageVersion.TheVariants.{OneHart}
use Rattle.rv_image.specs.Image.{Contents, image_profile}
use Rattle.rv_image.specs.MemoryMap.{MayRun, profile_of}
use Rattle.elf_image.specs.Fault.{version_in}
use Rattle.cfi_graph.specs.Graph.{GraphParts}
use Rattle.cfi_rules.specs.Rules.{IsWellFormed, pair_profile}
use Rattle.cfi_script.specs.Script.{ScriptParts}
use Rattle.cfi_pair.specs.Spelled.{Spell}
use Rattle.cfi_pair.specs.declared.opening.PairFault.TheVariants.{Graph, Image}
use Rattle.cfi_pair.proofs.Determined.{graph_read, no_fault, none_rejected, own}
use Rattle.cfi_pair.proofs.OneImage.{version_told}
use Rattle.cfi_launch.specs.Launch.{HasRun, IsLaunchEnd, IsLaunchFault, IsLaunchOf, script_given}
use Rattle.rv_word.specs.declared.end.End.{End}
use Rattle.rv_word.specs.declared.end.End.TheVariants.{Fault, NoMemory}
use Rattle.cfi_launch.specs.declared.launching.LaunchFault.{LaunchFault}
use Rattle.cfi_launch.specs.declared.launching.LaunchFault.TheVariants.{Pair, Script, Harts}
use Rattle.cfi_launch.specs.declared.launching.Launched.{Launched}
use Rattle.cfi_launch.specs.declared.launching.Launched.TheVariants.{Rejected, Ran}

module _ (image_bytes graph_bytes : List ℕ) (image : Contents) (graph : GraphParts) (spell : Spell image_bytes graph_bytes image graph) where
  -- an image that a text tells to be of version 1 may have one hart
  pub few_harts : (harts : ℕ) → MayRun (image_profile image) harts → version_in image_bytes ≡ OneHart → 1 < harts → ⊥
  few_harts harts may first more =
      let same : image.version ≡ OneHart = sym (version_told image_bytes image (own image_bytes graph_bytes image graph spell)) ∙ first in
      let most : harts ≤ (profile_of OneHart).harts = subst (λ (v : ImageVersion). harts ≤ (profile_of v).harts) same may.most in
      omega (arith, most, more)

  module _ (script : Option (List ℕ)) (read : ScriptParts) (given : script_given script ≡ Ok read) (may : MayRun (image_profile image) read.harts) where
    pub no_launch_fault : (fault : LaunchFault) → IsLaunchFault image_bytes graph_bytes script fault → ⊥
    no_launch_fault (Pair (Image refusal)) is = let none = no_fault image_bytes graph_bytes image graph spell in cc (is, none)
    no_launch_fault (Pair (Graph line reason)) is =
        let wrong = is.1 in
        let right = graph_read image_bytes graph_bytes image graph spell in
        cc (wrong, right)
    no_launch_fault (Script line reason) is = let wrong = is.1 in cc (wrong, given)
    no_launch_fault (Harts count) is =
        let (pair, (other, again, counted), more, first) = is in
        let same : other ≡ read = cc (again, given) in
        let harts : read.harts ≡ count = sym (ap (λ (s : ScriptParts). s.harts) same) ∙ counted in
        few_harts count (subst (λ (n : ℕ). MayRun (image_profile image) n) harts may) first more

    pub no_run : (end : End LaunchFault) (result : Result Launched (End LaunchFault)) → IsLaunchEnd image_bytes graph_bytes script end → result ≡ Err end
        → HasRun result ⊎ (result ≡ Err NoMemory)
    no_run NoMemory result has is = inr is
    no_run (Fault fault) result has is = absurd (no_launch_fault fault has)

    pub run_there : (well : IsWellFormed (pair_profile image graph) image graph) (input : List ℕ) (limit : ℕ) (launched : Launched)
        → IsLaunchOf image_bytes graph_bytes script input limit launched → HasRun (Ok launched) ⊎ (◌≡◌ {A = Result Launched (End LaunchFault)} (Ok launched) (Err NoMemory))
    run_there well input limit (Ran version report) is = inl tt
    run_there well input limit (Rejected reject) is =
        let (other, lines, made, spelled, second, allowed, rejected) = is in
        absurd (none_rejected image_bytes graph_bytes image graph spell well other lines reject spelled rejected)
