-- What the answer of the verifier says when it does not accept.
use Rattle.rv_image.specs.MemoryMap.{Profile}
use Rattle.rv_image.specs.Image.{Contents}
use Rattle.cfi_graph.specs.Graph.{GraphParts}
use Rattle.cfi_rules.specs.declared.reject.Reject.{Reject}
use Rattle.cfi_rules.specs.Rules.{IsRejected}
use Rattle.rv_word.specs.declared.end.End.{End}
use Rattle.rv_word.specs.declared.end.End.TheVariants.{Fault, NoMemory}

-- a reject names the first rule that fails; of want of memory nothing is said
abbrev pub IsCause : Profile → Contents → GraphParts → End Reject → Type 0
IsCause p image graph (Fault reject) = IsRejected p image graph reject
IsCause p image graph NoMemory = Unit {0}
