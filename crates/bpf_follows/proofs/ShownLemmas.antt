-- What notes that match show of runs within bounds.
use Rattle.std.proofs.Common.{◌<◌, ◌^◌, arith}
use Rattle.bpf_insn.specs.Image.{IsProgram}
use Rattle.bpf_insn.specs.Instruction.{Instructions}
use Rattle.bpf_kept.specs.Matching.{Notes, StandsForExit}
use Rattle.bpf_kept.specs.declared.bounds.Bounds.{Bounds}
use Rattle.bpf_kept.specs.Meaning.{KeepsFlatMeaning}
use Rattle.bpf_kept.specs.Laws.{FlatMeaningIsFar, FlatMeaningIsExact}
use Rattle.bpf_kept.specs.Shown.{KeepsRuns}

pub kept : FlatMeaningIsFar → FlatMeaningIsExact → (old new : Instructions) (notes : Notes) (bounds : Bounds) → IsProgram old.list → bounds.length < 2 ^ 32 → KeepsFlatMeaning old new bounds (StandsForExit old notes) → KeepsRuns old new notes bounds
kept far exact old new notes bounds valid short flat = record {
  flat = flat;
  far = far old new notes bounds valid (omega arith) flat;
  exact = λ few. exact old new notes bounds valid (omega arith) few flat;
}
