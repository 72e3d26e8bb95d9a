use Rattle.std.proofs.Common.{◌≡◌, ℕ, ◌<◌, Some}
use Rattle.bpf_insn.specs.Instruction.{insn_in}
use Rattle.bpf_insn.specs.Image.{HasTarget}
use Rattle.bpf_insn.specs.declared.instruction.Insn.{Insn}
use Rattle.bpf_insn.proofs.layout.first_without_target.Given as goal

abbrev pub invariant-loop-slot : goal.invariant-loop-slot
invariant-loop-slot g l =
    let cells = g.L.Layout.cells l.layout in
    (s : ℕ) (i : Insn) → s < l.slot → insn_in cells s ≡ Some i → HasTarget cells s i
