use Rattle.std.proofs.Common.{◌≡◌}
use Rattle.bpf_semantics.specs.State.{start}
use Rattle.bpf_semantics.specs.Run.{Steps}
use Rattle.bpf_follows.proofs.exit.exit_slot.Given as goal

abbrev pub invariant-steps : goal.invariant-steps
invariant-steps g l = record {
  program : l.machine.program ≡ g.C.Code.program l.code;
  made : Steps (g.C.Code.program l.code) l.done (start l.context) l.machine.state;
}
