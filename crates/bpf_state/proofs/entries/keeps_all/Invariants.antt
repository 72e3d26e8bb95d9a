use Rattle.std.proofs.Common.{◌≡◌, take, true}
use Rattle.std.specs.List.{list_all}
use Rattle.bpf_state.specs.code.Entries.{keeps}
use Rattle.bpf_state.proofs.entries.keeps_all.Given as goal

abbrev pub invariant-loop-entry : goal.invariant-loop-entry
invariant-loop-entry l = list_all (keeps l.state) (take l.entry-index l.entries) ≡ true
