use Rattle.std.proofs.Common.{◌≡◌, map, take}
use Rattle.std.specs.List.{filter}
use Rattle.bpf_text.specs.code.Endings.{completes, ending_seen}
use Rattle.bpf_text.proofs.endings.all_completing.Given as goal

abbrev pub invariant-loop-ending : goal.invariant-loop-ending
invariant-loop-ending l = map ending_seen l.found.items ≡ filter (λ e. completes l.fault l.front e.1) (map ending_seen (take l.ending-index l.endings))
