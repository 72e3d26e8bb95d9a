use Rattle.std.proofs.Common.{◌≡◌, map, take, false}
use Rattle.std.specs.List.{list_any}
use Rattle.bpf_text.specs.code.Endings.{completes}
use Rattle.bpf_text.proofs.endings.any_completes.Given as goal

abbrev pub invariant-loop-ending : goal.invariant-loop-ending
invariant-loop-ending l = list_any (completes l.fault l.front) (map (λ e. e.1.now) (take l.ending-index l.endings)) ≡ false
