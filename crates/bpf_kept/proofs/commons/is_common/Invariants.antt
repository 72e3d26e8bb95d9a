use Rattle.std.proofs.Common.{◌≡◌, true}
use Rattle.std.specs.Prelude.{not, ◌||◌}
use Rattle.bpf_kept.specs.Terms.{is_noted}
use Rattle.bpf_kept.specs.Slots.{each_slot, misses}
use Rattle.bpf_kept.proofs.commons.is_common.Given as goal

-- the slots so far
abbrev pub invariant-loop-n : goal.invariant-loop-n
invariant-loop-n l = each_slot (λ n. not (is_noted l.known.apart.now n) || misses l.known.left l.count l.old.base l.old.off l.new.base l.new.off n) l.n ≡ true
