use Rattle.std.proofs.Common.{◌≡◌, ◌+◌, ◌*◌, true}
use Rattle.std.specs.Prelude.{not, nat_le, ◌||◌}
use Rattle.bpf_kept.specs.Terms.{is_noted}
use Rattle.bpf_kept.specs.Slots.{each_slot}
use Rattle.bpf_kept.proofs.calls.apart_waits.Given as goal

-- the slots so far
abbrev pub invariant-loop-n : goal.invariant-loop-n
invariant-loop-n l = each_slot (λ n. not (is_noted l.known.apart.now n) || nat_le (8 * n + 8) l.known.left) l.n ≡ true
