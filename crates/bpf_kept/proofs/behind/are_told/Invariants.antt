use Rattle.std.proofs.Common.{◌≡◌, true}
use Rattle.bpf_kept.specs.Slots.{each_slot}
use Rattle.bpf_kept.specs.Behind.{is_told}
use Rattle.bpf_kept.specs.Knowns.{known_of}
use Rattle.bpf_kept.proofs.behind.are_told.Given as goal

-- the slots so far
abbrev pub invariant-loop-n : goal.invariant-loop-n
invariant-loop-n l = each_slot (is_told (known_of l.known) l.change l.apart) l.n ≡ true
