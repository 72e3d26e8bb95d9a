use Rattle.std.proofs.Common.{◌≡◌, ◌-◌, true, take}
use Rattle.std.specs.Prelude.{is_none}
use Rattle.std.specs.List.{list_all}
use Rattle.bpf_cert.proofs.limits.has_no_slot_tag.Given as goal

abbrev pub invariant-loop-k : goal.invariant-loop-k
invariant-loop-k l = list_all is_none (take (l.k - 1) l.state.slot_tags) ≡ true
