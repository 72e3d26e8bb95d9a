use Rattle.std.proofs.Common.{◌≡◌, arith, sym, ap, ◌∙◌}
use Rattle.bpf_kept.specs.Terms.{frame_slots}
use Rattle.bpf_kept.specs.Slots.{each_slot}
use Rattle.bpf_kept.specs.Behind.{is_told, are_told}
use Rattle.bpf_kept.specs.Knowns.{known_of}
use Rattle.bpf_kept.proofs.SlotLemmas.{one_slot, not_each}
use Rattle.bpf_kept.proofs.behind.are_told.Goals as goal

pub returns-then-not-is_told : goal.returns-then-not-is_told
unfolding are_told
returns-then-not-is_told c = sym (not_each (is_told (known_of c.args.known.now) c.args.change c.args.apart.now) c.loop-n.n frame_slots (omega arith) (sym c.is_told.ensures ∙ c.if-not-is_told.true))

pub loop-n-preserved : goal.loop-n-preserved
loop-n-preserved c = one_slot (is_told (known_of c.args.known.now) c.args.change c.args.apart.now) c.loop-n.n c.loop-n.invariant (sym c.is_told.ensures ∙ c.if-not-is_told.false)

pub returns : goal.returns
unfolding are_told
returns c = let all : frame_slots ≡ c.loop-n.n = omega arith in sym (ap (each_slot (is_told (known_of c.args.known.now) c.args.change c.args.apart.now)) all ∙ c.loop-n.invariant)
