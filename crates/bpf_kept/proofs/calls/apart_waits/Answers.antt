use Rattle.std.proofs.Common.{◌≡◌, ◌+◌, ◌*◌, arith, sym, ap, ◌∙◌}
use Rattle.std.specs.Prelude.{not, nat_le, ◌||◌}
use Rattle.bpf_kept.specs.Terms.{is_noted, frame_slots}
use Rattle.bpf_kept.specs.Slots.{each_slot}
use Rattle.bpf_kept.proofs.SlotLemmas.{one_slot, not_each}
use Rattle.bpf_kept.proofs.calls.apart_waits.Goals as goal

pub returns-then-not-slot_waits : goal.returns-then-not-slot_waits
returns-then-not-slot_waits c = sym (not_each (λ n. not (is_noted c.args.known.now.apart.now n) || nat_le (8 * n + 8) c.args.known.now.left) c.loop-n.n frame_slots (omega arith) (sym c.slot_waits.ensures ∙ c.if-not-slot_waits.true))

pub loop-n-preserved : goal.loop-n-preserved
loop-n-preserved c = one_slot (λ n. not (is_noted c.args.known.now.apart.now n) || nat_le (8 * n + 8) c.args.known.now.left) c.loop-n.n c.loop-n.invariant (sym c.slot_waits.ensures ∙ c.if-not-slot_waits.false)

pub returns : goal.returns
returns c = let all : frame_slots ≡ c.loop-n.n = omega arith in sym (ap (each_slot (λ n. not (is_noted c.args.known.now.apart.now n) || nat_le (8 * n + 8) c.args.known.now.left)) all ∙ c.loop-n.invariant)
