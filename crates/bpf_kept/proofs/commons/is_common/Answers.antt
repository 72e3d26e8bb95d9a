use Rattle.std.proofs.Common.{◌≡◌, arith, sym, ap, ◌∙◌}
use Rattle.std.specs.Prelude.{not, ◌||◌}
use Rattle.bpf_kept.specs.Terms.{is_noted, frame_slots}
use Rattle.bpf_kept.specs.Slots.{each_slot, misses}
use Rattle.bpf_kept.specs.Rules.{is_common}
use Rattle.bpf_kept.proofs.SlotLemmas.{one_slot, not_each}
use Rattle.bpf_kept.proofs.commons.is_common.Goals as goal

pub returns-then-not-spares : goal.returns-then-not-spares
unfolding is_common
returns-then-not-spares c = sym (not_each (λ n. not (is_noted c.args.known.now.apart.now n) || misses c.args.known.now.left c.args.count c.args.old.base c.args.old.off c.args.new.base c.args.new.off n) c.loop-n.n frame_slots (omega arith) (sym c.spares.ensures ∙ c.if-not-spares.true))

pub loop-n-preserved : goal.loop-n-preserved
loop-n-preserved c = one_slot (λ n. not (is_noted c.args.known.now.apart.now n) || misses c.args.known.now.left c.args.count c.args.old.base c.args.old.off c.args.new.base c.args.new.off n) c.loop-n.n c.loop-n.invariant (sym c.spares.ensures ∙ c.if-not-spares.false)

pub returns : goal.returns
unfolding is_common
returns c = let all : frame_slots ≡ c.loop-n.n = omega arith in sym (ap (each_slot (λ n. not (is_noted c.args.known.now.apart.now n) || misses c.args.known.now.left c.args.count c.args.old.base c.args.old.off c.args.new.base c.args.new.off n)) all ∙ c.loop-n.invariant)
