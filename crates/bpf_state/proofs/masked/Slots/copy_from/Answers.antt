use Rattle.std.proofs.Common.{refl}
use Rattle.bpf_state.proofs.CoverLemmas.{blank_copied}
use Rattle.bpf_state.proofs.MaskedLemmas.{all_copied}
use Rattle.bpf_state.proofs.masked.Slots.copy_from.Goals as goal

pub returns : goal.returns
returns c =
    let l = c.loop-i in
    all_copied l.i _ _ _ _ _ l.invariant.masks l.invariant.whole_count c.loop-i-test.false l.invariant.same c.other.view_is c.other.invariant

pub returns-then-is_blank : goal.returns-then-is_blank
returns-then-is_blank c = blank_copied _ _ _ _ _ c.copy_from_slice.ensures.after c.self.invariant.whole_count c.other.view_is c.other.invariant (c.if-is_blank.ensures refl)
