use Rattle.std.proofs.Common.{◌≡◌, true, refl, sym, subst}
use Rattle.std.specs.List.{list_all}
use Rattle.bpf_cert.specs.Limits as limits
use Rattle.bpf_cert.proofs.limits.has_limited_slots.Goals as goal

pub returns-then-knows_no_slot : goal.returns-then-knows_no_slot
returns-then-knows_no_slot c = subst (λ ss. true ≡ list_all limits.is_limited_slot ss) (sym (c.if-knows_no_slot.ensures.0 refl)) refl
