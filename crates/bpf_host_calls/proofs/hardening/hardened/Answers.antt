use Rattle.std.proofs.Common.{refl, nat_eq, subst}
use Rattle.bpf_host_calls.specs.Hardened.{IsKeptBy, bounds_asked}
use Rattle.bpf_host_calls.proofs.FollowedLemmas.{hardened_as}
use Rattle.bpf_host_calls.proofs.hardening.hardened.Goals as goal

pub returns-in-Some-clause-ok : goal.returns-in-Some-clause-ok
returns-in-Some-clause-ok c =
    let given = c.args.given in
    let asked = c.args.asked in
    let read = c.in-Ok.ensures in
    let made = c.in-Ok-of_hardening.made.program in
    hardened_as given.order given.image.now (bounds_asked asked) (nat_eq asked.unproved 1) c.in-Ok.program made c.in-Some.bytes.items read.ok.0 read.ok.1 read.program c.in-Some.ensures.program c.in-Some.ensures.bytes (λ e. subst (IsKeptBy c.in-Ok.program made) c.bounds_asked-runs.ensures (c.in-Ok-shown.ensures.ok refl e))
