use Rattle.bpf_safety.proofs.laws.certified_is_flat_safe.Goals as goal

pub returns : goal.returns
returns c p certificate program limits certified = c.program_is_flat_safe.ensures p certificate.least certificate.most program
