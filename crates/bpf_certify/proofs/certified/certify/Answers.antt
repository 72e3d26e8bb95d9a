use Rattle.bpf_certify.proofs.CertifiedLemmas.{refused_inside}
use Rattle.bpf_certify.proofs.certified.certify.Goals as goal

pub returns-in-None-clause-slot : goal.returns-in-None-clause-slot
returns-in-None-clause-slot c = refused_inside c.args.program.now c.args.length c.args.wish c.as_hardened.result c.slots-slots.ensures.valid.some_slot c.as_hardened.ensures.err
