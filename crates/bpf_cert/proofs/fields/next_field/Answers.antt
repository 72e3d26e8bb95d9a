use Rattle.std.proofs.Common.{sym, refl}
use Rattle.bpf_cert.proofs.CutLemmas.{cut_some, cut_no}
use Rattle.bpf_cert.proofs.fields.next_field.Goals as goal

pub returns-in-Some-cut : goal.returns-in-Some-cut
returns-in-Some-cut c = rw (c.in-Some.is, cut_some 32 c.in-Some.text.now (c.in-Some-cut.field.now, c.in-Some-cut.more.now) (sym c.in-Some-cut.ensures.parts)) refl

pub returns-in-None : goal.returns-in-None
returns-in-None c = rw (c.in-Some.is, cut_no 32 c.in-Some.text.now (sym c.in-None.ensures.parts)) refl
