use Rattle.std.proofs.Common.{sym, ◌∙◌}
use Rattle.bpf_cert.proofs.HeaderForms.{header_none, header_one, header_two, header_other}
use Rattle.bpf_cert.proofs.header.header_form.Goals as goal

pub returns-in_default : goal.returns-in_default
returns-in_default c = header_none _ c.in_default.ensures

pub returns-then-eq : goal.returns-then-eq
returns-then-eq c = header_one _ _ c.in-Some.version.now _ c.in-Some.ensures (rw c.as_slice.ensures at (sym c.eq.ensures ∙ c.if-eq.true)) c.one_length.ensures

pub returns-then-eq-2 : goal.returns-then-eq-2
returns-then-eq-2 c = header_two _ _ c.in-Some.version.now _ c.in-Some.ensures (rw c.as_slice.ensures at (sym c.eq.ensures ∙ c.if-eq.false)) (rw c.as_slice-2.ensures at (sym c.eq-2.ensures ∙ c.if-eq-2.true)) c.two_lengths.ensures

pub returns : goal.returns
returns c = header_other _ _ c.in-Some.version.now c.in-Some.ensures (rw c.as_slice.ensures at (sym c.eq.ensures ∙ c.if-eq.false)) (rw c.as_slice-2.ensures at (sym c.eq-2.ensures ∙ c.if-eq-2.false))
