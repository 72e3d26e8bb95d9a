use Rattle.std.proofs.Common.{refl, sym, subst}
use Rattle.bpf_host_calls.specs.Answers.{IsVerifiedFor}
use Rattle.bpf_host_calls.specs.Prepared.{AreOpcodesOf}
use Rattle.bpf_host_calls.proofs.EndLemmas.{as_prepared}
use Rattle.bpf_host_calls.proofs.checked.end_of.Goals as goal

pub end_of_image-requires-clause-verified : goal.end_of_image-requires-clause-verified
end_of_image-requires-clause-verified c =
    let f = c.in_ok-found.found in
    let known = c.in_ok-found.ensures.known.0 refl in
    let may = c.requires.may known.0 known.1 in
    let is = c.in_ok-found.ensures.found may.order may.image may.is_prepared in
    subst (λ i. IsVerifiedFor f.order i c.args.context.now) (sym is.0) (subst (λ o. IsVerifiedFor o may.image c.args.context.now) (sym is.1) may.verified)

pub end_of_image-requires-clause-opcodes : goal.end_of_image-requires-clause-opcodes
end_of_image-requires-clause-opcodes c =
    let f = c.in_ok-found.found in
    let known = c.in_ok-found.ensures.known.0 refl in
    let may = c.requires.may known.0 known.1 in
    let is = c.in_ok-found.ensures.found may.order may.image may.is_prepared in
    subst (λ i. AreOpcodesOf f.order i f.opcodes.now) (sym is.0) (subst (λ o. AreOpcodesOf o may.image f.opcodes.now) (sym is.1) is.2)

pub returns-clause-ends : goal.returns-clause-ends
returns-clause-ends c = λ order image prepared.
    let f = c.in_ok-found.found in
    let is = c.in_ok-found.ensures.found order image prepared in
    as_prepared f.order order f.image.now image c.args.context.now c.end_of_image.result is.1 is.0 c.end_of_image.ensures
