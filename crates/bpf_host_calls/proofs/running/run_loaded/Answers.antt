use Rattle.std.proofs.Common.{◌≤◌, length, refl, sym, subst}
use Rattle.bpf_host_calls.specs.Answers.{IsVerifiedFor}
use Rattle.bpf_host_calls.specs.Prepared.{AreOpcodesOf}
use Rattle.bpf_host_calls.proofs.EndLemmas.{as_prepared}
use Rattle.bpf_host_calls.proofs.running.run_loaded.Goals as goal

pub end_of_image-requires-clause-verified : goal.end_of_image-requires-clause-verified
end_of_image-requires-clause-verified c =
    let f = c.in-Some.found in
    let known = c.in-Some.ensures.known.0 refl in
    let holds = c.requires.holds known.0 known.1 in
    let is = c.in-Some.ensures.found holds.order holds.image holds.is_loaded.is_prepared in
    let inside = c.if-not-takes.ensures.0 refl in
    let from = subst (λ n. n ≤ length c.args.context.now) holds.is_loaded.numbers.least_is inside.0 in
    let to = subst (λ n. length c.args.context.now ≤ n) holds.is_loaded.numbers.most_is inside.1 in
    let for : IsVerifiedFor holds.order holds.image c.args.context.now = record { least = holds.least; most = holds.most; bound = holds.bound; verified = holds.verified; bound_fits = holds.bound_fits; length_within = (from, to) } in
    subst (λ i. IsVerifiedFor f.order i c.args.context.now) (sym is.0) (subst (λ o. IsVerifiedFor o holds.image c.args.context.now) (sym is.1) for)

pub end_of_image-requires-clause-opcodes : goal.end_of_image-requires-clause-opcodes
end_of_image-requires-clause-opcodes c =
    let f = c.in-Some.found in
    let known = c.in-Some.ensures.known.0 refl in
    let holds = c.requires.holds known.0 known.1 in
    let is = c.in-Some.ensures.found holds.order holds.image holds.is_loaded.is_prepared in
    subst (λ i. AreOpcodesOf f.order i f.opcodes.now) (sym is.0) (subst (λ o. AreOpcodesOf o holds.image f.opcodes.now) (sym is.1) is.2)

pub returns-clause-ends : goal.returns-clause-ends
returns-clause-ends c = λ done order image least most bound loaded verified fits.
    let f = c.in-Some.found in
    let is = c.in-Some.ensures.found order image loaded.is_prepared in
    let inside = c.if-not-takes.ensures.0 refl in
    let from = subst (λ n. n ≤ length c.args.context.now) loaded.numbers.least_is inside.0 in
    let to = subst (λ n. length c.args.context.now ≤ n) loaded.numbers.most_is inside.1 in
    as_prepared f.order order f.image.now image c.args.context.now c.end_of_image.result is.1 is.0 c.end_of_image.ensures least most bound verified fits (from, to)
