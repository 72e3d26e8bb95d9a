use Rattle.std.proofs.Common.{◌≡◌, sym, ap, subst, true, arith, Ok}
use Rattle.std.proofs.lemmas.Grind.{common_steps}
use Rattle.std.specs.Prelude.{IfOk}
use Rattle.std.specs.List.{list_all}
use Rattle.bpf_cert.specs.Limits.{is_limited_term}
use Rattle.bpf_cert.proofs.FindingLemmas.{joined_ok}
use Rattle.bpf_cert.proofs.JudgeLemmas.{label_found, label_spelled, label_never}
use Rattle.std.specs.Prelude.{option_map, map}
use Rattle.bpf_cert.specs.code.Standing.{ruled}
use Rattle.bpf_cert.specs.Spelling.{term_of}
use Rattle.bpf_cert.proofs.standing.Standing.label.Goals as goal

pub returns-in_default-clause-value : goal.returns-in_default-clause-value
returns-in_default-clause-value c = λ before st. sym (ap (ruled before) c.in_default.ensures)

pub returns-then-not-may_have_label-clause-value : goal.returns-then-not-may_have_label-clause-value
returns-then-not-may_have_label-clause-value c = λ before st. label_never before _ c.in-Some.at.now c.in-Some.base.now (option_map (λ x. x.now) c.in-Some.terms) c.may_have_label.result c.in-Some.ensures (c.may_have_label.ensures before st) c.if-not-may_have_label.true

pub returns-in-Ok-clause-value : goal.returns-in-Ok-clause-value
returns-in-Ok-clause-value c = λ before st. let spelled = label_spelled before c.args.self _ c.in-Some.at.now c.in-Some.base.now (option_map (λ x. x.now) c.in-Some.terms) c.number-slot.result c.number-most.result c.are_plain.result c.rises.result c.both-canonical.result c.both-limited.result c.both.result c.tested-found.result c.all_terms.result c.in-Ok.terms (record { stands = st; form = c.in-Some.ensures; slot_is = c.number-slot.ensures; most_is = c.number-most.ensures; plain_is = c.are_plain.ensures; rise_is = c.rises.ensures; canonical_is = c.both-canonical.ensures; limited_is = c.both-limited.ensures; all_is = c.both.ensures; own_is = c.tested-found.ensures }) c.in-Ok.ensures in rw (spelled.0, spelled.1) (label_found before c.args.self _ c.in-Some.at.now c.in-Some.base.now (option_map (λ x. x.now) c.in-Some.terms) c.number-slot.result c.number-most.result c.are_plain.result c.rises.result c.both-canonical.result c.both-limited.result c.both.result c.tested-found.result (λ v. map term_of v.items) c.all_terms.result (Ok c.in-Ok.terms) c.may_have_label.result (record { stands = st; form = c.in-Some.ensures; slot_is = c.number-slot.ensures; most_is = c.number-most.ensures; plain_is = c.are_plain.ensures; rise_is = c.rises.ensures; canonical_is = c.both-canonical.ensures; limited_is = c.both-limited.ensures; all_is = c.both.ensures; own_is = c.tested-found.ensures }) (c.may_have_label.ensures before st) c.if-not-may_have_label.false c.all_terms.ensures.value c.in-Ok.ensures)

pub returns-in-Err-clause-value : goal.returns-in-Err-clause-value
returns-in-Err-clause-value c = λ before st. label_found before c.args.self _ c.in-Some.at.now c.in-Some.base.now (option_map (λ x. x.now) c.in-Some.terms) c.number-slot.result c.number-most.result c.are_plain.result c.rises.result c.both-canonical.result c.both-limited.result c.both.result c.tested-found.result (λ v. map term_of v.items) c.all_terms.result _ c.may_have_label.result (record { stands = st; form = c.in-Some.ensures; slot_is = c.number-slot.ensures; most_is = c.number-most.ensures; plain_is = c.are_plain.ensures; rise_is = c.rises.ensures; canonical_is = c.both-canonical.ensures; limited_is = c.both-limited.ensures; all_is = c.both.ensures; own_is = c.tested-found.ensures }) (c.may_have_label.ensures before st) c.if-not-may_have_label.false c.all_terms.ensures.value c.in-Err.ensures

pub returns-in-Ok-clause-kept : goal.returns-in-Ok-clause-kept
returns-in-Ok-clause-kept c =
    let terms = (joined_ok c.tested-found.result c.all_terms.result c.in-Ok.terms (sym c.in-Ok.ensures)).1 in
    (grind (arith, common_steps), subst (λ r. IfOk r (λ v. list_all is_limited_term v.items ≡ true)) terms c.all_terms.ensures.kept)
