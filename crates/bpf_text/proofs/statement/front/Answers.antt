use Rattle.std.proofs.Common.{Some, None, sym, ap, ◌∙◌}
use Rattle.bpf_text.specs.code.StatementReading.{plainly}
use Rattle.bpf_text.proofs.FrontLemmas.{no_word, a_register, no_register}
use Rattle.bpf_text.proofs.statement.front.Goals as goal

pub returns-in_default : goal.returns-in_default
returns-in_default c = c.plainly.ensures ∙ ap plainly c.store.ensures ∙ sym (no_word c.args.text.now c.in_default.ensures)

pub returns-in-Some-register_named : goal.returns-in-Some-register_named
returns-in-Some-register_named c = c.plainly-in-Some-register_named.ensures ∙ ap plainly c.assignment.ensures ∙ sym (a_register c.args.text.now c.in-Some.first.now c.in-Some.rest.now c.in-Some-register_named.dst c.in-Some.ensures c.in-Some-register_named.ensures)

pub returns-in-Some-keyword_named : goal.returns-in-Some-keyword_named
returns-in-Some-keyword_named c = c.keyword.ensures ∙ sym (no_register c.args.text.now c.in-Some.first.now c.in-Some.rest.now (Some c.in-Some-keyword_named.found) c.in-Some.ensures c.in_default-register_named.ensures c.in-Some-keyword_named.ensures)

pub returns-in-None : goal.returns-in-None
returns-in-None c = c.plainly-in-None.ensures ∙ ap plainly c.store-in-None.ensures ∙ sym (no_register c.args.text.now c.in-Some.first.now c.in-Some.rest.now None c.in-Some.ensures c.in_default-register_named.ensures c.in-None.ensures)
