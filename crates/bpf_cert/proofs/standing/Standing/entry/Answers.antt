use Rattle.std.proofs.Common.{sym, ◌∙◌, ap, Ok}
use Rattle.bpf_cert.proofs.JudgeLemmas.{entry_found, entry_plain, entry_never}
use Rattle.std.proofs.Common.{[], subst}
use Rattle.std.specs.Prelude.{IfOk}
use Rattle.bpf_cert.specs.code.Contents.{IsContent}
use Rattle.bpf_cert.specs.code.Findings.{valued}
use Rattle.bpf_cert.proofs.FindingLemmas.{joined_ok}
use Rattle.bpf_cert.proofs.ContentLemmas.{content_form}
use Rattle.bpf_cert.specs.code.Seen.{place_seen}
use Rattle.bpf_cert.specs.code.Standing.{ruled}
use Rattle.bpf_cert.specs.Spelling.{content_of}
use Rattle.bpf_cert.proofs.standing.Standing.entry.Goals as goal

pub returns-in_default-clause-value : goal.returns-in_default-clause-value
returns-in_default-clause-value c = λ before st. sym (ap (ruled before) c.in_default.ensures)

pub returns-then-not-may_have_entry-clause-value : goal.returns-then-not-may_have_entry-clause-value
returns-then-not-may_have_entry-clause-value c = λ before st. entry_never before c.args.name.now _ (place_seen c.in-Some.place) c.in-Some.said.now c.may_have_entry.result c.in-Some.ensures (c.may_have_entry.ensures before st) c.if-not-may_have_entry.true

pub place_value-requires-clause-form : goal.place_value-requires-clause-form
place_value-requires-clause-form c = c.in-Some.ensures.0

pub place_value-requires-clause-plain : goal.place_value-requires-clause-plain
place_value-requires-clause-plain c = (entry_plain [] c.args.self c.args.name.now [] (place_seen c.in-Some.place) c.in-Some.said.now c.is_plain_place.result c.place_rises.result c.both-canonical.result c.is_limited_place.result c.tested-found.result c.content.result c.in-Ok.content c.tested-found.ensures c.both-canonical.ensures c.is_plain_place.ensures c.is_limited_place.ensures c.in-Ok.ensures).0

pub place_value-requires-clause-limited : goal.place_value-requires-clause-limited
place_value-requires-clause-limited c = (entry_plain [] c.args.self c.args.name.now [] (place_seen c.in-Some.place) c.in-Some.said.now c.is_plain_place.result c.place_rises.result c.both-canonical.result c.is_limited_place.result c.tested-found.result c.content.result c.in-Ok.content c.tested-found.ensures c.both-canonical.ensures c.is_plain_place.ensures c.is_limited_place.ensures c.in-Ok.ensures).1

pub returns-in-Ok-clause-value : goal.returns-in-Ok-clause-value
returns-in-Ok-clause-value c = λ before st. rw c.place_value.ensures.spelled (entry_found before c.args.self c.args.name.now _ (place_seen c.in-Some.place) c.in-Some.said.now c.is_plain_place.result c.place_rises.result c.both-canonical.result c.is_limited_place.result c.tested-found.result content_of c.content.result (Ok c.in-Ok.content) c.may_have_entry.result (record { stands = st; form = c.in-Some.ensures; plain_is = c.is_plain_place.ensures; rise_is = c.place_rises.ensures; canonical_is = c.both-canonical.ensures; limited_is = c.is_limited_place.ensures; own_is = c.tested-found.ensures }) (c.may_have_entry.ensures before st) c.if-not-may_have_entry.false c.content.ensures.value c.in-Ok.ensures)

pub returns-in-Ok-clause-kept : goal.returns-in-Ok-clause-kept
returns-in-Ok-clause-kept c =
    let content = (joined_ok c.tested-found.result c.content.result c.in-Ok.content (sym c.in-Ok.ensures)).1 in
    record {
      known = subst (λ r. IfOk r IsContent) content c.content.ensures.kept;
      form = rw c.place_value.ensures.spelled (content_form (place_seen c.in-Some.place) c.in-Some.said.now (content_of c.in-Ok.content) (sym c.content.ensures.value ∙ ap (valued content_of) content));
      limited = c.place_value.ensures.value;
    }

pub returns-in-Err-clause-value : goal.returns-in-Err-clause-value
returns-in-Err-clause-value c = λ before st. entry_found before c.args.self c.args.name.now _ (place_seen c.in-Some.place) c.in-Some.said.now c.is_plain_place.result c.place_rises.result c.both-canonical.result c.is_limited_place.result c.tested-found.result content_of c.content.result _ c.may_have_entry.result (record { stands = st; form = c.in-Some.ensures; plain_is = c.is_plain_place.ensures; rise_is = c.place_rises.ensures; canonical_is = c.both-canonical.ensures; limited_is = c.is_limited_place.ensures; own_is = c.tested-found.ensures }) (c.may_have_entry.ensures before st) c.if-not-may_have_entry.false c.content.ensures.value c.in-Err.ensures
