use Rattle.std.proofs.Common.{sym, ◌∙◌}
use Rattle.bpf_cert.specs.code.Seen.{term_seen}
use Rattle.bpf_cert.proofs.TermLemmas.{fine, sum_more, found_last, pushed, limited_more}
use Rattle.bpf_cert.proofs.term.Terms.add.Goals as goal

pub term_value-requires-clause-plain : goal.term_value-requires-clause-plain
term_value-requires-clause-plain c = (fine c.requires.sum.0 (term_seen c.args.term) c.args.self.now c.may_follow-canonical.result c.has_room-limited.result c.tested-next.result c.joined-self.result c.requires.sum.1
    (c.may_follow-canonical.ensures c.requires.form) c.has_room-limited.ensures c.tested-next.ensures c.joined-self.ensures c.in-Ok.is).plain

pub returns-in-Ok : goal.returns-in-Ok
returns-in-Ok c = λ done sum. sum_more done (term_seen c.args.term) c.args.self.now _ c.may_follow-canonical.result c.has_room-limited.result c.tested-next.result sum c.requires.form
    (c.may_follow-canonical.ensures c.requires.form) c.has_room-limited.ensures c.tested-next.ensures c.joined-self.ensures (found_last c.args.term) c.saturating_sub-self.ensures
    (limited_more c.args.self.now.terms.items c.push.new.self.items c.term_value.result c.push.ensures.items sum.limited c.term_value.ensures.value)
    (λ all. pushed c.args.self.now.terms.items c.push.new.self.items c.term_value.result (term_seen c.args.term) c.push.ensures.items c.term_value.ensures.spelled)

pub returns-in-Err : goal.returns-in-Err
returns-in-Err c = λ done sum. sum_more done (term_seen c.args.term) c.args.self.now _ c.may_follow-canonical.result c.has_room-limited.result c.tested-next.result sum c.requires.form
    (c.may_follow-canonical.ensures c.requires.form) c.has_room-limited.ensures c.tested-next.ensures c.joined-self.ensures (found_last c.args.term) c.saturating_sub-self.ensures
    sum.limited
    (λ all. absurd (let wrong = sym all ∙ c.in-Err.is in cc))
