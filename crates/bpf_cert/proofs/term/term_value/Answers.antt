use Rattle.std.proofs.Common.{arith}
use Rattle.std.proofs.lemmas.Grind.{common_steps}
use Rattle.bpf_cert.proofs.TermLemmas.{term_place, term_down, term_up, weight_again, limited_down, limited_up}
use Rattle.bpf_cert.proofs.term.term_value.Goals as goal
use Rattle.bpf_cert.proofs.term.term_value.Goals.{in-None, in-Some}

pub place_value-place-requires-clause-form : goal.place_value-place-requires-clause-form
place_value-place-requires-clause-form c = term_place c.args.term c.requires.form

pub returns-clause-spelled : goal.returns-clause-spelled
returns-clause-spelled c =
    let weight = weight_again c.args.term c.number-2.result c.number-2.ensures c.requires.form c.requires.plain c.requires.limited in
    elim c.match-term.branch [
      | in-None w ↦ rw w.measure-is (term_down c.args.term c.number-2.result c.place_value-place.result w.in-None.is weight c.place_value-place.ensures.spelled)
      | in-Some w ↦ rw w.measure-is (term_up c.args.term c.number-2.result w.number.result c.place_value-place.result w.in-Some.limit w.in-Some.is weight c.place_value-place.ensures.spelled w.number.ensures c.requires.form c.requires.plain c.requires.limited)
    ]

pub returns-clause-value : goal.returns-clause-value
returns-clause-value c =
    elim c.match-term.branch [
      | in-None w ↦ rw w.measure-is (limited_down c.args.term c.number-2.result c.place_value-place.result c.number-2.ensures c.requires.limited c.place_value-place.ensures.value)
      | in-Some w ↦ rw w.measure-is (limited_up c.args.term c.number-2.result w.number.result c.place_value-place.result w.in-Some.limit w.in-Some.is c.number-2.ensures w.number.ensures c.requires.limited c.place_value-place.ensures.value)
    ]

pub place_value-place-requires-clause-plain : goal.place_value-place-requires-clause-plain
place_value-place-requires-clause-plain c = grind (arith, common_steps)

pub place_value-place-requires-clause-limited : goal.place_value-place-requires-clause-limited
place_value-place-requires-clause-limited c = grind (arith, common_steps)

pub overflow_cast-measure : goal.overflow_cast-measure
overflow_cast-measure c = grind (arith, common_steps)

pub overflow_cast-result : goal.overflow_cast-result
overflow_cast-result c = grind (arith, common_steps)
