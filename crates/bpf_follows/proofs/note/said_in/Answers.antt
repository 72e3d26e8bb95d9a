use Rattle.std.proofs.Common.{rules, ◌≡◌, Some, sym}
use Rattle.std.specs.Prelude.{codes}
use Rattle.bpf_follows.specs.code.Reading.{short_in, extras_in}
use Rattle.bpf_follows.proofs.Again.{lists_are, said_is}
use Rattle.bpf_follows.proofs.note.said_in.Goals as goal

pub returns : goal.returns
returns c =
    let before = c.in_ok-old in
    let more = c.in_ok-extras in
    let old : short_in (codes " old ") c.args.text.now ≡ Some (before.old, before.rest.now) = search rules in
    let extras : extras_in before.rest.now ≡ Some (more.extras, more.rest.now) = search rules in
    let lists = lists_are before.old more.extras _ _ _ _ _ _ _ more.rest.now _ _ _ _ _ _ _ (sym c.facts_in.ensures) (sym c.marks_in.ensures) (sym c.marks_in-2.ensures) (sym c.counters_in.ensures) (sym c.back_in.ensures) (sym c.said_number-spare.ensures) (sym c.said_number-barred.ensures) in
    sym (said_is c.args.text.now before.old more.extras before.rest.now more.rest.now _ old extras lists)
