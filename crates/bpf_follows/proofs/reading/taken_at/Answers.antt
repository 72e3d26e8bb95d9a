use Rattle.std.proofs.Common.{rules, ◌≡◌, Some, None, sym, ap, ◌∙◌}
use Rattle.bpf_streams.specs.Words.{behind}
use Rattle.bpf_follows.specs.NotesText.{note_line}
use Rattle.bpf_follows.specs.code.Reading.{note_in}
use Rattle.bpf_follows.proofs.Again.{taken_none, taken_some, taken_other}
use Rattle.bpf_follows.proofs.reading.taken_at.Goals as goal

pub returns-in_default : goal.returns-in_default
returns-in_default c =
    let none : note_in c.args.text.now ≡ None = sym c.note_in.ensures ∙ c.in_default.is in
    sym (taken_none c.args.slot c.args.text.now none)

pub returns-in-Some-behind : goal.returns-in-Some-behind
returns-in-Some-behind c =
    let some : note_in c.args.text.now ≡ Some c.in-Some.note = sym c.note_in.ensures ∙ c.in-Some.is in
    let line : c.as_slice.result.now ≡ note_line c.args.slot c.in-Some.note = search rules in
    let left : behind c.as_slice.result.now c.args.text.now ≡ Some c.in-Some-behind.rest.now = sym c.in-Some-behind.ensures in
    sym (taken_some c.args.slot c.args.text.now c.in-Some.note c.in-Some-behind.rest.now some (ap (λ l. behind l c.args.text.now) (sym line) ∙ left))

pub returns-in-None : goal.returns-in-None
returns-in-None c =
    let some : note_in c.args.text.now ≡ Some c.in-Some.note = sym c.note_in.ensures ∙ c.in-Some.is in
    let line : c.as_slice.result.now ≡ note_line c.args.slot c.in-Some.note = search rules in
    let left : behind c.as_slice.result.now c.args.text.now ≡ None = sym c.in-None.ensures in
    sym (taken_other c.args.slot c.args.text.now c.in-Some.note some (ap (λ l. behind l c.args.text.now) (sym line) ∙ left))
