use Rattle.std.proofs.Common.{rules, ◌≡◌, Some, None, sym, ap, ◌∙◌}
use Rattle.bpf_streams.specs.Words.{behind}
use Rattle.bpf_follows.specs.NotesText.{head_line}
use Rattle.bpf_follows.specs.code.Reading.{said_head}
use Rattle.bpf_follows.proofs.Again.{head_none, head_some, head_other}
use Rattle.bpf_follows.proofs.reading.head_in.Goals as goal

pub returns-in_default : goal.returns-in_default
returns-in_default c =
    let none : said_head c.args.text.now ≡ None = sym c.said_head.ensures ∙ c.in_default.is in
    sym (head_none c.args.text.now none)

pub returns-in-Some-behind : goal.returns-in-Some-behind
returns-in-Some-behind c =
    let some : said_head c.args.text.now ≡ Some c.in-Some.runs = sym c.said_head.ensures ∙ c.in-Some.is in
    let line : c.as_slice.result.now ≡ head_line c.in-Some.runs = search rules in
    let left : behind c.as_slice.result.now c.args.text.now ≡ Some c.in-Some-behind.rest.now = sym c.in-Some-behind.ensures in
    sym (head_some c.args.text.now c.in-Some.runs c.in-Some-behind.rest.now some (ap (λ l. behind l c.args.text.now) (sym line) ∙ left))

pub returns-in-None : goal.returns-in-None
returns-in-None c =
    let some : said_head c.args.text.now ≡ Some c.in-Some.runs = sym c.said_head.ensures ∙ c.in-Some.is in
    let line : c.as_slice.result.now ≡ head_line c.in-Some.runs = search rules in
    let left : behind c.as_slice.result.now c.args.text.now ≡ None = sym c.in-None.ensures in
    sym (head_other c.args.text.now c.in-Some.runs some (ap (λ l. behind l c.args.text.now) (sym line) ∙ left))
