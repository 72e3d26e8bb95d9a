use Rattle.std.proofs.Common.{rules, ◌≡◌, Some, IfErr}
use Rattle.std.specs.String.{string_bytes}
use Rattle.bpf_answers.specs.Loaded.{ShortTextAt, TextFails}
use Rattle.bpf_command.proofs.ExplainedLemmas.{lines_read, lines_unread, no_table}
use Rattle.bpf_command.proofs.commands.explain.lines_at.Goals as goal

pub returns-in_err-table-clause-err : goal.returns-in_err-table-clause-err
returns-in_err-table-clause-err g c =
    let at = g.P.Places.opens in
    let is : c.args.lines ≡ Some c.in-Some.name = search rules in
    let fails : IfErr c.from_residual.result (TextFails at c.args.places.now c.in-Some.name.now c.text_at.new.places) = search rules in
    lines_unread c.from_residual.result at c.args.places.now c.args.lines c.in-Some.name c.text_at.new.places is fails

pub returns-then-not-is_table-clause-err : goal.returns-then-not-is_table-clause-err
returns-then-not-is_table-clause-err g c =
    let at = g.P.Places.opens in
    let is : c.args.lines ≡ Some c.in-Some.name = search rules in
    let read : ShortTextAt at c.args.places.now c.in-Some.name.now c.text_at.new.places (λ bytes. string_bytes c.in_ok-table.table ≡ bytes) = c.in_ok-table.ensures.ok in
    no_table at c.args.places.now c.args.lines c.in-Some.name c.text_at.new.places is read

pub returns-clause-ok : goal.returns-clause-ok
returns-clause-ok g c =
    let at = g.P.Places.opens in
    let is : c.args.lines ≡ Some c.in-Some.name = search rules in
    let read : ShortTextAt at c.args.places.now c.in-Some.name.now c.text_at.new.places (λ bytes. string_bytes c.in_ok-table.table ≡ bytes) = c.in_ok-table.ensures.ok in
    lines_read at c.args.places.now c.args.lines c.in-Some.name c.text_at.new.places (string_bytes c.in_ok-table.table) is read
