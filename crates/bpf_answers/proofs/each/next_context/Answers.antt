use Rattle.std.proofs.Common.{◌≡◌, ap, subst, length, arith}
use Rattle.std.proofs.lemmas.List.{nil_from_length}
use Rattle.bpf_answers.specs.Lines.{Spelled}
use Rattle.bpf_answers.proofs.LinesLemmas.{next_ended, next_last, none_left, long_refused, turns}
use Rattle.bpf_answers.proofs.each.next_context.Goals as goal

pub returns-in-Long : goal.returns-in-Long
returns-in-Long g c =
    let long = c.in-Long.ensures.taken in
    long_refused _ _ c.next_line-stop.new.line.items long.0 c.in-Long.ensures.one_line long.1 long.2 long.3

pub returns-in-End : goal.returns-in-End
returns-in-End g c =
    let bare : length c.next_line-stop.new.line.items ≡ 0 = grind arith in
    let took = c.in-End.ensures.taken in
    none_left _ _ c.next_line-stop.new.line.items (nil_from_length c.next_line-stop.new.line.items bare) took.0 took.1

pub returns-in-End-2 : goal.returns-in-End-2
returns-in-End-2 g c =
    let some : length c.next_line-stop.new.line.items ≡ 0 → ⊥ = grind arith in
    let took = c.in-End-2.ensures.taken in
    let next = next_last c.args.lines.now c.next_line-stop.new.self c.next_line-stop.new.line.items c.in-End-2.ensures.one_line (λ e. some (ap (λ xs. length xs) e)) took.0 took.1 in
    turns c.args.lines.now c.next_line-stop.new.self c.next_line-stop.new.line.items c.put_context.new.buffer c.put_context.result next
    (subst (λ xs. Spelled xs c.put_context.new.buffer c.put_context.result) c.as_slice.ensures.value c.put_context.ensures)

pub returns-in-LineEnd : goal.returns-in-LineEnd
returns-in-LineEnd g c =
    let next = next_ended c.args.lines.now c.next_line-stop.new.self c.next_line-stop.new.line.items c.in-LineEnd.ensures.one_line c.in-LineEnd.ensures.taken in
    turns c.args.lines.now c.next_line-stop.new.self c.next_line-stop.new.line.items c.put_context-in-LineEnd.new.buffer c.put_context-in-LineEnd.result next
    (subst (λ xs. Spelled xs c.put_context-in-LineEnd.new.buffer c.put_context-in-LineEnd.result) c.as_slice-in-LineEnd.ensures.value c.put_context-in-LineEnd.ensures)
