use Rattle.std.proofs.Common.{rules, ◌≡◌, ◌++◌, ◌+◌, drop, get_or, None, ap, ◌∙◌}
use Rattle.bpf_follows.specs.NotesText.{note_line, note_lines}
use Rattle.bpf_follows.proofs.Loops.{lines_put, lines_done}
use Rattle.bpf_follows.proofs.writing.write.Goals as goal

pub loop-slot-preserved : goal.loop-slot-preserved
loop-slot-preserved c =
    let at = c.loop-slot.slot in
    let put : c.put_line.new.text.items ≡ c.loop-slot.text.items ++ note_line at (get_or c.args.notes.now at None) = search rules in
    ap (λ t. t ++ note_lines (at + 1) (drop (at + 1) c.args.notes.now)) put ∙ lines_put c.loop-slot.text.items _ at c.args.notes.now c.loop-slot-test.true c.loop-slot.invariant

pub returns : goal.returns
returns c = lines_done c.loop-slot.text.items _ c.loop-slot.slot c.args.notes.now c.loop-slot-test.false c.loop-slot.invariant
