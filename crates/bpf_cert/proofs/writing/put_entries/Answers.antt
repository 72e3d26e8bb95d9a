use Rattle.std.proofs.Common.{◌+◌, drop, ap, arith}
use Rattle.std.proofs.lemmas.Result.{err_from_is_err_and}
use Rattle.bpf_state.specs.declared.known.SlotState.TheVariants.{Bytes}
use Rattle.bpf_cert.specs.Spelling.{spelled_place, lines_text, lines_from, entry_lines, contents}
use Rattle.bpf_cert.proofs.WritingLemmas.{left_step, left_stop, left_done, next_entry, length-contents}
use Rattle.bpf_cert.proofs.writing.put_entries.Goals as goal

pub returns-in_err-put_entry : goal.returns-in_err-put_entry
returns-in_err-put_entry g c = let p = err_from_is_err_and c.from_residual.result c.from_residual.ensures.1 in rw p.1
    (left_stop (lines_text (entry_lines (spelled_place c.place_at.result) c.content_at.result)) (lines_text (lines_from (c.loop-j.j + 1) (drop (c.loop-j.j + 1) (contents c.args.state.now)))) (next_entry (contents c.args.state.now) c.loop-j.j (spelled_place c.place_at.result) c.content_at.result (Bytes 0) (omega (arith, c.loop-j-test.true, c.places_said-j-end.ensures.most, length-contents c.args.state.now c.valid.ensures.state)) c.place_at.ensures c.content_at.ensures) c.loop-j.invariant c.in_err-put_entry.ensures)

pub loop-j-preserved : goal.loop-j-preserved
loop-j-preserved g c = left_step (lines_text (entry_lines (spelled_place c.place_at.result) c.content_at.result)) (lines_text (lines_from (c.loop-j.j + 1) (drop (c.loop-j.j + 1) (contents c.args.state.now)))) (next_entry (contents c.args.state.now) c.loop-j.j (spelled_place c.place_at.result) c.content_at.result (Bytes 0) (omega (arith, c.loop-j-test.true, c.places_said-j-end.ensures.most, length-contents c.args.state.now c.valid.ensures.state)) c.place_at.ensures c.content_at.ensures) c.loop-j.invariant c.in_ok-put_entry.ensures

pub returns : goal.returns
returns g c = left_done (ap lines_text (c.places_said-j-end.ensures.rest c.loop-j.j (omega (arith, c.loop-j-test.false)))) c.loop-j.invariant
