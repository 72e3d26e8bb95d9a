use Rattle.std.proofs.Common.{rules, ◌≡◌, inr, ◌++◌, ◌+◌, ◌-◌, ◌<◌, [], ◌∷◌, length, Some, None, Err, sym, ap, ◌∙◌, arith}
use Rattle.bpf_insn.specs.Limits.{max_slots}
use Rattle.bpf_follows.specs.declared.error.NotesError.TheVariants.{Form}
use Rattle.bpf_follows.specs.code.Reading.{taken_at, lines_in, after_lines}
use Rattle.bpf_follows.proofs.Again.{lines_end, lines_full, lines_stop, lines_more}
use Rattle.bpf_follows.proofs.reading.lines_in.Goals as goal

pub returns-then-is_empty-clause-ok : goal.returns-then-is_empty-clause-ok
returns-then-is_empty-clause-ok c =
    let none : length c.loop-slot.rest.now ≡ 0 = search (rules, arith) in
    sym c.loop-slot.invariant ∙ lines_end c.loop-slot.notes.items (max_slots - c.loop-slot.slot) c.loop-slot.slot c.loop-slot.rest.now none

pub returns-in-None-clause-err : goal.returns-in-None-clause-err
returns-in-None-clause-err c =
    let some : 0 < length c.loop-slot.rest.now = search (rules, arith) in
    let none : taken_at c.loop-slot.slot c.loop-slot.rest.now ≡ None = search rules in
    inr (sym c.loop-slot.invariant ∙ lines_stop c.loop-slot.notes.items c.loop-slot.slot c.loop-slot.rest.now some c.loop-slot-test.true none)

pub loop-slot-preserved : goal.loop-slot-preserved
loop-slot-preserved c =
    let some : 0 < length c.loop-slot.rest.now = search (rules, arith) in
    let taken : taken_at c.loop-slot.slot c.loop-slot.rest.now ≡ Some (c.in-Some.note, c.in-Some.more.now) = search rules in
    let pushed : c.push.new.self.items ≡ c.loop-slot.notes.items ++ c.in-Some.note ∷ [] = search rules in
    ap (λ l. after_lines l (lines_in (max_slots - (c.loop-slot.slot + 1)) (c.loop-slot.slot + 1) c.in-Some.more.now)) pushed
    ∙ lines_more c.loop-slot.notes.items c.loop-slot.slot c.loop-slot.rest.now c.in-Some.note c.in-Some.more.now some c.loop-slot-test.true taken
    ∙ c.loop-slot.invariant

pub returns-then-is_empty-2-clause-ok : goal.returns-then-is_empty-2-clause-ok
returns-then-is_empty-2-clause-ok c =
    let none : length c.loop-slot.rest.now ≡ 0 = search (rules, arith) in
    sym c.loop-slot.invariant ∙ lines_end c.loop-slot.notes.items (max_slots - c.loop-slot.slot) c.loop-slot.slot c.loop-slot.rest.now none

pub returns-else-is_empty-2-clause-err : goal.returns-else-is_empty-2-clause-err
returns-else-is_empty-2-clause-err c =
    let some : 0 < length c.loop-slot.rest.now = search (rules, arith) in
    let over : max_slots - c.loop-slot.slot ≡ 0 = omega (arith, c.loop-slot-test.false) in
    let last : c.loop-slot.slot + 2 ≡ 65538 = omega (arith, c.loop-slot-test.false, c.loop-slot.auto.slot-end) in
    inr (sym c.loop-slot.invariant ∙ lines_full c.loop-slot.notes.items (max_slots - c.loop-slot.slot) c.loop-slot.slot c.loop-slot.rest.now some over ∙ ap (λ n. Err (Form n)) last)
