use Rattle.std.proofs.Common.{◌+◌, ◌-◌, ◌<◌, ◌≤◌, refl, sym, ap, ◌∙◌, arith}
use Rattle.bpf_insn.specs.Instruction.{Instructions}
use Rattle.bpf_kept.specs.Guards.{is_ahead}
use Rattle.bpf_kept.proofs.AheadLemmas.{ahead, stops, found, ends, goes, over}
use Rattle.bpf_kept.proofs.guards.is_ahead.Goals as goal

pub ahead-init : goal.ahead-init
unfolding is_ahead
ahead-init g c = refl

pub returns-in-None : goal.returns-in-None
returns-in-None g c =
    let old : Instructions = g.C.Code.program c.args.old.now in
    let test = c.ahead-test.true in
    let more : 0 < c.ahead.left = omega arith in
    sym (stops old c.args.r c.args.need c.ahead.left c.ahead.slot more (sym c.insn_at.ensures.is ∙ c.in-None.is)) ∙ c.ahead.invariant

pub returns-then-meets : goal.returns-then-meets
returns-then-meets g c =
    let old : Instructions = g.C.Code.program c.args.old.now in
    let test = c.ahead-test.true in
    let more : 0 < c.ahead.left = omega arith in
    sym (found old c.args.r c.args.need c.ahead.left c.ahead.slot c.in-Some.insn more (sym c.insn_at.ensures.is ∙ c.in-Some.is) (sym c.meets.ensures ∙ c.if-meets.true)) ∙ c.ahead.invariant

pub returns-then-not-is_passed : goal.returns-then-not-is_passed
returns-then-not-is_passed g c =
    let old : Instructions = g.C.Code.program c.args.old.now in
    let test = c.ahead-test.true in
    let more : 0 < c.ahead.left = omega arith in
    sym (ends old c.args.r c.args.need c.ahead.left c.ahead.slot c.in-Some.insn more (sym c.insn_at.ensures.is ∙ c.in-Some.is) (sym c.meets.ensures ∙ c.if-meets.false) (sym c.is_passed.ensures ∙ c.if-not-is_passed.true)) ∙ c.ahead.invariant

pub ahead-preserved : goal.ahead-preserved
ahead-preserved g c =
    let old : Instructions = g.C.Code.program c.args.old.now in
    let test = c.ahead-test.true in
    let more : 0 < c.ahead.left = omega arith in
    ap (λ k. ahead old c.args.r c.args.need (c.ahead.left - 1) (c.ahead.slot + k)) c.slots-slot.ensures
    ∙ sym (goes old c.args.r c.args.need c.ahead.left c.ahead.slot c.in-Some.insn more (sym c.insn_at.ensures.is ∙ c.in-Some.is) (sym c.meets.ensures ∙ c.if-meets.false) (sym c.is_passed.ensures ∙ c.if-not-is_passed.false)) ∙ c.ahead.invariant

pub returns : goal.returns
returns g c =
    let old : Instructions = g.C.Code.program c.args.old.now in
    let test = c.ahead-test.false in
    let none : c.ahead.left ≤ 0 = omega arith in
    sym (over old c.args.r c.args.need c.ahead.left c.ahead.slot none) ∙ c.ahead.invariant
