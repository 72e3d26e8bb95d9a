use Rattle.std.proofs.Common.{rules, ◌≡◌, ◌+◌, ◌<◌, ◌≤◌, ◌++◌, [], ◌∷◌, length, true, subst, sym, ap, ap₂, ◌∙◌, arith}
use Rattle.std.specs.Prelude.{◌&&◌}
use Rattle.bpf_insn.specs.Instruction.{slots}
use Rattle.bpf_conversion.specs.Parts.{opens, part_at}
use Rattle.bpf_conversion.specs.Claim.{wants_label, label_in}
use Rattle.bpf_conversion.specs.Outline.{AreBegun}
use Rattle.bpf_conversion.proofs.LongestLemmas.{slots_are}
use Rattle.bpf_conversion.proofs.PartLemmas.{narrow}
use Rattle.bpf_conversion.proofs.LabelLemmas.{LabelsTo, labels_same, labels_more, labels_all}
use Rattle.bpf_conversion.proofs.claims.labels.Goals as goal

pub loop-slot-preserved-then-not-wants_label : goal.loop-slot-preserved-then-not-wants_label
loop-slot-preserved-then-not-wants_label c =
    let now = c.args.converted.now in
    let slot = c.loop-slot.slot in
    let low : slot < slots now.program.list = search rules in
    let less : slot < length now.program.list = omega (arith, low, slots_are now.program.list (narrow now c.requires.conversion)) in
    let begun : AreBegun now.starts c.begun-templates.result slot = subst (λ xs. AreBegun xs c.begun-templates.result slot) c.starts.ensures c.begun-templates.ensures.begun in
    let led = c.requires.found.leaders.each slot less in
    let opened : opens c.layout.result.now c.part_at-part.result slot ≡ opens now.layout (part_at now.layout now.marked slot) slot = ap₂ (λ l p. opens l p slot) c.layout.ensures c.part_at-part.ensures in
    let is : c.wants_label.result ≡ wants_label now.layout now.marked now.program.list slot = c.wants_label.ensures ∙ ap₂ (λ a b. a && b) led opened in
    labels_same now c.begun-templates.result c.loop-slot.templates slot c.loop-slot.labels.items c.requires.conversion low (sym is ∙ c.if-not-wants_label.true) begun c.loop-slot.invariant

pub loop-slot-preserved : goal.loop-slot-preserved
loop-slot-preserved c =
    let now = c.args.converted.now in
    let slot = c.loop-slot.slot in
    let low : slot < slots now.program.list = search rules in
    let less : slot < length now.program.list = omega (arith, low, slots_are now.program.list (narrow now c.requires.conversion)) in
    let begun : AreBegun now.starts c.begun-templates.result slot = subst (λ xs. AreBegun xs c.begun-templates.result slot) c.starts.ensures c.begun-templates.ensures.begun in
    let led = c.requires.found.leaders.each slot less in
    let opened : opens c.layout.result.now c.part_at-part.result slot ≡ opens now.layout (part_at now.layout now.marked slot) slot = ap₂ (λ l p. opens l p slot) c.layout.ensures c.part_at-part.ensures in
    let is : c.wants_label.result ≡ wants_label now.layout now.marked now.program.list slot = c.wants_label.ensures ∙ ap₂ (λ a b. a && b) led opened in
    let wanted : c.wants_label.result ≡ true = search rules in
    let all : c.push.new.self.items ≡ c.loop-slot.labels.items ++ c.in_ok-label.label ∷ [] = search rules in
    let here = c.in_ok-label.ensures.ok ∙ ap (λ p. label_in now.layout now.marked now.program.list p slot) c.part_at-part.ensures in
    subst (λ xs. LabelsTo now c.begun-templates.result (slot + 1) xs) (sym all)
    (labels_more now c.begun-templates.result c.loop-slot.templates slot c.loop-slot.labels.items c.in_ok-label.label c.requires.conversion low (sym is ∙ wanted) begun here c.loop-slot.invariant)

pub returns-clause-ok : goal.returns-clause-ok
returns-clause-ok c =
    let now = c.args.converted.now in
    let past : slots now.program.list ≤ c.loop-slot.slot = search rules in
    labels_all now c.loop-slot.templates c.loop-slot.slot c.loop-slot.labels.items c.requires.conversion past c.loop-slot.invariant
