use Rattle.std.proofs.Common.{sym, ap, ◌∙◌, arith}
use Rattle.std.specs.Prelude.{option_copied}
use Rattle.bpf_cert.specs.View.{label_view}
use Rattle.bpf_cert.specs.Limits.{slot_before}
use Rattle.bpf_check.proofs.SearchLemmas.{is_rising-map, among_empty, among_above, among_below, among_this, among_other, among_none, among_later}
use Rattle.bpf_check.proofs.labels.label_among.Goals as goal
use Rattle.bpf_check.proofs.labels.label_among.Goals.{then-is_empty-via-then-is_empty, then-is_empty-via-else-is_empty+then-labels-slot}

pub last_near-until-requires : goal.last_near-until-requires
last_near-until-requires c = sym (is_rising-map slot_before label_view c.args.labels.now) ∙ c.requires

pub returns-then-is_empty-clause-label : goal.returns-then-is_empty-clause-label
returns-then-is_empty-clause-label c =
    let rising = sym (is_rising-map slot_before label_view c.args.labels.now) ∙ c.requires in
    elim c.then-is_empty.branch [
      | then-is_empty-via-then-is_empty w ↦ among_empty (λ l. l.slot) label_view c.args.slot c.args.labels.now (sym w.if-is_empty.true ∙ c.is_empty.ensures)
      | then-is_empty-via-else-is_empty+then-labels-slot w ↦ among_below (λ l. l.slot) label_view c.args.slot c.args.labels.now w.index-labels-labels.result rising w.index-labels-labels.is w.if-labels-slot.true
    ]

pub returns-then-is_empty-clause-until : goal.returns-then-is_empty-clause-until
returns-then-is_empty-clause-until c n above high =
    let rising = sym (is_rising-map slot_before label_view c.args.labels.now) ∙ c.requires in
    elim c.then-is_empty.branch [
      | then-is_empty-via-then-is_empty w ↦ sym (among_empty (λ l. l.slot) label_view n c.args.labels.now (sym w.if-is_empty.true ∙ c.is_empty.ensures))
      | then-is_empty-via-else-is_empty+then-labels-slot w ↦ let lower = w.if-labels-slot.true in sym (among_below (λ l. l.slot) label_view n c.args.labels.now w.index-labels-labels.result rising w.index-labels-labels.is (omega (arith, lower, above)))
    ]

pub returns-then-slot-first-clause-label : goal.returns-then-slot-first-clause-label
returns-then-slot-first-clause-label c = among_above (λ l. l.slot) label_view c.args.slot c.args.labels.now c.index-labels-0.result (sym (is_rising-map slot_before label_view c.args.labels.now) ∙ c.requires) c.if-slot-first.true

pub returns-then-slot-first-clause-until : goal.returns-then-slot-first-clause-until
returns-then-slot-first-clause-until c n above high = sym (among_above (λ l. l.slot) label_view n c.args.labels.now c.index-labels-0.result (sym (is_rising-map slot_before label_view c.args.labels.now) ∙ c.requires) high)

pub returns-in_default-clause-label : goal.returns-in_default-clause-label
returns-in_default-clause-label c = among_none (λ l. l.slot) label_view c.args.slot c.args.labels.now (sym (is_rising-map slot_before label_view c.args.labels.now) ∙ c.requires) (sym (ap option_copied c.in_default.is) ∙ c.last_near-until.ensures.last)

pub returns-in_default-clause-until : goal.returns-in_default-clause-until
returns-in_default-clause-until c n above high = among_later (λ l. l.slot) label_view c.args.slot n c.args.labels.now _ (sym (is_rising-map slot_before label_view c.args.labels.now) ∙ c.requires) c.last_near-until.ensures.last (c.last_near-until.ensures.until n (omega (arith, above)) high) above

pub returns-then-label-slot-clause-label : goal.returns-then-label-slot-clause-label
returns-then-label-slot-clause-label c = among_this (λ l. l.slot) label_view c.args.slot c.args.labels.now _ (sym (is_rising-map slot_before label_view c.args.labels.now) ∙ c.requires) (sym (ap option_copied c.in-Some.is) ∙ c.last_near-until.ensures.last) c.if-label-slot.true

pub returns-then-label-slot-clause-until : goal.returns-then-label-slot-clause-until
returns-then-label-slot-clause-until c n above high = among_later (λ l. l.slot) label_view c.args.slot n c.args.labels.now _ (sym (is_rising-map slot_before label_view c.args.labels.now) ∙ c.requires) c.last_near-until.ensures.last (c.last_near-until.ensures.until n (omega (arith, above)) high) above

pub returns-else-label-slot-clause-label : goal.returns-else-label-slot-clause-label
returns-else-label-slot-clause-label c = among_other (λ l. l.slot) label_view c.args.slot c.args.labels.now _ (sym (is_rising-map slot_before label_view c.args.labels.now) ∙ c.requires) (sym (ap option_copied c.in-Some.is) ∙ c.last_near-until.ensures.last) c.if-label-slot.false

pub returns-else-label-slot-clause-until : goal.returns-else-label-slot-clause-until
returns-else-label-slot-clause-until c n above high = among_later (λ l. l.slot) label_view c.args.slot n c.args.labels.now _ (sym (is_rising-map slot_before label_view c.args.labels.now) ∙ c.requires) c.last_near-until.ensures.last (c.last_near-until.ensures.until n (omega (arith, above)) high) above
