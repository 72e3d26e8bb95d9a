use Rattle.std.proofs.Common.{◌≡◌, ◌∷◌, ◌++◌, [], map, ap, sym, ◌∙◌}
use Rattle.std.proofs.lemmas.List.{map-append}
use Rattle.bpf_text.specs.code.LineReading.{code_of, labels_at}
use Rattle.bpf_text.specs.code.Seen.{label_seen}
use Rattle.bpf_text.proofs.PartedLemmas.{said_last, said_never, said_later, labels_last, label_more, colon_behind, longer, on_ok}
use Rattle.bpf_text.proofs.line_read.read_line.Goals as goal

pub returns-in_default-clause-said : goal.returns-in_default-clause-said
returns-in_default-clause-said c =
    c.said-said.ensures ∙ said_last c.labels.from.now c.args.text.now c.split_part.result.0.now c.split_part.result.1.now c.split_part.ensures (sym c.in_default.ensures) c.labels.invariant.said

pub returns-in_default-clause-labels : goal.returns-in_default-clause-labels
returns-in_default-clause-labels c =
    on_ok c.said-said.result (labels_last c.args.line c.args.slot c.labels.from.now c.split_part.result.0.now c.split_part.result.1.now (map label_seen c.labels.labels.items)
    (map label_seen c.args.labels.now.items ++ labels_at c.args.line c.args.slot (code_of c.args.text.now)) c.split_part.ensures (sym c.in_default.ensures) c.labels.invariant.labels)

pub returns-in_default-label_name-clause-said : goal.returns-in_default-label_name-clause-said
returns-in_default-label_name-clause-said c =
    said_never c.labels.from.now c.args.text.now c.split_part.result.0.now c.split_part.result.1.now c.in-Some.behind.now c.split_part.ensures (sym c.in-Some.ensures) c.in_default-label_name.ensures c.labels.invariant.said

pub labels-preserved : goal.labels-preserved
labels-preserved c =
    let items : map label_seen c.push.new.self.items ≡ map label_seen c.labels.labels.items ++ record { name = c.in-Some-label_name.name.now; slot = c.args.slot; line = c.args.line } ∷ [] = ap (map label_seen) c.in_ok-push.ensures.items ∙ map-append label_seen c.labels.labels.items _ in
    record {
      said = said_later c.labels.from.now c.args.text.now c.split_part.result.0.now c.split_part.result.1.now c.in-Some.behind.now c.in-Some-label_name.name.now c.split_part.ensures (sym c.in-Some.ensures) c.in-Some-label_name.ensures c.labels.invariant.said;
      rest = (colon_behind c.labels.from.now c.split_part.result.0.now c.split_part.result.1.now c.in-Some.behind.now c.split_part.ensures (sym c.in-Some.ensures)).1 ∙ c.labels.invariant.rest;
      labels = ap (λ ls. ls ++ labels_at c.args.line c.args.slot (code_of c.in-Some.behind.now)) items
          ∙ label_more c.args.line c.args.slot c.labels.from.now c.split_part.result.0.now c.split_part.result.1.now c.in-Some.behind.now c.in-Some-label_name.name.now (map label_seen c.labels.labels.items)
          (map label_seen c.args.labels.now.items ++ labels_at c.args.line c.args.slot (code_of c.args.text.now)) c.split_part.ensures (sym c.in-Some.ensures) c.in-Some-label_name.ensures c.labels.invariant.labels;
      kept = longer c.args.labels.now.items c.labels.labels.items c.push.new.self.items _ c.labels.invariant.kept c.in_ok-push.ensures.items;
    }
