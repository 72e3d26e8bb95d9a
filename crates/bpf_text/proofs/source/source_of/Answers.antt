use Rattle.std.proofs.Common.{◌≡◌, ◌+◌, ◌≤◌, ◌<◌, ◌++◌, map, length, take, Some, None, option_map, Ok, Err, refl, ap, sym, ◌∙◌, arith, append-nil}
use Rattle.std.proofs.lemmas.List.{map-append}
use Rattle.bpf_text.specs.Statements.{seen}
use Rattle.bpf_text.specs.code.Seen.{label_seen, line_seen, size_left}
use Rattle.bpf_text.specs.code.SourceSeen.{said_seen}
use Rattle.bpf_text.specs.Sources.{before, in_front, statement_slots}
use Rattle.bpf_text.specs.code.LineReading.{behind_it, code_of, fault_at, labels_at, line_in, source_of}
use Rattle.bpf_text.proofs.PartedLemmas.{line_sizes, cut_back, when_ok}
use Rattle.bpf_text.proofs.SourceLemmas.{all_left, none_left, stops, ended, goes_on, says_something, few_slots}
use Rattle.bpf_text.proofs.source.source_of.Goals as goal
use Rattle.bpf_text.proofs.source.source_of.Goals.{in-Some-statement+in_ok-push, in_default-statement}

pub lines-init : goal.lines-init
lines-init c = record {
  line = omega arith;
  slot = omega arith;
  source = rw (c.new-labels.ensures.items, c.new-said.ensures.items) (all_left c.args.text.now);
}

pub returns-in-Err : goal.returns-in-Err
returns-in-Err c =
    let here : option_map (λ x. x.now) c.lines.rest ≡ Some c.in-Some.text.now = ap (option_map (λ x. x.now)) c.in-Some.is in
    let fault : Err c.in-Err.fault ≡ line_in (code_of c.in-Some.text.now) = sym (ap line_seen c.in-Err.is) ∙ c.in_ok-read.ensures.said in
    let kept : c.truncate.new.self.items ≡ c.lines.labels.items =
    c.truncate.ensures.items ∙ ap (λ n. take n c.read_line.new.labels.items) (c.len-above.ensures ∙ c.lines.labels.ok.0) ∙ cut_back c.lines.labels.items c.read_line.new.labels.items c.in_ok-read.ensures.kept in
    rw (kept, c.fault_at.ensures)
    (ended (map label_seen c.lines.labels.items) (map said_seen c.lines.said.items) (Some (fault_at c.lines.line c.in-Err.fault))
    ∙ stops c.lines.line c.lines.slot c.in-Some.text.now c.in-Err.fault (map label_seen c.lines.labels.items) (map said_seen c.lines.said.items) (source_of c.args.text.now) fault (rw here at c.lines.invariant.source))

pub lines-preserved : goal.lines-preserved
lines-preserved c =
    let here : option_map (λ x. x.now) c.lines.rest ≡ Some c.in-Some.text.now = ap (option_map (λ x. x.now)) c.in-Some.is in
    let size : size_left (option_map (λ x. x.now) c.lines.rest) ≡ length c.in-Some.text.now + 1 = ap size_left here in
    let said : Ok (option_map seen c.in-Ok.statement) ≡ line_in (code_of c.in-Some.text.now) = sym (ap line_seen c.in-Ok.is) ∙ c.in_ok-read.ensures.said in
    let labels : map label_seen c.read_line.new.labels.items ≡ map label_seen c.lines.labels.items ++ labels_at c.lines.line c.lines.slot (code_of c.in-Some.text.now) =
    when_ok c.in_ok-read.read.said c.in-Ok.statement c.in-Ok.is c.in_ok-read.ensures.labels in
    let more : option_map (λ x. x.now) c.behind_line-rest.result ≡ behind_it 10 c.in-Some.text.now = c.behind_line-rest.ensures ∙ c.in_ok-read.ensures.rest in
    let sizes : length (code_of c.in-Some.text.now) + size_left (option_map (λ x. x.now) c.behind_line-rest.result) ≤ length c.in-Some.text.now = rw more (line_sizes c.in-Some.text.now) in
    elim c.match-statement.branch [
      | in-Some-statement+in_ok-push w ↦
          let said_here : Ok (Some (seen w.in-Some-statement.statement)) ≡ line_in (code_of c.in-Some.text.now) = sym (ap (λ o. Ok (option_map seen o)) w.in-Some-statement.is) ∙ said in
          let some : 0 < length (code_of c.in-Some.text.now) = says_something (code_of c.in-Some.text.now) (seen w.in-Some-statement.statement) said_here in
          let slots : c.match-statement.slot ≡ c.lines.slot + statement_slots (Some (seen w.in-Some-statement.statement)) = w.slot-is ∙ ap (λ n. c.lines.slot + n) w.slots_of-slot.ensures in
          let few : statement_slots (Some (seen w.in-Some-statement.statement)) ≤ 2 = few_slots (seen w.in-Some-statement.statement) in
          record {
            line = omega (arith, size, sizes);
            slot = omega (arith, size, sizes, some, slots, few);
            source = goes_on c.lines.line c.lines.slot c.in-Some.text.now (before 10 c.in-Some.text.now) (code_of c.in-Some.text.now) (option_map (λ x. x.now) c.behind_line-rest.result) (Some (seen w.in-Some-statement.statement))
                (map label_seen c.lines.labels.items) (map label_seen c.read_line.new.labels.items) (map said_seen c.lines.said.items) (map said_seen c.match-statement.said.items) c.match-statement.slot (source_of c.args.text.now)
                refl more refl said_here labels
                (rw w.said-is (ap (map said_seen) w.in_ok-push.ensures.items ∙ map-append said_seen c.lines.said.items _)) slots (rw here at c.lines.invariant.source);
          }
      | in_default-statement w ↦
          let said_here : Ok None ≡ line_in (code_of c.in-Some.text.now) = sym (ap (λ o. Ok (option_map seen o)) w.in_default-statement.is) ∙ said in
          record {
            line = omega (arith, size, sizes);
            slot = omega (arith, size, sizes, w.slot-is);
            source = goes_on c.lines.line c.lines.slot c.in-Some.text.now (before 10 c.in-Some.text.now) (code_of c.in-Some.text.now) (option_map (λ x. x.now) c.behind_line-rest.result) None
                (map label_seen c.lines.labels.items) (map label_seen c.read_line.new.labels.items) (map said_seen c.lines.said.items) (map said_seen c.match-statement.said.items) c.match-statement.slot (source_of c.args.text.now)
                refl more refl said_here labels
                (rw w.said-is (sym (append-nil (map said_seen c.lines.said.items)))) (omega (arith, w.slot-is)) (rw here at c.lines.invariant.source);
          }
    ]

pub lines-smaller : goal.lines-smaller
lines-smaller c =
    let here : option_map (λ x. x.now) c.lines.rest ≡ Some c.in-Some.text.now = ap (option_map (λ x. x.now)) c.in-Some.is in
    let size : size_left (option_map (λ x. x.now) c.lines.rest) ≡ length c.in-Some.text.now + 1 = ap size_left here in
    let more : option_map (λ x. x.now) c.behind_line-rest.result ≡ behind_it 10 c.in-Some.text.now = c.behind_line-rest.ensures ∙ c.in_ok-read.ensures.rest in
    let sizes : length (code_of c.in-Some.text.now) + size_left (option_map (λ x. x.now) c.behind_line-rest.result) ≤ length c.in-Some.text.now = rw more (line_sizes c.in-Some.text.now) in
    omega (arith, size, sizes)

pub returns : goal.returns
returns c =
    let here : option_map (λ x. x.now) c.lines.rest ≡ None = ap (option_map (λ x. x.now)) c.in_default.is in
    ended (map label_seen c.lines.labels.items) (map said_seen c.lines.said.items) None ∙ ap (in_front (map label_seen c.lines.labels.items) (map said_seen c.lines.said.items)) (sym (none_left c.lines.line c.lines.slot)) ∙ rw here at c.lines.invariant.source
