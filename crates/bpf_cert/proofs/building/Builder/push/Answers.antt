use Rattle.std.proofs.Common.{◌<◌, ◌^◌, map, ap, sym, subst, ◌∙◌, arith}
use Rattle.std.specs.List.{list_all}
use Rattle.bpf_cert.specs.code.Standing.{value_line, value_place}
use Rattle.bpf_cert.specs.Spelling.{header_line, function_line, label_line}
use Rattle.bpf_cert.specs.Limits.{is_limited_num, is_limited_term, is_limited_header}
use Rattle.bpf_cert.specs.View.{label_view, function_view}
use Rattle.bpf_cert.specs.code.Building.{closed_lines, open_lines}
use Rattle.bpf_cert.specs.code.Sound.{IsLabelState, closed}
use Rattle.bpf_cert.proofs.BuiltLemmas.{built_header, built_function, built_label, built_entry, built_end, unsaid_place}
use Rattle.bpf_cert.proofs.sound.SoundStates.{blank_state}
use Rattle.bpf_cert.proofs.sound.SoundSteps.{limited_number}
use Rattle.bpf_cert.proofs.sound.SoundBuilder.{header_sound, function_sound, label_sound, entry_sound, end_sound}
use Rattle.bpf_cert.proofs.building.Builder.push.Goals as goal
use Rattle.bpf_cert.proofs.building.Builder.push.Goals.{in-Header, in-Function+in_ok-close-in-Function, in-Label+in_ok-close_label-in-Label, in-Entry+in_ok-put-in-Entry, in-End+in_ok-close-in-End}

pub returns : goal.returns
returns c = λ lines built more fine. elim c.match-value.branch [
  | in-Header w ↦ built_header lines c.args.self.now _ (value_line c.args.value) w.in-Header.header built fine (ap value_line w.in-Header.is) (c.after-standing.ensures.stands lines built.stands fine)
      (ap (λ s. s.header) w.self-is) (ap (λ s. closed_lines s) w.self-is)
      (header_sound lines c.args.self.now _ (value_line c.args.value) built fine (ap value_line w.in-Header.is ∙ sym (ap (λ s. header_line s.header) w.self-is)) (c.after-standing.ensures.stands lines built.stands fine)
      (ap (λ s. is_limited_header s.header) w.self-is ∙ (rw w.in-Header.is at c.requires.value)) (ap (λ s. closed s) w.self-is))
  | in-Function+in_ok-close-in-Function w ↦ built_function lines c.args.self.now w.close.new.self _ (value_line c.args.value) _ _ _ built more fine (ap value_line w.in-Function.is) (c.after-standing.ensures.stands lines built.stands fine)
      w.in_ok-close-in-Function.ensures (ap (λ s. s.header) w.self-is) (ap (λ s. closed_lines s) w.self-is) _ (ap (λ s. open_lines s) w.self-is) w.new.ensures.items
      (function_sound lines c.args.self.now w.close.new.self _ (value_line c.args.value) built more fine (ap value_line w.in-Function.is ∙ sym (ap (λ s. function_line (function_view s.function)) w.self-is)) (c.after-standing.ensures.stands lines built.stands fine)
      w.in_ok-close-in-Function.ensures (ap (λ s. s.header) w.self-is) (ap (λ s. closed s) w.self-is) (ap (λ s. map label_view s.function.labels.items) w.self-is ∙ ap (map label_view) w.new.ensures.items)
      (subst (λ n. n < 2 ^ 64) (sym (ap (λ s. s.function.first) w.self-is)) (omega arith)) (subst (λ n. n < 2 ^ 64) (sym (ap (λ s. s.function.depth) w.self-is)) (omega arith))
      (ap (λ s. is_limited_num s.function.ret) w.self-is ∙ limited_number w.in-Function.ret w.valid.ensures))
  | in-Label+in_ok-close_label-in-Label w ↦ built_label lines c.args.self.now w.close_label.new.self _ (value_line c.args.value) _ _ _ built more fine (ap value_line w.in-Label.is) (c.after-standing.ensures.stands lines built.stands fine)
      w.in_ok-close_label-in-Label.ensures (ap (λ s. s.header) w.self-is) (ap (λ s. closed_lines s) w.self-is) (ap (λ s. open_lines s) w.self-is) (ap (λ s. s.label.state) w.self-is ∙ w.blank.ensures) (ap (λ s. label_line (label_view s.label)) w.self-is ∙ sym (ap value_line w.in-Label.is))
      (label_sound lines c.args.self.now w.close_label.new.self _ (value_line c.args.value) built more fine (ap value_line w.in-Label.is ∙ sym (ap (λ s. label_line (label_view s.label)) w.self-is)) (c.after-standing.ensures.stands lines built.stands fine)
      w.in_ok-close_label-in-Label.ensures (ap (λ s. s.header) w.self-is) (ap (λ s. closed s) w.self-is) (ap (λ s. function_view s.function) w.self-is)
      (subst (λ n. n < 2 ^ 64) (sym (ap (λ s. s.label.slot) w.self-is)) (omega arith)) (subst (λ n. n < 2 ^ 64) (sym (ap (λ s. s.label.budget.base) w.self-is)) (omega arith))
      (ap (λ s. list_all is_limited_term s.label.budget.terms.items) w.self-is ∙ (rw w.in-Label.is at c.requires.value).1) (subst IsLabelState (sym (ap (λ s. s.label.state) w.self-is ∙ w.blank.ensures)) blank_state))
  | in-Entry+in_ok-put-in-Entry w ↦ built_entry lines c.args.self.now w.put.new.self _ (value_line c.args.value) w.in-Entry.place w.in-Entry.content built fine (ap value_line w.in-Entry.is) (c.after-standing.ensures.stands lines built.stands fine)
      (rw w.in-Entry.is at c.requires.value) w.in_ok-put-in-Entry.ensures (c.after-standing.ensures.place ∙ ap value_place w.in-Entry.is) (ap (λ s. s.header) w.self-is) (ap (λ s. closed_lines s) w.self-is) (ap (λ s. open_lines s) w.self-is) (ap (λ s. s.label) w.self-is)
      (entry_sound lines c.args.self.now w.put.new.self _ (value_line c.args.value) w.in-Entry.place w.in-Entry.content built fine (ap value_line w.in-Entry.is) (c.after-standing.ensures.stands lines built.stands fine)
      w.in_ok-put-in-Entry.ensures (ap (λ s. s.header) w.self-is) (ap (λ s. closed s) w.self-is) (ap (λ s. function_view s.function) w.self-is) (ap (λ s. s.label) w.self-is))
  | in-End+in_ok-close-in-End w ↦ built_end lines c.args.self.now w.close-in-End.new.self _ (value_line c.args.value) built more fine (ap value_line w.in-End.is) (c.after-standing.ensures.stands lines built.stands fine)
      w.in_ok-close-in-End.ensures (ap (λ s. s.header) w.self-is) (ap (λ s. closed_lines s) w.self-is)
      (end_sound lines c.args.self.now w.close-in-End.new.self _ (value_line c.args.value) built more fine (ap value_line w.in-End.is) (c.after-standing.ensures.stands lines built.stands fine)
      w.in_ok-close-in-End.ensures (ap (λ s. s.header) w.self-is) (ap (λ s. closed s) w.self-is))
]

pub put-requires-clause-unsaid : goal.put-requires-clause-unsaid
put-requires-clause-unsaid c =
    unsaid_place c.requires.built.0 c.args.self.now (value_line c.args.value) c.in-Entry.place c.in-Entry.content c.requires.built.1 c.requires.built.2 (ap value_line c.in-Entry.is) (rw c.in-Entry.is at c.requires.value)
