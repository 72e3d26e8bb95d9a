use Rattle.std.proofs.Common.{ap, refl, subst, sym, ◌≡◌, ◌∙◌, map, Some, None}
use Rattle.std.specs.String.{string_bytes}
use Rattle.clap.specs.Words.{App, HasKind, app_of, fault_of, found_of, is_simple, is_simple_and_free, rows_of, subcommand_of, subcommand_rows_of, takes}
use Rattle.bpf_command.specs.CommandLine.{bpf}
use Rattle.bpf_command.proofs.RowLemmas.{found_sub, no_sub}
use Rattle.bpf_command.proofs.request.words.request_of.Goals.{in-Some, in-None}
use Rattle.bpf_command.proofs.request.words.request_of.Goals as goal

pub returns-clause-ok : goal.returns-clause-ok
returns-clause-ok c =
    let app_is : app_of c.in_ok-command.field-0 ≡ bpf = c.in_ok-command.ensures.0 in
    let sub : subcommand_rows_of c.in-Ok.matches ≡ subcommand_of bpf (map (λ s. string_bytes s) c.args.words.now)
    = (c.in-Ok.ensures.matches (ap is_simple app_is)).1 ∙ ap (λ (a : App). subcommand_of a (map (λ s. string_bytes s) c.args.words.now)) app_is in
    elim c.match-subcommand.branch [
      | in-Some w ↦
          (let s : subcommand_of bpf (map (λ s. string_bytes s) c.args.words.now) ≡ Some (w.in-Some.name.now, rows_of (found_of w.in-Some.matches.now))
          = sym sub ∙ found_sub _ _ _ w.in-Some.ensures.name w.in-Some.ensures.rows in
          rw (s, w.result-is) w.request_in.ensures)
      | in-None w ↦
          (let s : subcommand_of bpf (map (λ s. string_bytes s) c.args.words.now) ≡ None = sym sub ∙ no_sub _ _ refl w.in-None.ensures.name in
          rw (s, w.result-is) (refl, refl))
    ]

pub returns-clause-judged : goal.returns-clause-judged
returns-clause-judged c =
    let app_is : app_of c.in_ok-command.field-0 ≡ bpf = c.in_ok-command.ensures.0 in
    ap (λ (a : App). fault_of a (map (λ s. string_bytes s) c.args.words.now)) (sym app_is) ∙ c.in-Ok.ensures.kinds (ap is_simple_and_free app_is)

pub returns-in-Err-clause-judged : goal.returns-in-Err-clause-judged
returns-in-Err-clause-judged c =
    let app_is : app_of c.in_ok-command.field-0 ≡ bpf = c.in_ok-command.ensures.0 in
    subst (λ (a : App). HasKind (fault_of a (map (λ s. string_bytes s) c.args.words.now)) c.in-Err.error) app_is (c.in-Err.ensures.kinds (ap is_simple_and_free app_is))

pub returns-in-Err-clause-accepts : goal.returns-in-Err-clause-accepts
returns-in-Err-clause-accepts c = λ h. c.in-Err.ensures.passes (ap (λ (a : App). takes a (map (λ s. string_bytes s) c.args.words.now)) c.in_ok-command.ensures.0 ∙ h)
