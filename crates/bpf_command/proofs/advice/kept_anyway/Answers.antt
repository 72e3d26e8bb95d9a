use Rattle.std.proofs.Common.{rules, ◌≡◌, IfOk, false, nat_eq, [], ◌∷◌, sym, subst}
use Rattle.std.specs.Prelude.{codes, decimal, if◌then◌else◌}
use Rattle.std.specs.List.{concat}
use Rattle.std.specs.String.{string_bytes}
use Rattle.std.proofs.lemmas.Bool.{ne_eqb}
use Rattle.bpf_command.proofs.advice.kept_anyway.Goals as goal

pub returns-else-untouched-eq0 : goal.returns-else-untouched-eq0
returns-else-untouched-eq0 c =
    let some : nat_eq c.args.untouched 0 ≡ false = ne_eqb c.args.untouched 0 c.if-untouched-eq0.false in
    subst
    (λ b. IfOk c.format-else-untouched-eq0.result (λ line. string_bytes line ≡ (if b
    then codes "shown to keep the meaning of each run"
    else concat (codes "shown to keep the meaning of runs that come to the lowest " ∷ decimal c.args.untouched ∷ codes " bytes of a frame by r10 alone" ∷ []))))
    (sym some)
    (search rules)
