use Rattle.std.proofs.Common.{rules}
use Rattle.bpf_answers.specs.Loaded.{LoadsImage}
use Rattle.bpf_command.proofs.JudgedLemmas.{says_so}
use Rattle.bpf_command.proofs.FollowedLemmas.{rewritten_fails, rewritten_says}
use Rattle.bpf_command.specs.Followed.{RewrittenSays}
use Rattle.bpf_command.proofs.commands.follows.rewritten.Goals as goal

pub returns-in-Ok-clause-ok : goal.returns-in-Ok-clause-ok
returns-in-Ok-clause-ok g c =
    let at = g.P.Places.opens in
    let asked = c.args.asked in
    let loads : LoadsImage at asked.order c.args.places.now asked.rewritten.now c.program_at.new.places c.in-Ok.new = search rules in
    says_so c.noted.result _ (RewrittenSays at c.args.places.now asked c.noted.new.places c.args.old.now) (rewritten_says at c.args.places.now asked c.program_at.new.places c.noted.new.places c.args.old.now c.in-Ok.new loads) c.noted.ensures.ok

pub returns-in-Ok-clause-err : goal.returns-in-Ok-clause-err
returns-in-Ok-clause-err g c =
    let at = g.P.Places.opens in
    let asked = c.args.asked in
    let loads : LoadsImage at asked.order c.args.places.now asked.rewritten.now c.program_at.new.places c.in-Ok.new = search rules in
    rewritten_fails c.noted.result at c.args.places.now asked c.program_at.new.places c.noted.new.places c.in-Ok.new loads c.noted.ensures.err
