use Rattle.std.proofs.Common.{rules}
use Rattle.bpf_answers.specs.Loaded.{LoadsImage}
use Rattle.bpf_command.proofs.JudgedLemmas.{says_so}
use Rattle.bpf_command.proofs.FollowedLemmas.{follows_fails, follows_says}
use Rattle.bpf_command.specs.Followed.{FollowsSays}
use Rattle.bpf_command.proofs.commands.follows.followed.Goals as goal

pub returns-in-Ok-clause-ok : goal.returns-in-Ok-clause-ok
returns-in-Ok-clause-ok g c =
    let at = g.P.Places.opens in
    let asked = c.args.asked in
    let loads : LoadsImage at asked.order c.args.places.now asked.original.now c.program_at.new.places c.in-Ok.old = search rules in
    says_so c.rewritten.result _ (FollowsSays at c.args.places.now asked c.rewritten.new.places) (follows_says at c.args.places.now asked c.program_at.new.places c.rewritten.new.places c.in-Ok.old loads) c.rewritten.ensures.ok

pub returns-in-Ok-clause-err : goal.returns-in-Ok-clause-err
returns-in-Ok-clause-err g c =
    let at = g.P.Places.opens in
    let asked = c.args.asked in
    let loads : LoadsImage at asked.order c.args.places.now asked.original.now c.program_at.new.places c.in-Ok.old = search rules in
    follows_fails c.rewritten.result at c.args.places.now asked c.program_at.new.places c.rewritten.new.places c.in-Ok.old loads c.rewritten.ensures.err
