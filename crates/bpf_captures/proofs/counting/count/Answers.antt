use Rattle.std.proofs.Common.{◌≡◌, ◌+◌, ap, ◌∙◌, arith}
use Rattle.bpf_captures.proofs.CountLemmas.{counted_more}
use Rattle.bpf_captures.proofs.counting.count.Goals as goal

pub returns-in-Ok : goal.returns-in-Ok
returns-in-Ok c = λ values h.
    let more : c.in-Some.times ≡ c.times_of.result + 1 = grind arith in
    counted_more values c.args.counts.now.entries c.insert.new.self.entries c.args.value c.in-Some.times h (more ∙ ap (λ n. n + 1) c.times_of.ensures) c.in-Ok.ensures.updates.0 c.insert.ensures.ordered
