use Rattle.std.proofs.Common.{◌≡◌, ◌++◌, true, false, refl, rules, subst}
use Rattle.std.specs.Prelude.{is_some}
use Rattle.bpf_insn.specs.Written.{AppendsBeginning, Gathers}
use Rattle.bpf_c.proofs.SaysLemmas.{says_put, says_failed}
use Rattle.bpf_c.proofs.page.Waiting.put.Goals as goal

pub returns-in-Err : goal.returns-in-Err
returns-in-Err g c =
    let before = g.W.Write.contents c.args.out.now in
    let after = g.W.Write.contents c.put.new.out in
    let idle : is_some c.self.inside.fault ≡ false = search rules in
    let begun : AppendsBeginning before after (c.self.inside.pending ++ c.args.text.now)
    = subst (λ t. AppendsBeginning before after (c.self.inside.pending ++ t)) c.as_bytes.ensures.value c.in-Err.ensures.err in
    rw (← c.self.view_is)
    (says_failed before after (record { waits = c.self.inside.pending; failed = is_some c.self.inside.fault }) (record { waits = c.put.new.self; failed = true }) c.args.text.now idle refl begun)

pub returns-in_default : goal.returns-in_default
returns-in_default g c =
    let before = g.W.Write.contents c.args.out.now in
    let after = g.W.Write.contents c.put.new.out in
    let idle : is_some c.self.inside.fault ≡ false = search rules in
    let gathers : Gathers before after c.self.inside.pending c.put.new.self c.args.text.now
    = subst (λ t. Gathers before after c.self.inside.pending c.put.new.self t) c.as_bytes.ensures.value c.in_default.ensures.ok in
    rw (← c.self.view_is)
    (says_put before after (record { waits = c.self.inside.pending; failed = is_some c.self.inside.fault })
    (record { waits = c.put.new.self; failed = is_some c.self.inside.fault }) c.args.text.now idle idle gathers)
