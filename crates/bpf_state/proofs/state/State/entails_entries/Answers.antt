use Rattle.std.proofs.Common.{◌∙◌, sym, ap}
use Rattle.std.specs.Prelude.{◌&&◌}
use Rattle.std.specs.List.{list_all}
use Rattle.bpf_state.specs.declared.known.RegState.TheVariants.{Ptr}
use Rattle.bpf_state.specs.declared.known.Area.TheVariants.{Frame}
use Rattle.bpf_state.specs.State.{start_of}
use Rattle.bpf_state.specs.Entails.{register_entails, state_entails}
use Rattle.bpf_state.specs.code.Entries.{keeps}
use Rattle.bpf_state.proofs.EntryEntailment.{entails_entries, entails_not}
use Rattle.bpf_state.proofs.state.State.entails_entries.Goals as goal

pub returns-then-entails : goal.returns-then-entails
returns-then-entails c =
    let held = ap (λ v. register_entails v (Ptr (start_of Frame))) (sym c.reg.ensures.value) ∙ ap (λ p. register_entails c.reg.result (Ptr p)) (sym c.start_of.ensures) ∙ sym c.entails.ensures ∙ c.if-entails.true in
    c.keeps_all.ensures ∙ ap (list_all (keeps c.args.self.now)) c.deref.ensures.value
    ∙ sym (ap (λ b. b && list_all (keeps c.args.self.now) c.entries.inside.entries.items) held)
    ∙ entails_entries c.args.self.now c.entries.inside.entries.items c.in_order.ensures c.entries.invariant
    ∙ ap (state_entails c.args.self.now) c.entries.view_is

pub returns-else-entails : goal.returns-else-entails
returns-else-entails c =
    let failed = ap (λ v. register_entails v (Ptr (start_of Frame))) (sym c.reg.ensures.value) ∙ ap (λ p. register_entails c.reg.result (Ptr p)) (sym c.start_of.ensures) ∙ sym c.entails.ensures ∙ c.if-entails.false in
    c.if-entails.false ∙ entails_not c.args.self.now c.entries.inside.entries.items c.in_order.ensures c.entries.invariant failed
    ∙ ap (state_entails c.args.self.now) c.entries.view_is
