use Rattle.std.proofs.Common.{refl, ap, subst, ◌∙◌, ◌/◌, ◌<◌, ◌≤◌, length, arith}
use Rattle.std.proofs.Math.Nat.{min-le_left, min-le_right}
use Rattle.bpf_check.proofs.SearchLemmas.{in_back, in_front, back_rises, front_rises}
use Rattle.bpf_check.proofs.labels.last_from.Goals as goal

pub rest-init : goal.rest-init
rest-init g c = record { rises = c.requires; same = refl; until = λ n low high. refl }

pub rest-preserved-then-middle-slot : goal.rest-preserved-then-middle-slot
rest-preserved-then-middle-slot g c =
    let le = subst (λ n. n ≤ c.args.slot) (c.begins_at-middle.ensures ∙ ap g.T.Begins.slot c.index-back-0.is) c.if-middle-slot.true in
    record {
      rises = back_rises g.T.Begins.slot c.rest.rest.now _ (length c.rest.rest.now / 2) c.rest.invariant.rises c.split_at.ensures.back;
      same = c.rest.invariant.same ∙ in_back g.T.Begins.slot c.args.slot c.rest.rest.now _ (length c.rest.rest.now / 2) _ c.rest.invariant.rises (omega arith) c.split_at.ensures.back c.index-back-0.is le;
      until = λ n low high. c.rest.invariant.until n low high ∙ in_back g.T.Begins.slot n c.rest.rest.now _ (length c.rest.rest.now / 2) _ c.rest.invariant.rises (omega arith) c.split_at.ensures.back c.index-back-0.is (omega (arith, le, low));
    }

pub rest-preserved : goal.rest-preserved
rest-preserved g c =
    let lt = subst (λ n. c.args.slot < n) (c.begins_at-middle.ensures ∙ ap g.T.Begins.slot c.index-back-0.is) c.if-middle-slot.false in
    let here = c.begins_at-middle.ensures ∙ ap g.T.Begins.slot c.index-back-0.is in
    let least = c.min-until.ensures in
    let old = min-le_left c.rest.until c.begins_at-middle.result in
    let new = min-le_right c.rest.until c.begins_at-middle.result in
    record {
      rises = front_rises g.T.Begins.slot c.rest.rest.now _ (length c.rest.rest.now / 2) c.rest.invariant.rises c.split_at.ensures.front;
      same = c.rest.invariant.same ∙ in_front g.T.Begins.slot c.args.slot c.rest.rest.now _ c.split_at.result.1.now (length c.rest.rest.now / 2) _ (omega arith) c.split_at.ensures.front c.split_at.ensures.back c.index-back-0.is lt;
      until = λ n low high. c.rest.invariant.until n low (omega (arith, high, least, old)) ∙ in_front g.T.Begins.slot n c.rest.rest.now _ c.split_at.result.1.now (length c.rest.rest.now / 2) _ (omega arith) c.split_at.ensures.front c.split_at.ensures.back c.index-back-0.is (omega (arith, high, least, new, here));
    }
