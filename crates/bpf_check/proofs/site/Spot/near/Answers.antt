use Rattle.std.proofs.Common.{arith}
use Rattle.std.proofs.Math.Nat.{min-le_left, min-le_right}
use Rattle.bpf_check.proofs.site.Spot.near.Goals as goal

pub returns-clause-value : goal.returns-clause-value
returns-clause-value c =
    let least = c.min.ensures in
    let one = min-le_left c.function_near-within.result.1 c.label_given-unlabelled.result.1 in
    let other = min-le_right c.function_near-within.result.1 c.label_given-unlabelled.result.1 in
    record {
      function = c.function_near-within.ensures.value;
      label = c.label_given-unlabelled.ensures.value;
      limited = c.label_given-unlabelled.ensures.limited;
      quiet = λ n above high.
          let same = c.function_near-within.ensures.until n (omega (arith, above)) (omega (arith, high, least, one)) in
          (c.label_given-unlabelled.ensures.until n above (omega (arith, high, least, other)) same, same);
    }
